-- The commands of the tool, as clap's written definition takes them (docs/formats.md, "Words").
use Rattle.std.specs.Prelude.{ℕ, if◌then◌else◌, option_map, option_and_then, List, [], ◌∷◌, Option, Some, None, true, false, codes}
use Rattle.clap.specs.Words.{Kinds, fault_of, subcommand_of, first_of, Row, Rule, Text, App, Shape, new_rule, new_app, with_rule, with_subcommand}
use Rattle.std.specs.Str.{bytes_eq}
use Rattle.std.specs.Str.Parse.{digits_value, without_leading_plus}
use Rattle.clap.specs.ValueTests.{accepts}
use Rattle.clap.specs.declared.builder.value_parser.ValueParser.TheVariants as parser

-- a required name at its place
abbrev pub name_rule : Text → Rule
name_rule id = record (new_rule id) { required = true }

-- a required option with a number in this range
abbrev pub number_rule : Text → ℕ → ℕ → Rule
number_rule id least most = record (new_rule id) { long = Some id; required = true; parser = Some (parser.Unsigned least most) }

-- the number of cycles: what fits 32 bits, and not 0
abbrev pub cycles_rule : Rule
cycles_rule = number_rule (codes "cycles") 1 4294967295

-- an option with a text, which may be left out
abbrev pub text_rule : Text → Rule
text_rule id = record (new_rule id) { long = Some id }

-- isa IMAGE --steps N [--desc D]
abbrev pub isa_shape : Shape
isa_shape =
    (with_rule (with_rule (with_rule (new_app (codes "isa")) (name_rule (codes "image"))) (number_rule (codes "steps") 1 4294967295))
    (text_rule (codes "desc"))).top

-- run D IMAGE --cycles N, or the same with another name
abbrev pub cycles_shape : Text → Shape
cycles_shape name =
    (with_rule (with_rule (with_rule (new_app name) (name_rule (codes "description"))) (name_rule (codes "image")))
    cycles_rule).top

-- bench D --seed S --blocks B --cycles N
abbrev pub bench_shape : Shape
bench_shape =
    (with_rule (with_rule (with_rule (with_rule (new_app (codes "bench")) (name_rule (codes "description")))
    (number_rule (codes "seed") 0 18446744073709551615)) (number_rule (codes "blocks") 1 4096)) cycles_rule).top

-- pair D IMAGE IMAGE2 --cycles N
abbrev pub pair_shape : Shape
pair_shape =
    (with_rule (with_rule (with_rule (with_rule (new_app (codes "pair")) (name_rule (codes "description"))) (name_rule (codes "image")))
    (name_rule (codes "image2"))) cycles_rule).top

-- no help, no version, and the words begin with the command
abbrev pub bare_app : App
bare_app = let a = new_app (codes "stt") in record a {
  top = record a.top { no_binary_name = true; disable_help_flag = true; disable_help_subcommand = true; disable_version_flag = true; subcommand_required = true };
}

-- the commands of the tool, as clap's definition takes them
abbrev pub tool_app : App
tool_app =
    with_subcommand (with_subcommand (with_subcommand (with_subcommand (with_subcommand bare_app isa_shape) (cycles_shape (codes "run"))) (cycles_shape (codes "trace"))) bench_shape)
    pair_shape

-- the kinds of fault that clap finds in the words
unfoldable pub faults : List Text → Kinds
faults ws = fault_of tool_app ws

-- the subcommand that the words name, and what they give it
unfoldable pub rows_in : List Text → Option (Text × List Row)
rows_in ws = subcommand_of tool_app ws

-- a command with its values, as contracts see it: for isa the image's name, the number of steps, and the description's
-- name, if one is given; for run and trace the description's name, the image's, and the number of cycles; for bench the
-- description's name, the seed, the number of blocks, and that of cycles; for pair the description's name, those of the
-- two images, and the number of cycles
pub data CommandText : Type 0 where
  isa_text : Text → ℕ → Option Text → CommandText
  run_text : Text → Text → ℕ → CommandText
  trace_text : Text → Text → ℕ → CommandText
  bench_text : Text → ℕ → ℕ → ℕ → CommandText
  pair_text : Text → Text → Text → ℕ → CommandText

-- the number of a text that clap takes as one in this range
abbrev pub number_between : ℕ → ℕ → Text → Option ℕ
number_between least most t = if accepts false (parser.Unsigned least most) t then Some (digits_value 10 (without_leading_plus t)) else None

-- a number of 64 bits
unfoldable pub number_of : Text → Option ℕ
number_of t = number_between 0 18446744073709551615 t

abbrev pub number_in : Text → List Row → Option ℕ
number_in id rows = option_and_then number_of (first_of id rows)

-- a number of 32 bits
unfoldable pub word_of : Text → Option ℕ
word_of t = number_between 0 4294967295 t

abbrev pub word_in : Text → List Row → Option ℕ
word_in id rows = option_and_then word_of (first_of id rows)

-- a number of blocks, 1 to 4096
unfoldable pub blocks_of : Text → Option ℕ
blocks_of t = number_between 1 4096 t

abbrev pub blocks_in : Text → List Row → Option ℕ
blocks_in id rows = option_and_then blocks_of (first_of id rows)

abbrev pub isa_in : List Row → Option CommandText
isa_in rows = option_and_then (λ image. option_map (λ steps. isa_text image steps (first_of (codes "desc") rows)) (number_in (codes "steps") rows)) (first_of (codes "image") rows)

-- a description, an image and a number of cycles, for the command that is made of them
abbrev pub cycles_in : (Text → Text → ℕ → CommandText) → List Row → Option CommandText
cycles_in command rows =
    option_and_then (λ description. option_and_then (λ image. option_map (λ cycles. command description image cycles) (word_in (codes "cycles") rows)) (first_of (codes "image") rows))
    (first_of (codes "description") rows)

abbrev pub bench_in : List Row → Option CommandText
bench_in rows =
    option_and_then (λ description. option_and_then (λ seed. option_and_then (λ blocks. option_map (λ cycles. bench_text description seed blocks cycles)
    (word_in (codes "cycles") rows)) (blocks_in (codes "blocks") rows)) (number_in (codes "seed") rows)) (first_of (codes "description") rows)

abbrev pub pair_in : List Row → Option CommandText
pair_in rows =
    option_and_then (λ description. option_and_then (λ image. option_and_then (λ image2. option_map (λ cycles. pair_text description image image2 cycles)
    (word_in (codes "cycles") rows)) (first_of (codes "image2") rows)) (first_of (codes "image") rows)) (first_of (codes "description") rows)

abbrev pub command_in : Option (Text × List Row) → Option CommandText
command_in None = None
command_in (Some p) =
    if bytes_eq p.0 (codes "isa") then isa_in p.1
    else if bytes_eq p.0 (codes "run") then cycles_in run_text p.1
    else if bytes_eq p.0 (codes "trace") then cycles_in trace_text p.1
    else if bytes_eq p.0 (codes "bench") then bench_in p.1
    else if bytes_eq p.0 (codes "pair") then pair_in p.1
    else None

-- what the words ask for, where no fault was found in them
abbrev pub if_none : {X : Type 0} → Kinds → Option X → Option X
if_none [] wanted = wanted
if_none (k ∷ ks) wanted = None

-- the command of the words: none where clap finds a fault in them
unfoldable pub command_of : List Text → Option CommandText
command_of ws = if_none (faults ws) (command_in (rows_in ws))
