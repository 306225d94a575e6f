-- The words of stt_stats, as clap's written definition takes them (docs/formats.md, "Words of stt_stats").
use Rattle.std.specs.Prelude.{ℕ, nat_le, List, Option, Some, None, true, is_some, if◌then◌else◌, option_map, option_and_then, codes}
use Rattle.clap.specs.declared.builder.value_parser.ValueParser.TheVariants as parser
use Rattle.clap.specs.Words.{Kinds, fault_of, matches_of, first_of, Row, Rule, Text, App, new_rule, new_app, with_rule}
use Rattle.tool_words.specs.Words.{name_rule, cycles_rule, word_in, if_none}

-- an option with a number from 1 to what fits 32 bits, which may be left out
abbrev pub every_rule : Rule
every_rule = record (new_rule (codes "every")) { long = Some (codes "every"); parser = Some (parser.Unsigned 1 4294967295) }

-- no help, no version, and the words don't begin with the program's name
abbrev pub bare_app : App
bare_app = let a = new_app (codes "stt_stats") in record a {
  top = record a.top { no_binary_name = true; disable_help_flag = true; disable_version_flag = true };
}

-- D IMAGE --cycles N [--every K]
abbrev pub stats_app : App
stats_app = with_rule (with_rule (with_rule (with_rule bare_app (name_rule (codes "description"))) (name_rule (codes "image"))) cycles_rule) every_rule

-- the kinds of fault that clap finds in the words
unfoldable pub faults : List Text → Kinds
faults ws = fault_of stats_app ws

-- what the words give each argument
unfoldable pub rows_in : List Text → List Row
rows_in ws = matches_of stats_app ws

-- what the words ask for, as contracts see it: the names of the description and the image, the number of cycles, and
-- the number of cycles behind which a line is told, if one is given
pub record AskedText : Type 0 where
  pub description : Text
  pub image : Text
  pub cycles : ℕ
  pub every : Option ℕ

-- a number that isn't 0
abbrev pub not_zero : ℕ → Option ℕ
not_zero k = if nat_le 1 k then Some k else None

-- the number of --every, where it stands
abbrev pub every_in : List Row → Option (Option ℕ)
every_in rows = if is_some (first_of (codes "every") rows) then option_map Some (option_and_then not_zero (word_in (codes "every") rows)) else Some None

-- what the rows of the words' arguments ask for
abbrev pub asked_in : List Row → Option AskedText
asked_in rows =
    option_and_then (λ description. option_and_then (λ image. option_and_then (λ cycles.
    option_map (λ every. record { description = description; image = image; cycles = cycles; every = every }) (every_in rows))
    (word_in (codes "cycles") rows)) (first_of (codes "image") rows)) (first_of (codes "description") rows)

-- what the words ask for: nothing where clap finds a fault in them
unfoldable pub asked_of : List Text → Option AskedText
asked_of ws = if_none (faults ws) (asked_in (rows_in ws))
