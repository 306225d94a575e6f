-- The words of stt_secrets, as clap's written definition takes them (docs/formats.md, "Words of stt_secrets").
use Rattle.std.specs.Prelude.{ℕ, Bool, List, Option, Some, None, true, is_some, if◌then◌else◌, ◌||◌, option_map, option_and_then, codes}
use Rattle.clap.specs.declared.builder.action.ArgAction.TheVariants.{Append}
use Rattle.clap.specs.declared.builder.value_parser.ValueParser.TheVariants as parser
use Rattle.clap.specs.Words.{Kinds, fault_of, matches_of, all_of, first_of, Row, Rule, Text, App, new_rule, new_app, with_rule}
use Rattle.secret_marks.specs.declared.PublicStreams.{PublicStreams}
use Rattle.secret_marks.specs.declared.SecretRange.{SecretRange}
use Rattle.tool_words.specs.Words.{name_rule, text_rule, word_in, if_none}
use Rattle.secret_words.specs.Ranges.{ranges_of}
use Rattle.secret_words.specs.Streams.{none_public, streams_of}

-- an argument that is given as often as its option stands
abbrev pub repeated_rule : Text → Rule
repeated_rule id = record (new_rule id) { long = Some id; action = Some Append }

-- the argument of ranges: one or several, each behind its own --secret
abbrev pub secret_rule : Rule
secret_rule = record (repeated_rule (codes "secret")) { required = true }

-- the argument of public streams: any number, each behind its own --public-stream
abbrev pub stream_rule : Rule
stream_rule = repeated_rule (codes "public-stream")

-- no help, no version, and the words don't begin with the program's name
abbrev pub bare_app : App
bare_app = let a = new_app (codes "stt_secrets") in record a {
  top = record a.top { no_binary_name = true; disable_help_flag = true; disable_version_flag = true };
}

-- a second name behind the first, which may be left out
abbrev pub second_rule : Rule
second_rule = new_rule (codes "second")

-- an option with a number from 1 to what fits 32 bits, which may be left out
abbrev pub budget_rule : Text → Rule
budget_rule id = record (new_rule id) { long = Some id; parser = Some (parser.Unsigned 1 4294967295) }

-- the names, the ranges and the streams, as each question has them
abbrev pub asked_app : App
asked_app = with_rule (with_rule (with_rule (with_rule bare_app (name_rule (codes "first"))) second_rule) secret_rule) stream_rule

-- D IMAGE --secret ADDRESS:BYTES .. [--public-stream N ..] --cycles N, or
-- IMAGE --secret ADDRESS:BYTES .. [--public-stream N ..] --steps N [--desc D]
abbrev pub secrets_app : App
secrets_app = with_rule (with_rule (with_rule asked_app (budget_rule (codes "cycles"))) (budget_rule (codes "steps"))) (text_rule (codes "desc"))

-- the kinds of fault that clap finds in the words
unfoldable pub faults : List Text → Kinds
faults ws = fault_of secrets_app ws

-- what the words give each argument
unfoldable pub rows_in : List Text → List Row
rows_in ws = matches_of secrets_app ws

-- which run is asked of: that of a core, by the description's name and the number of cycles; or the path, which is the
-- run of the instruction set, by the description's name, if one is given, and the number of steps
pub data RunText : Type 0 where
  core_run : Text → ℕ → RunText
  path_run : Option Text → ℕ → RunText

-- what the words ask for, as contracts see it: the image's name, the ranges in their order, the public streams, and
-- which run
pub record WantedText : Type 0 where
  pub image : Text
  pub secret : List SecretRange
  pub public : PublicStreams
  pub run : RunText

-- the ranges of all --secret
abbrev pub ranges_in : List Row → Option (List SecretRange)
ranges_in rows = option_and_then ranges_of (all_of (codes "secret") rows)

-- the streams that texts name, and none where no option stands
abbrev pub streams_or : Option (List Text) → Option PublicStreams
streams_or None = Some none_public
streams_or (Some texts) = streams_of none_public texts

-- the streams of all --public-stream
abbrev pub streams_in : List Row → Option PublicStreams
streams_in rows = streams_or (all_of (codes "public-stream") rows)

-- the argument stands among the words
abbrev pub is_given : Text → List Row → Bool
is_given id rows = is_some (first_of id rows)

-- two names and --cycles ask of a core: neither --steps nor --desc stands there
abbrev pub core_in : Text → List Row → Option RunText
core_in description rows = if is_given (codes "steps") rows || is_given (codes "desc") rows then None else option_map (core_run description) (word_in (codes "cycles") rows)

-- one name and --steps ask of the path: --cycles doesn't stand there, and --desc may
abbrev pub path_in : List Row → Option RunText
path_in rows = if is_given (codes "cycles") rows then None else option_map (path_run (first_of (codes "desc") rows)) (word_in (codes "steps") rows)

-- the image and the run that names ask for: behind a description's name, or with the image's alone
abbrev pub named_in : Text → Option Text → List Row → Option (Text × RunText)
named_in first (Some second) rows = option_map (λ run. (second, run)) (core_in first rows)
named_in first None rows = option_map (λ run. (first, run)) (path_in rows)

abbrev pub wanted_in : List Row → Option WantedText
wanted_in rows =
    option_and_then (λ first. option_and_then (λ named. option_and_then (λ public.
    option_map (λ secret. record { image = named.0; secret = secret; public = public; run = named.1 }) (ranges_in rows)) (streams_in rows))
    (named_in first (first_of (codes "second") rows) rows)) (first_of (codes "first") rows)

-- what the words ask for: nothing where clap finds a fault in them
unfoldable pub wanted_of : List Text → Option WantedText
wanted_of ws = if_none (faults ws) (wanted_in (rows_in ws))
