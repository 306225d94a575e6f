-- Beside Words.antt: what only clauses of the code and lemmas cite.
use Rattle.std.specs.Prelude.{◌≡◌, ◌≢◌, Result, IfOk, MatchResult, option_map, List, [], true, false}
use Rattle.std.specs.declared.alloc.AllocError.{AllocError}
use Rattle.clap.specs.declared.builder.command.Command.{Command as Parser}
use Rattle.clap.specs.declared.builder.command.Command.TheViews.{out-Command}
use Rattle.clap.specs.declared.parser.matches.ArgMatches.{ArgMatches}
use Rattle.clap.specs.Words.{HasMatchesOf, is_simple_and_free, app_of, shape_of, fault_of, Text, App, Shape}
use Rattle.clap.specs.declared.builder.value_parser.ValueParser.TheVariants as parser
use Rattle.tool_words.specs.declared.Command.{Command}
use Rattle.tool_words.specs.declared.Refused.{Refused}
use Rattle.tool_words.specs.declared.Refused.TheVariants.{Words}
use Rattle.tool_words.specs.declared.Command.TheVariants.{Isa, Run, Trace, Bench, Pair}
use Rattle.tool_words.specs.Words.{CommandText, isa_text, run_text, trace_text, bench_text, pair_text}

-- a parser that was made, where there was memory for it: what clap's definition takes by it, and that its commands
-- share no argument
abbrev pub IsParser : App → Result Parser AllocError → Type 0
IsParser app made = IfOk made (λ parser. (app_of parser ≡ app) × ((out-Command parser).has_globals ≡ false))

-- a parser that was made for a command of this shape
abbrev pub IsCommand : Shape → Result Parser AllocError → Type 0
IsCommand shape made = IfOk made (λ parser. (shape_of parser ≡ shape) × ((out-Command parser).has_globals ≡ false))

-- what was found in words by a parser of this command, if it is a simple one: they have no fault and these matches; or
-- they were refused, as no words of this command only where they have a fault
abbrev pub FindsBy : App → List Text → Result ArgMatches Refused → Type 0
FindsBy app ws result =
    is_simple_and_free app ≡ true → MatchResult result (λ m. (fault_of app ws ≡ []) × HasMatchesOf app ws m) (λ refused. refused ≡ Words → fault_of app ws ≢ [])

-- a command as its text
abbrev pub command_text : Command → CommandText
command_text (Isa image steps description) = isa_text image.now steps (option_map (λ t. t.now) description)
command_text (Run description image cycles) = run_text description.now image.now cycles
command_text (Trace description image cycles) = trace_text description.now image.now cycles
command_text (Bench description seed blocks cycles) = bench_text description.now seed blocks.count cycles
command_text (Pair description image image2 cycles) = pair_text description.now image.now image2.now cycles
