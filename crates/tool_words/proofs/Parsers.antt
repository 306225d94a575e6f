-- Parsers that are made argument by argument.
use Rattle.std.proofs.Common.{Result, ap}
use Rattle.std.proofs.lemmas.Result.{IfOk-weaker}
use Rattle.std.specs.declared.alloc.AllocError.{AllocError}
use Rattle.clap.specs.Words.{App}
use Rattle.clap.specs.declared.builder.command.Command.{Command as Parser}
use Rattle.tool_words.specs.inner.Words.{IsParser, IsCommand}

-- what a parser takes is what its command takes
pub is_command : (app : App) (made : Result Parser AllocError) → IsParser app made → IsCommand app.top made
is_command app made h = IfOk-weaker made _ _ (λ parser p. (ap (λ (a : App). a.top) p.0, p.1)) h
