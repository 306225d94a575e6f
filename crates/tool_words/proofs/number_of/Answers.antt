use Rattle.tool_words.proofs.Tool.{number_read, number_not_read}
use Rattle.tool_words.proofs.number_of.Goals as goal

pub returns-in-Ok : goal.returns-in-Ok
returns-in-Ok c = number_read _ c.parse.result _ c.parse.ensures.value.0 c.in-Ok.is

pub returns-in-Err : goal.returns-in-Err
returns-in-Err c = number_not_read _ c.parse.result _ c.parse.ensures.value.0 c.in-Err.is
