use Rattle.tool_words.proofs.Tool.{word_read, word_not_read}
use Rattle.tool_words.proofs.word_of.Goals as goal

pub returns-in-Ok : goal.returns-in-Ok
returns-in-Ok c = word_read _ c.parse.result _ c.parse.ensures.value.0 c.in-Ok.is

pub returns-in-Err : goal.returns-in-Err
returns-in-Err c = word_not_read _ c.parse.result _ c.parse.ensures.value.0 c.in-Err.is
