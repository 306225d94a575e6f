use Rattle.tool_words.proofs.Tool.{blocks_read, blocks_outside, blocks_not_read}
use Rattle.tool_words.proofs.blocks_of.Goals as goal

pub returns-then-count-le-BLOCKS_MAX : goal.returns-then-count-le-BLOCKS_MAX
returns-then-count-le-BLOCKS_MAX c = blocks_read _ c.parse.result _ c.parse.ensures.value.0 c.in-Ok.is c.if-count-ge1.true c.if-count-le-BLOCKS_MAX.true

pub returns-else-count-ge1 : goal.returns-else-count-ge1
returns-else-count-ge1 c = blocks_outside _ c.parse.result _ c.parse.ensures.value.0 c.in-Ok.is c.else-count-ge1.either

pub returns-in-Err : goal.returns-in-Err
returns-in-Err c = blocks_not_read _ c.parse.result _ c.parse.ensures.value.0 c.in-Err.is
