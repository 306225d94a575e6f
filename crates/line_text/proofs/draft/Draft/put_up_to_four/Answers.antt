use Rattle.std.proofs.Common.{arith}
use Rattle.itoa.proofs.Decimal.{length_pair}
use Rattle.line_text.proofs.Decimals.{adds_two}
use Rattle.line_text.proofs.draft.Draft.put_up_to_four.Goals as goal

pub put_up_to_two-behind-requires-clause-room : goal.put_up_to_two-behind-requires-clause-room
put_up_to_two-behind-requires-clause-room c = omega (arith, length_pair c.args.n c.if-n-lt100.false (omega arith), c.requires.room)

pub put_pair-requires-clause-room : goal.put_pair-requires-clause-room
put_pair-requires-clause-room c = omega (arith, length_pair c.args.n c.if-n-lt100.false (omega arith), c.requires.room, c.put_up_to_two-behind.ensures.end)

pub returns-clause-text : goal.returns-clause-text
returns-clause-text c = adds_two c.args.n _ _ _ c.if-n-lt100.false (omega arith) c.put_up_to_two-behind.ensures.text c.put_pair.ensures.text

pub returns-clause-end : goal.returns-clause-end
returns-clause-end c = omega (arith, length_pair c.args.n c.if-n-lt100.false (omega arith), c.put_up_to_two-behind.ensures.end, c.put_pair.ensures.end)
