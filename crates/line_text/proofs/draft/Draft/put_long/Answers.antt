use Rattle.std.proofs.Common.{arith}
use Rattle.itoa.proofs.Decimal.{length_four}
use Rattle.line_text.proofs.Decimals.{adds_four}
use Rattle.line_text.proofs.draft.Draft.put_long.Goals as goal

pub put_up_to_four-behind-requires-clause-room : goal.put_up_to_four-behind-requires-clause-room
put_up_to_four-behind-requires-clause-room c = omega (arith, length_four c.args.n c.requires.long (omega arith), c.requires.room)

pub put_four-requires-clause-room : goal.put_four-requires-clause-room
put_four-requires-clause-room c = omega (arith, length_four c.args.n c.requires.long (omega arith), c.requires.room, c.put_up_to_four-behind.ensures.end)

pub returns-then-n-lt100000000-clause-text : goal.returns-then-n-lt100000000-clause-text
returns-then-n-lt100000000-clause-text c = adds_four c.args.n _ _ _ c.requires.long (omega arith) c.put_up_to_four-behind.ensures.text c.put_four.ensures.text

pub returns-then-n-lt100000000-clause-end : goal.returns-then-n-lt100000000-clause-end
returns-then-n-lt100000000-clause-end c = omega (arith, length_four c.args.n c.requires.long (omega arith), c.put_up_to_four-behind.ensures.end, c.put_four.ensures.end)
