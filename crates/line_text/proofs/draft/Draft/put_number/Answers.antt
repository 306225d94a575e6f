use Rattle.std.proofs.Common.{arith}
use Rattle.itoa.proofs.Decimal.{length_four}
use Rattle.line_text.proofs.Decimals.{adds_four}
use Rattle.line_text.proofs.draft.Draft.put_number.Goals as goal

pub put_up_to_two-behind-requires-clause-room : goal.put_up_to_two-behind-requires-clause-room
put_up_to_two-behind-requires-clause-room c = omega (arith, length_four c.args.n c.if-n-lt10000.false (omega arith), c.requires)

pub put_four-requires-clause-room : goal.put_four-requires-clause-room
put_four-requires-clause-room c = omega (arith, length_four c.args.n c.if-n-lt10000.false (omega arith), c.requires, c.put_up_to_two-behind.ensures.end)

pub returns-then-n-lt1000000-clause-text : goal.returns-then-n-lt1000000-clause-text
returns-then-n-lt1000000-clause-text c = adds_four c.args.n _ _ _ c.if-n-lt10000.false (omega arith) c.put_up_to_two-behind.ensures.text c.put_four.ensures.text

pub returns-then-n-lt1000000-clause-end : goal.returns-then-n-lt1000000-clause-end
returns-then-n-lt1000000-clause-end c = omega (arith, length_four c.args.n c.if-n-lt10000.false (omega arith), c.put_up_to_two-behind.ensures.end, c.put_four.ensures.end)
