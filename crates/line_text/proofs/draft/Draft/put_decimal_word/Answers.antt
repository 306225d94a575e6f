use Rattle.std.proofs.Common.{arith}
use Rattle.std.proofs.lemmas.Fmt.{length-decimal-le}
use Rattle.line_text.proofs.draft.Draft.put_decimal_word.Goals as goal

pub put_number-requires : goal.put_number-requires
put_number-requires c = omega (arith, length-decimal-le 10 c.args.n (omega arith) (omega arith) (omega arith), c.requires)

pub returns-clause-short : goal.returns-clause-short
returns-clause-short c = omega (arith, length-decimal-le 10 c.args.n (omega arith) (omega arith) (omega arith), c.put_number.ensures.end)
