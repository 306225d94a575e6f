use Rattle.line_text.proofs.Pairs.{decimal_pairs_at}
use Rattle.line_text.proofs.digits.decimal_pair.Goals as goal

pub returns : goal.returns
returns c = let p = decimal_pairs_at c.args.n c.requires in rw (p.0, p.1)
