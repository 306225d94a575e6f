use Rattle.std.proofs.Common.{arith}
use Rattle.line_text.proofs.Pairs.{hex_pairs_at}
use Rattle.line_text.proofs.digits.hex_pair.Goals as goal

pub returns : goal.returns
returns c = let p = hex_pairs_at c.args.byte (omega arith) in rw (p.0, p.1)
