use Rattle.word_bits.proofs.Halves.{high_bit}
use Rattle.word_bits.proofs.wide.high.Goals as goal

pub returns : goal.returns
returns c b = high_bit c.args.word b
