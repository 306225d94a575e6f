use Rattle.word_bits.proofs.Halves.{low_bit}
use Rattle.word_bits.proofs.wide.low.Goals as goal

pub returns : goal.returns
returns c b lt = low_bit c.args.word b lt
