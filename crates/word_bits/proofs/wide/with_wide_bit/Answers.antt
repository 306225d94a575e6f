use Rattle.word_bits.proofs.Halves.{low_changed, high_changed}
use Rattle.word_bits.proofs.wide.with_wide_bit.Goals as goal

pub returns-then-bit-lt64-clause-others : goal.returns-then-bit-lt64-clause-others
returns-then-bit-lt64-clause-others c = low_changed _ _ _ _ _ _ c.low.ensures c.high.ensures c.with_bit.ensures.others c.joined.ensures.low c.joined.ensures.high

pub returns-else-bit-lt64-clause-others : goal.returns-else-bit-lt64-clause-others
returns-else-bit-lt64-clause-others c = high_changed _ _ _ _ _ _ c.low-else-bit-lt64.ensures c.high-else-bit-lt64.ensures c.if-bit-lt64.false c.with_bit-else-bit-lt64.ensures.others c.joined-else-bit-lt64.ensures.low c.joined-else-bit-lt64.ensures.high
