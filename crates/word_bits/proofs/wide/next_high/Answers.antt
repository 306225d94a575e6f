use Rattle.word_bits.proofs.Halves.{none_in_high, first_in_high}
use Rattle.word_bits.proofs.wide.next_high.Goals as goal

pub returns-in-Some : goal.returns-in-Some
returns-in-Some c = first_in_high _ _ _ _ c.high.ensures c.saturating_sub.ensures _ c.in-Some.ensures

pub returns-in-None : goal.returns-in-None
returns-in-None c = none_in_high _ _ _ _ c.high.ensures c.saturating_sub.ensures c.in-None.ensures
