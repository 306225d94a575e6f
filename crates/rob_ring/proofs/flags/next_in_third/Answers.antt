use Rattle.rob_ring.proofs.NextFlags.{first_in_high, none_in_high}
use Rattle.rob_ring.proofs.flags.next_in_third.Goals as goal

pub returns-in-Some : goal.returns-in-Some
returns-in-Some c = first_in_high _ _ _ _ c.saturating_sub.ensures c.in-Some.ensures

pub returns-in-None : goal.returns-in-None
returns-in-None c = none_in_high _ _ _ c.saturating_sub.ensures c.in-None.ensures
