use Rattle.rob_ring.proofs.NextFlags.{first_in_middle, none_in_middle}
use Rattle.rob_ring.proofs.flags.next_from_second.Goals as goal

pub returns-in-Some : goal.returns-in-Some
returns-in-Some c = first_in_middle _ _ _ _ c.saturating_sub.ensures c.in-Some.ensures

pub returns-in-None : goal.returns-in-None
returns-in-None c = none_in_middle _ _ _ _ c.saturating_sub.ensures c.in-None.ensures c.next_in_third.ensures
