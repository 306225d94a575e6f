use Rattle.rob_ring.proofs.NextFlags.{first_in_low, none_in_low}
use Rattle.rob_ring.proofs.flags.next_flag.Goals as goal

pub returns-in-Some : goal.returns-in-Some
returns-in-Some c = first_in_low _ _ _ c.in-Some.ensures

pub returns-in-None : goal.returns-in-None
returns-in-None c = none_in_low _ _ _ c.in-None.ensures c.next_from_second.ensures
