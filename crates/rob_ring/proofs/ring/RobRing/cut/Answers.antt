use Rattle.rob_ring.proofs.Flagged.{cut_flagged}
use Rattle.rob_ring.proofs.ring.RobRing.cut.Goals as goal

pub invariant_of-self : goal.invariant_of-self
invariant_of-self c = rw c.truncate_back.ensures (cut_flagged _ _ _ _ _ c.self.invariant _ c.self.view_is _ _ _ _ c.keep_flags-self-inside.ensures c.keep_flags-self-inside-2.ensures c.keep_flags-self-inside-3.ensures)
