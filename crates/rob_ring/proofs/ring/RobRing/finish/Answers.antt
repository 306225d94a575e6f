use Rattle.rob_ring.proofs.Flagged.{finish_flagged, in_word}
use Rattle.rob_ring.proofs.ring.RobRing.finish.Goals as goal

pub put_flag-requires : goal.put_flag-requires
put_flag-requires c = in_word _ _ _ _ _ c.self.invariant _ c.self.view_is _ c.requires

pub put_flag-requires-2 : goal.put_flag-requires-2
put_flag-requires-2 c = in_word _ _ _ _ _ c.self.invariant _ c.self.view_is _ c.requires

pub invariant_of-self : goal.invariant_of-self
invariant_of-self c =
    finish_flagged _ _ _ _ _ c.self.invariant _ c.self.view_is _ _ _ _ _ _ c.requires c.put_flag.ensures.here c.put_flag.ensures.others
    c.put_flag-2.ensures.here c.put_flag-2.ensures.others c.finish_entry-is_unsafe.ensures.tells c.finish_entry-is_unsafe.ensures.wrote
