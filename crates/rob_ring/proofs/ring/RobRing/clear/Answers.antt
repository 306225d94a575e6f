use Rattle.rob_ring.proofs.Flagged.{in_word, clear_flagged}
use Rattle.rob_ring.proofs.ring.RobRing.clear.Goals as goal

pub put_flag-requires : goal.put_flag-requires
put_flag-requires c = in_word _ _ _ _ _ c.self.invariant _ c.self.view_is _ c.requires

pub put_flag-requires-2 : goal.put_flag-requires-2
put_flag-requires-2 c = in_word _ _ _ _ _ c.self.invariant _ c.self.view_is _ c.requires

pub invariant_of-self : goal.invariant_of-self
invariant_of-self c =
    clear_flagged _ _ _ _ _ c.self.invariant _ c.self.view_is _ _ _ _ _ _ _ c.requires c.put_flag.ensures.here c.put_flag.ensures.others
    c.put_flag-2.ensures.here c.put_flag-2.ensures.others c.clear_entry-is_open.ensures.open c.clear_entry-is_open.ensures.tells c.clear_entry-is_open.ensures.wrote
