use Rattle.rob_ring.proofs.Flagged.{in_word, issue_flagged}
use Rattle.rob_ring.proofs.ring.RobRing.issue.Goals as goal

pub put_flag-requires : goal.put_flag-requires
put_flag-requires c = in_word _ _ _ _ _ c.self.invariant _ c.self.view_is _ c.requires.within

pub invariant_of-self : goal.invariant_of-self
invariant_of-self c =
    issue_flagged _ _ _ _ _ c.self.invariant _ c.self.view_is c.args.issued.now _ _ _ _ _ c.requires.within c.is_busy.ensures
    c.put_flag.ensures.here c.put_flag.ensures.others c.requires.alike c.issue_entry.ensures
