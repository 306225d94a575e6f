use Rattle.rob_ring.specs.Ring.{is_unsafe}
use Rattle.rob_ring.proofs.Flagged.{few_flagged, next_is, next_seen, found_within, few_rooms}
use Rattle.rob_ring.proofs.ring.RobRing.next_unsafe.Goals as goal

pub returns-clause-next : goal.returns-clause-next
returns-clause-next c =
    let few = few_flagged _ _ _ _ _ c.self.invariant _ c.self.view_is in
    next_seen _ _ _ _ _ c.self.invariant _ c.self.view_is _ _ _ (next_is is_unsafe _ _ c.self.invariant.unsafe_is few _ _ c.next_flag.ensures)

pub returns-clause-within : goal.returns-clause-within
returns-clause-within c = found_within _ _ _ _ _ c.self.invariant _ c.self.view_is _ _ _ (returns-clause-next c)

pub returns-clause-few : goal.returns-clause-few
returns-clause-few c = few_rooms _ _ _ _ _ c.self.invariant _ c.self.view_is
