use Rattle.std.proofs.Common.{◌≡◌, ◌-◌, length}
use Rattle.std.specs.Prelude.{drop}
use Rattle.std.specs.List.{find}
use Rattle.clear.specs.Clearable.{can_clear}
use Rattle.clear.proofs.finding.clearable.Given as goal

-- no store of those that the loop has passed may be cleared
abbrev pub invariant-loop-store : goal.invariant-loop-store
invariant-loop-store l = find (can_clear l.point.serial) (drop l.place l.queues.stores) ≡ find (can_clear l.point.serial) l.queues.stores

abbrev pub decreases-loop-store : goal.decreases-loop-store
decreases-loop-store l = length l.queues.stores - l.place
