use Rattle.std.proofs.Common.{◌≡◌, ◌≤◌, ◌-◌, drop, length}
use Rattle.rob_ring.specs.Beside.{each_roots}
use Rattle.visibility.specs.Pick.{pick_from}
use Rattle.branch_resolve.proofs.choice.pick.Given as goal

abbrev pub invariant-loop-i : goal.invariant-loop-i
invariant-loop-i l = record {
  left : pick_from l.desc l.point.serial l.from (drop l.from l.rob.entries) (drop l.from (each_roots l.sources.items)) ≡ pick_from l.desc l.point.serial 0 l.rob.entries (each_roots l.sources.items);
  within : l.from ≤ length l.rob.entries;
}

abbrev pub decreases-loop-i : goal.decreases-loop-i
decreases-loop-i l = length l.rob.entries - l.from
