use Rattle.std.proofs.Common.{◌≡◌}
use Rattle.core_parts.proofs.Waking.{woken_from}
use Rattle.core_parts.proofs.giving.wake_given.Given as goal

abbrev pub invariant-loop-i : goal.invariant-loop-i
invariant-loop-i l = woken_from l.i l.point.serial l.rob.entries l.stations ≡ woken_from l.initial.from l.point.serial l.rob.entries l.initial.stations
