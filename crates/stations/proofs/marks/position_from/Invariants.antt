use Rattle.std.proofs.Common.{◌≢◌, ◌<◌, ◌≤◌, ℕ, Some, slice_get}
use Rattle.stations.proofs.marks.position_from.Given as goal

-- the place is at none of the positions so far
abbrev pub invariant-loop-i : goal.invariant-loop-i
invariant-loop-i l = (k : ℕ) → l.from ≤ k → k < l.i → slice_get l.ages.items k ≢ Some l.place
