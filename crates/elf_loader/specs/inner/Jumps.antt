-- The places of a row that are left, kept as jumps.
use Rattle.std.specs.Prelude.{ℕ, ◌+◌, ◌<◌, ◌≤◌, ◌^◌, Bool, ◌==◌, List, length, map, slice_index}

-- the places that are left: those with no jump
abbrev pub left_by : List ℕ → List Bool
left_by jumps = map (λ j. j == 0) jumps

-- a jump leads no further than behind the last place, and over no place that is left
pub record HasJumps (jumps : List ℕ) : Type 0 where
  pub few : length jumps < 2 ^ 32
  pub within : (k : ℕ) → k < length jumps → k + slice_index jumps k ≤ length jumps
  pub over : (k m : ℕ) → k < length jumps → k ≤ m → m < k + slice_index jumps k → 0 < slice_index jumps m
