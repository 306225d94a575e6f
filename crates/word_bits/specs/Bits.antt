-- Sets as bits: bit k is set where k is in the set.
use Rattle.std.specs.Prelude.{ℕ, ◌≡◌, ◌≤◌, ◌<◌, Bool, Option, Some, None, if◌then◌else◌}

-- a mark as a bit
abbrev pub one_if : Bool → ℕ
one_if mark = if mark then 1 else 0

-- i is the first place from this one on and below another with bit 1
pub record IsFirstBit (bits : ℕ → ℕ) (from below i : ℕ) : Type 0 where
  pub low : from ≤ i
  pub high : i < below
  pub before : (k : ℕ) → from ≤ k → k < i → bits k ≡ 0
  pub here : bits i ≡ 1

-- the place of the next bit that is set, None where there is no such bit
abbrev pub NextBit : (ℕ → ℕ) → ℕ → ℕ → Option ℕ → Type 0
NextBit bits from below None = (k : ℕ) → from ≤ k → k < below → bits k ≡ 0
NextBit bits from below (Some i) = IsFirstBit bits from below i
