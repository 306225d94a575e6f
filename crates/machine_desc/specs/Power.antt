-- A number is a power of two, or zero or a power of two, in one way: a description may keep which, and the exponent.
use Rattle.std.specs.Prelude.{◌≡◌, ◌⊎◌, ℕ}
use Rattle.std.specs.Int.{IsPowerOfTwo}

-- ---- zero or a power of two

-- a number is 0, or a power of two
abbrev pub IsZeroOrPower : ℕ → Type 0
IsZeroOrPower n = (n ≡ 0) ⊎ IsPowerOfTwo n
