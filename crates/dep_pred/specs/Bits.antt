-- Bits of dependence, however many there are (docs/machine.md, "Clear").
use Rattle.std.specs.Prelude.{◌≡◌, ℕ, Bool, true, false, List, length, slice_set, slice_index_or}
use Rattle.machine_desc.specs.declared.Desc.{Desc}
use Rattle.window_model.specs.Resolve.{index}

-- where the bit of a load at this address stands
abbrev pub place : List Bool → ℕ → ℕ
place bits pc = index pc (length bits)

-- the load's bit is set
abbrev pub is_set : List Bool → ℕ → Bool
is_set bits pc = slice_index_or bits (place bits pc) false

-- the bits with the load's set
abbrev pub with_set : List Bool → ℕ → List Bool
with_set bits pc = slice_set bits (place bits pc) true

-- there is a description that asks for so many bits
pub record IsAsked (bits : ℕ) : Type 0 where
  pub desc : Desc
  pub as_many : bits ≡ desc.predictor_depend

-- what is so in the machine of every description that asks for as many bits; there is one (`IsAsked`)
abbrev pub InEach : List Bool → (Desc → Type 0) → Type 0
InEach bits So = (d : Desc) → length bits ≡ d.predictor_depend → So d
