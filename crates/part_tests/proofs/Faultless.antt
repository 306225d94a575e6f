-- A read that answers a number has no fault.
use Rattle.std.proofs.Common.{◌≡◌, ℕ, Option, Some, None, Ok, refl}
use Rattle.rv_types.specs.declared.Cause.{Cause}
use Rattle.byte_ram.specs.Access.{unless_fault}

pub answered : (fault : Option Cause) (value number : ℕ) → Ok number ≡ unless_fault fault value → fault ≡ None
answered None value number e = refl
answered (Some cause) value number e = absurd (cc)
