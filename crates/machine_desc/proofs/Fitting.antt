-- A number that passes its key's tests is one of the key's values.
use Rattle.std.proofs.Common.{ℕ, IsTrue, eqb-true}
use Rattle.machine_desc.specs.declared.keys.Shape.{Shape}
use Rattle.machine_desc.specs.declared.keys.Shape.TheVariants.{Any, PowerOfTwo, ZeroOrPowerOfTwo, MultipleOf16}
use Rattle.machine_desc.specs.declared.keys.Values.{Values}
use Rattle.machine_desc.specs.declared.keys.Values.TheVariants.{Numbers, Optional, Models, Defences}
use Rattle.machine_desc.specs.Description.{has_shape}
use Rattle.machine_desc.specs.Allowed.{HasShape, Fits}
use Rattle.machine_desc.specs.Clean.{PassesAs}
use Rattle.machine_desc.proofs.Powers.{power_from_test, zero_or_power_from_test}

shape_from_test : (shape : Shape) (n : ℕ) → IsTrue (has_shape shape n) → HasShape shape n
shape_from_test Any n h = tt
shape_from_test PowerOfTwo n h = power_from_test n h
shape_from_test ZeroOrPowerOfTwo n h = zero_or_power_from_test n h
shape_from_test MultipleOf16 n h = eqb-true _ _ h

-- a number that passes the tests of a key is one of the key's values
pub fits_from_test : (values : Values) (n : ℕ) → PassesAs values n → Fits values n
fits_from_test (Numbers least most shape) n h = (h.0, h.1, shape_from_test shape n h.2)
fits_from_test (Optional least most shape) n h = (h.0, h.1, shape_from_test shape n h.2)
fits_from_test (Models off) n h = tt
fits_from_test (Defences every) n h = tt
