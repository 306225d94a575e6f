-- The tests of a power of two, and of zero or a power of two, are right.
use Rattle.std.proofs.Common.{◌≡◌, ◌+◌, ◌*◌, ◌/◌, ◌%◌, ◌≤◌, ◌⊎◌, inl, inr, ℕ, zero, suc, arith, IsTrue, count_ones, eqb-true, Bool, true, false, refl}
use Rattle.std.specs.Prelude.{◌==◌, ◌||◌}
use Rattle.std.specs.Int.{IsPowerOfTwo, is_power_of_two}
use Rattle.machine_desc.specs.Power.{IsZeroOrPower}
use Rattle.std.proofs.lemmas.Nat.{zero_from_ones, ones_le_self, pow-add}
use lib.Count.{ones_step}

parity : (n : ℕ) → (n % 2 ≡ 0) ⊎ (n % 2 ≡ 1)
parity n = grind arith

halved : (n d : ℕ) → n ≤ suc d → n / 2 ≤ d
halved n d h = omega arith

parts : (n : ℕ) → n ≡ n % 2 + 2 * (n / 2)
parts n = omega arith

by_parity : (n : ℕ) → (n % 2 ≡ 0) ⊎ (n % 2 ≡ 1) → count_ones n ≡ 1 → (count_ones (n / 2) ≡ 1 → IsPowerOfTwo (n / 2)) → IsPowerOfTwo n
by_parity n (inl even) one half =
    let h = half (omega (arith, ones_step n)) in
    (h.0 + 1, omega (arith, parts n, h.1, pow-add 2 h.0 1))
by_parity n (inr odd) one half =
    let none : n / 2 ≡ 0 = zero_from_ones (n / 2) (omega (arith, ones_step n)) in
    (0, omega (arith, parts n))

from_ones : (d n : ℕ) → n ≤ d → count_ones n ≡ 1 → IsPowerOfTwo n
from_ones zero n h e = absurd (omega (arith, ones_le_self n))
from_ones (suc d) n h e = by_parity n (parity n) e (from_ones d (n / 2) (halved n d h))

-- a number with one bit set is a power of two
pub power_from_test : (n : ℕ) → IsTrue (is_power_of_two n) → IsPowerOfTwo n
power_from_test n h = from_ones n n (omega arith) (eqb-true _ _ h)

by_test : (n : ℕ) (zero power : Bool) → (n == 0) ≡ zero → is_power_of_two n ≡ power → IsTrue (zero || power) → IsZeroOrPower n
by_test n true power z p h = inl (eqb-true n 0 z)
by_test n false true z p h = inr (power_from_test n p)
by_test n false false z p h = absurd (cc)

-- what passes the test for 0 or a power of two is 0 or a power of two
pub zero_or_power_from_test : (n : ℕ) → IsTrue (n == 0 || is_power_of_two n) → IsZeroOrPower n
zero_or_power_from_test n h = by_test n _ _ refl refl h
