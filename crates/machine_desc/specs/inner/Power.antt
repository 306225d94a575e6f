-- Beside Power.antt: what only clauses of the code and lemmas cite.
use Rattle.std.specs.Prelude.{◌≡◌, ◌⊎◌, ◌^◌, ◌<◌, ◌≤◌, ℕ}
use Rattle.std.specs.Int.{IsPowerOfTwo}
use Rattle.std.proofs.Common.{sym, ◌∙◌, subst, inl, inr, ap, arith}
use Rattle.std.proofs.Math.Nat.{le_antisymm, lt_irrefl}
use Rattle.std.proofs.lemmas.Bool.{cases_lt}
use Rattle.std.proofs.lemmas.Nat.{pow_pos}
use lib.Pow.{pow-lt}
use mathlib.Core.HLevel.{Σ_prop_path, hedberg}
use native.Mathlib.Decide.{ℕ_discrete}
use Rattle.machine_desc.specs.Power.{IsZeroOrPower}

not_above : (k m : ℕ) → 2 ^ k ≡ 2 ^ m → (m < k) ⊎ (k ≤ m) → k ≤ m
not_above k m e (inl h) = let P : ℕ → Type 0 = λ x. x < 2 ^ k in absurd (lt_irrefl (2 ^ k) (subst P (sym e) (pow-lt h)))
not_above k m e (inr h) = h

one_exponent : (k m : ℕ) → 2 ^ k ≡ 2 ^ m → k ≡ m
one_exponent k m e = le_antisymm (not_above k m e (cases_lt m k)) (not_above m k (sym e) (cases_lt k m))

-- any two proofs that a number is a power of two are one
pub power_prop : (n : ℕ) → IsProp (IsPowerOfTwo n)
power_prop n x y = Σ_prop_path (λ k. hedberg ℕ_discrete n (2 ^ k)) (one_exponent x.0 y.0 (sym x.1 ∙ y.1))

not_both : (n : ℕ) → n ≡ 0 → IsPowerOfTwo n → ⊥
not_both n z p =
    let above : 0 < 2 ^ p.0 = pow_pos p.0 in
    omega (arith, z, p.1, above)

-- any two proofs that a number is zero or a power of two are one
pub zero_or_power_prop : (n : ℕ) → IsProp (IsZeroOrPower n)
zero_or_power_prop n (inl x) (inl y) = ap inl (hedberg ℕ_discrete n 0 x y)
zero_or_power_prop n (inl x) (inr y) = absurd (not_both n x y)
zero_or_power_prop n (inr x) (inl y) = absurd (not_both n y x)
zero_or_power_prop n (inr x) (inr y) = ap inr (power_prop n x y)
