-- The lines of stretches, one after the other.
use Rattle.std.proofs.Common.{◌≡◌, ◌<◌, ◌≤◌, ℕ, suc, ◌+◌, ◌/◌, List, [], ◌∷◌, ◌++◌, length, take, drop, refl, ap, ap₂, sym, ◌∙◌, arith}
use Rattle.std.proofs.Math.Nat.{add-div_left, div-eq_of_lt}
use Rattle.slot_reasons.specs.Slots.{Seen}
use Rattle.stats_top.specs.Stats.{numbers_of, stretch_line, stretches, stretches_text}

take_first : (xs ys : List Seen) → take (length xs) (xs ++ ys) ≡ xs
take_first [] ys = refl
take_first (x ∷ xs) ys = ap (λ r. x ∷ r) (take_first xs ys)

drop_first : (xs ys : List Seen) → drop (length xs) (xs ++ ys) ≡ ys
drop_first [] ys = refl
drop_first (x ∷ xs) ys = drop_first xs ys

long_both : (xs ys : List Seen) → length (xs ++ ys) ≡ length xs + length ys
long_both [] ys = omega arith
long_both (x ∷ xs) ys = let e : length (xs ++ ys) ≡ length xs + length ys = long_both xs ys in omega (arith, e)

-- a whole stretch, and then others
pub next_stretch : (k c : ℕ) (a b : List Seen) → 1 ≤ k → length a ≡ k → stretches_text k c (a ++ b) ≡ stretch_line (c + k) (numbers_of a) ++ stretches_text k (c + k) b
next_stretch k c a b some e =
    let long : length (a ++ b) ≡ k + length b = long_both a b ∙ ap (λ n. n + length b) e in
    let quotient : (k + length b) / k ≡ length b / k + 1 = add-div_left (length b) some in
    let more : length b / k + 1 ≡ suc (length b / k) = omega arith in
    ap (λ m. stretches k c m (a ++ b)) (ap (λ n. n / k) long ∙ quotient ∙ more)
    ∙ ap₂ (λ r s. stretch_line (c + k) (numbers_of r) ++ stretches k (c + k) (length b / k) s)
    (ap (λ n. take n (a ++ b)) (sym e) ∙ take_first a b) (ap (λ n. drop n (a ++ b)) (sym e) ∙ drop_first a b)

-- a stretch that isn't whole has no line
pub no_stretch : (k c : ℕ) (seen : List Seen) → length seen < k → stretches_text k c seen ≡ []
no_stretch k c seen l = ap (λ m. stretches k c m seen) (div-eq_of_lt l)
