-- Numbers that are added place by place.
use Rattle.std.proofs.Common.{◌≡◌, ℕ, zero, suc, ◌+◌, ◌<◌, ◌≤◌, List, [], ◌∷◌, ◌++◌, length, take, drop, get_or, set, refl, ap, ap₂, sym, ◌∙◌, arith, add-one}
use Rattle.run_counts.specs.Counted.{as_told}
use Rattle.run_counts.specs.inner.Counting.{sums}

-- the first numbers are added, and the others are as they were
abbrev pub added_up_to : ℕ → List ℕ → List ℕ → List ℕ
added_up_to p xs ys = sums (take p xs) (take p ys) ++ drop p xs

next : (xs ys : List ℕ) (p : ℕ) → p < length xs → length ys ≡ length xs
    → set (added_up_to p xs ys) p (as_told (get_or (added_up_to p xs ys) p 0 + get_or ys p 0)) ≡ added_up_to (suc p) xs ys
next [] ys p l e = absurd (omega (arith, l))
next (x ∷ xs) [] p l e = absurd (omega (arith, e))
next (x ∷ xs) (y ∷ ys) zero l e = refl
next (x ∷ xs) (y ∷ ys) (suc p) l e =
    let less : p < length xs = omega (arith, l) in
    let long : length ys ≡ length xs = omega (arith, e) in
    ap (λ r. as_told (x + y) ∷ r) (next xs ys p less long)

-- one more is added
pub next_added : (xs ys now : List ℕ) (p v : ℕ) → p < 35 → length xs ≡ 35 → length ys ≡ 35 → now ≡ added_up_to p xs ys → v ≡ as_told (get_or now p 0 + get_or ys p 0)
    → set now p v ≡ added_up_to (p + 1) xs ys
next_added xs ys now p v l e f is h =
    let less : p < length xs = omega (arith, l, e) in
    ap₂ (λ ks x. set ks p x) is (h ∙ ap (λ ks. as_told (get_or ks p 0 + get_or ys p 0)) is)
    ∙ next xs ys p less (f ∙ sym e)
    ∙ ap (λ k. added_up_to k xs ys) (sym (add-one p))

whole : (xs ys : List ℕ) (p : ℕ) → length xs ≤ p → length ys ≡ length xs → added_up_to p xs ys ≡ sums xs ys
whole [] ys zero l e = refl
whole [] ys (suc p) l e = refl
whole (x ∷ xs) ys zero l e = absurd (omega (arith, l))
whole (x ∷ xs) [] (suc p) l e = absurd (omega (arith, e))
whole (x ∷ xs) (y ∷ ys) (suc p) l e =
    let less : length xs ≤ p = omega (arith, l) in
    let long : length ys ≡ length xs = omega (arith, e) in
    ap (λ r. as_told (x + y) ∷ r) (whole xs ys p less long)

-- all are added
pub all_added : (xs ys now : List ℕ) (p : ℕ) → 35 ≤ p → length xs ≡ 35 → length ys ≡ 35 → now ≡ added_up_to p xs ys → now ≡ sums xs ys
all_added xs ys now p l e f is = let most : length xs ≤ p = omega (arith, l, e) in is ∙ whole xs ys p most (f ∙ sym e)
