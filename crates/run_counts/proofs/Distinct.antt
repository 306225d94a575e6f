-- A number at a place is the one of the name that stands there, since no name stands twice.
use Rattle.std.proofs.Common.{◌≡◌, ℕ, zero, suc, ◌+◌, Bool, true, false, List, [], ◌∷◌, length, Some, refl, ap, ap₂, sym, ◌∙◌, subst, arith, get_or, set}
use Rattle.std.specs.List.{list_all}
use Rattle.std.specs.Prelude.{not, ◌&&◌, slice_get, if◌then◌else◌}
use Rattle.std.specs.Str.{bytes_eq}
use Rattle.std.proofs.lemmas.Bool.{and_parts, not-true}
use Rattle.std.proofs.lemmas.Slice.Eq.{bytes_eq-Decides}
use Rattle.run_counts.specs.Counted.{names, as_told}
use Rattle.run_counts.specs.inner.Counting.{numbers_by, number_with}
use Rattle.run_counts.proofs.Each.{each_stays}

-- two names differ
abbrev pub apart : List ℕ → List ℕ → Bool
apart a b = not (bytes_eq a b) && not (bytes_eq b a)

-- no name stands twice
abbrev pub distinct : List (List ℕ) → Bool
distinct [] = true
distinct (name ∷ rest) = list_all (apart name) rest && distinct rest

-- no name of a number stands twice
names_distinct : distinct names ≡ true
unfolding names
names_distinct = refl

-- a name is itself
same_name : (name : List ℕ) → bytes_eq name name ≡ true
same_name name = (bytes_eq-Decides name name).1 refl

-- names that differ aren't one, looked at from either
not_first : (a b : List ℕ) → apart a b ≡ true → bytes_eq a b ≡ false
not_first a b e = not-true _ (and_parts _ _ e).0

not_second : (a b : List ℕ) → apart a b ≡ true → bytes_eq b a ≡ false
not_second a b e = not-true _ (and_parts _ _ e).1

-- what is so of all is so of the one at a place
pub all_at : (p : List ℕ → Bool) (names : List (List ℕ)) (place : ℕ) (at : List ℕ) → list_all p names ≡ true → slice_get names place ≡ Some at → p at ≡ true
all_at p [] place at e s = absurd (cc)
all_at p (name ∷ rest) zero at e s = let same : name ≡ at = cc in subst (λ x. p x ≡ true) same (and_parts _ _ e).0
all_at p (name ∷ rest) (suc place) at e s = all_at p rest place at (and_parts _ _ e).1 s

-- the numbers of other names stay
others_stay : (at : List ℕ) (n : ℕ) (names : List (List ℕ)) (ks : List ℕ) → list_all (apart at) names ≡ true → length ks ≡ length names → numbers_by (λ name k. number_with name at n k) names ks ≡ ks
others_stay at n [] ks e l = each_stays [] ks l
others_stay at n (name ∷ rest) [] e l = refl
others_stay at n (name ∷ rest) (k ∷ ks) e l =
    let r : length ks ≡ length rest = omega (arith, l) in
    ap₂ (λ x xs. x ∷ xs) (ap (λ b. if b then as_told (k + n) else k) (not_first at name (and_parts _ _ e).0)) (others_stay at n rest ks (and_parts _ _ e).1 r)

-- where a number is changed at a place, the one of the name there is
pub set_is : (names : List (List ℕ)) (ks : List ℕ) (place : ℕ) (at : List ℕ) (n : ℕ) → distinct names ≡ true → slice_get names place ≡ Some at → length ks ≡ length names
    → set ks place (as_told (get_or ks place 0 + n)) ≡ numbers_by (λ name k. number_with name at n k) names ks
set_is [] ks place at n d s l = absurd (cc)
set_is (name ∷ rest) [] place at n d s l = absurd (omega (arith, l))
set_is (name ∷ rest) (k ∷ ks) zero at n d s l =
    let same : name ≡ at = cc in
    let r : length ks ≡ length rest = omega (arith, l) in
    subst (λ x. as_told (k + n) ∷ ks ≡ numbers_by (λ name k. number_with name x n k) (name ∷ rest) (k ∷ ks)) same
    (ap₂ (λ x xs. x ∷ xs) (ap (λ b. if b then as_told (k + n) else k) (sym (same_name name))) (sym (others_stay name n rest ks (and_parts _ _ d).0 r)))
set_is (name ∷ rest) (k ∷ ks) (suc place) at n d s l =
    let r : length ks ≡ length rest = omega (arith, l) in
    ap₂ (λ x xs. x ∷ xs) (ap (λ b. if b then as_told (k + n) else k) (sym (not_second name at (all_at (apart name) rest place at (and_parts _ _ d).0 s)))) (set_is rest ks place at n (and_parts _ _ d).1 s r)

pub names_length : length names ≡ 35
unfolding names
names_length = refl

-- the number of a name among all
pub number_set : (ks : List ℕ) (place : ℕ) (at : List ℕ) (n : ℕ) → length ks ≡ 35 → slice_get names place ≡ Some at
    → set ks place (as_told (get_or ks place 0 + n)) ≡ numbers_by (λ name k. number_with name at n k) names ks
number_set ks place at n l s = set_is names ks place at n names_distinct s (l ∙ sym names_length)

-- numbers that stay, among all
pub numbers_stay : (ks : List ℕ) → length ks ≡ 35 → numbers_by (λ name k. k) names ks ≡ ks
numbers_stay ks l = each_stays names ks (l ∙ sym names_length)
