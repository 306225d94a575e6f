-- Rows of jumps: one more place taken, and a walk's jumps set to its end.
use Rattle.std.proofs.Common.{◌≡◌, ◌≢◌, ℕ, zero, suc, ◌+◌, ◌<◌, ◌≤◌, true, false, eqb, List, ◌∷◌, length, get_or, set, replicate, refl, sym, ap, ◌∙◌, ◌⊎◌, inl, inr, arith, length-set, get_or-set_same, get_or-set_other}
use Rattle.std.proofs.lemmas.List.{set-get_or, map-set, get_or-map}
use Rattle.std.proofs.lemmas.Bool.{cases_eq}
use Rattle.std.proofs.lemmas.Bool.Decides.{nat_tests}
use Rattle.elf_loader.specs.inner.Jumps.{left_by, HasJumps}

-- a place of a row after one is set
pub at_set : (js : List ℕ) (p x k : ℕ) → p < length js → ((k ≡ p) × (get_or (set js p x) k 0 ≡ x)) ⊎ ((k ≢ p) × (get_or (set js p x) k 0 ≡ get_or js k 0))
at_set js p x k l = by (cases_eq k p)
  where
    by : (k ≡ p) ⊎ (k ≢ p) → ((k ≡ p) × (get_or (set js p x) k 0 ≡ x)) ⊎ ((k ≢ p) × (get_or (set js p x) k 0 ≡ get_or js k 0))
    by (inl e) = inl (e, ap (λ i. get_or (set js p x) i 0) e ∙ get_or-set_same js p x 0 l)
    by (inr n) = inr (n, get_or-set_other js p k x 0 n)

-- setting a jump at a taken place leaves the others taken
pub set_positive : (js : List ℕ) (p x m : ℕ) → p < length js → 0 < x → 0 < get_or js m 0 → 0 < get_or (set js p x) m 0
set_positive js p x m l h0 h = let c = at_set js p x m l in elim c [ inl e ↦ omega arith | inr e ↦ omega arith ]

-- a place that is set to a jump of these has them still
pub jumps_set : (js : List ℕ) (p x : ℕ) → HasJumps js → p < length js → 0 < x → p + x ≤ length js → ((m : ℕ) → p < m → m < p + x → 0 < get_or js m 0) → HasJumps (set js p x)
jumps_set js p x h l h0 fits none = record {
  few = rw length-set h.few;
  within = λ k lk. within_by k (omega (arith, length-set js p x)) (at_set js p x k l);
  over = λ k m lk km mk. over_by k m (omega (arith, length-set js p x)) km mk (at_set js p x k l) (at_set js p x m l);
}
  where
    within_by : (k : ℕ) → k < length js → ((k ≡ p) × (get_or (set js p x) k 0 ≡ x)) ⊎ ((k ≢ p) × (get_or (set js p x) k 0 ≡ get_or js k 0)) → k + get_or (set js p x) k 0 ≤ length (set js p x)
    within_by k lk (inl e) = omega (arith, length-set js p x)
    within_by k lk (inr e) = omega (arith, length-set js p x, h.within k lk)

    over_by : (k m : ℕ) → k < length js → k ≤ m → m < k + get_or (set js p x) k 0
        → ((k ≡ p) × (get_or (set js p x) k 0 ≡ x)) ⊎ ((k ≢ p) × (get_or (set js p x) k 0 ≡ get_or js k 0))
        → ((m ≡ p) × (get_or (set js p x) m 0 ≡ x)) ⊎ ((m ≢ p) × (get_or (set js p x) m 0 ≡ get_or js m 0)) → 0 < get_or (set js p x) m 0
    over_by k m lk km mk e (inl e2) = omega arith
    over_by k m lk km mk (inl e) (inr e2) = let f = none m (omega arith) (omega arith) in omega arith
    over_by k m lk km mk (inr e) (inr e2) = let f = h.over k m lk km (omega arith) in omega arith

-- a place that is set to a jump is left no longer, and the others are left as before
pub left_set : (js : List ℕ) (p x : ℕ) → 0 < x → left_by (set js p x) ≡ set (left_by js) p false
left_set js p x h = let e : eqb x 0 ≡ false = grind (arith, nat_tests) in map-set (λ j. eqb j 0) js p x ∙ ap (set (left_by js) p) e

pub left_same : (js : List ℕ) (p : ℕ) → p < length js → 0 < get_or js p 0 → set (left_by js) p false ≡ left_by js
left_same js p l h =
    let e : eqb (get_or js p 0) 0 ≡ false = grind (arith, nat_tests) in
    let f : get_or (left_by js) p false ≡ false = get_or-map (λ j. eqb j 0) js p 0 false l ∙ e in
    sym (ap (set (left_by js) p) f) ∙ set-get_or (left_by js) p false

-- in a row of zeros every place is left
pub left_zeros : (n : ℕ) → left_by (replicate n 0) ≡ replicate n true
left_zeros zero = refl
left_zeros (suc n) = ap (λ r. true ∷ r) (left_zeros n)

-- a place with a jump isn't left
pub taken_at : (js : List ℕ) (k : ℕ) → k < length js → 0 < get_or js k 0 → get_or (left_by js) k false ≡ false
taken_at js k l h = let e : eqb (get_or js k 0) 0 ≡ false = grind (arith, nat_tests) in get_or-map (λ j. eqb j 0) js k 0 false l ∙ e
