-- The first of several that is there, and lists made along the numbers from one on.
use Rattle.std.proofs.Common.{◌≡◌, ℕ, zero, suc, ◌+◌, ◌-◌, ◌<◌, ◌≤◌, List, [], ◌∷◌, map, get_or, Option, None, Some, refl, sym, ap, ◌∙◌, arith}
use Rattle.std.specs.List.{range_with_len}
use Rattle.std.proofs.lemmas.List.FromFn.{get_or-map-range_with_len}
use Rattle.elf_loader.specs.Faults.{first_some}

-- where a list of options has no first value, the option at each place is None
pub none_at : {T : Type 0} (os : List (Option T)) (i : ℕ) → first_some os ≡ None → get_or os i None ≡ None
none_at [] i h = refl
none_at (None ∷ os) zero h = refl
none_at (None ∷ os) (suc i) h = none_at os i h
none_at (Some x ∷ os) i h = absurd (cc)

-- where the options made along the numbers below n have no first value, that of each such number is None
pub none_below : {T : Type 0} (f : ℕ → Option T) (i n : ℕ) → first_some (map f (range_with_len 0 n)) ≡ None → i < n → f i ≡ None
none_below f i n h l = sym (get_or-map-range_with_len f 0 n i i None l (omega arith)) ∙ none_at (map f (range_with_len 0 n)) i h

-- the numbers from i on below n begin with i
pub range_step : (i n : ℕ) → i < n → range_with_len i (n - i) ≡ i ∷ range_with_len (i + 1) (n - (i + 1))
range_step i n l = let e : n - i ≡ suc (n - (i + 1)) = omega arith in ap (range_with_len i) e

-- past the last number there are no numbers left
pub range_end : (i n : ℕ) → n ≤ i → range_with_len i (n - i) ≡ []
range_end i n l = let e : n - i ≡ 0 = omega arith in ap (range_with_len i) e

-- the first value along the numbers from i on is that from the next on, where i has none
pub first_skip : {T : Type 0} (f : ℕ → Option T) (i n : ℕ) (all : Option T) → i < n → f i ≡ None
    → first_some (map f (range_with_len i (n - i))) ≡ all → first_some (map f (range_with_len (i + 1) (n - (i + 1)))) ≡ all
first_skip {T} f i n all l e h =
    let rest = map f (range_with_len (i + 1) (n - (i + 1))) in
    sym (ap (λ (o : Option T). first_some (o ∷ rest)) e) ∙ sym (ap (λ (r : List ℕ). first_some (map f r)) (range_step i n l)) ∙ h

-- the first value along the numbers from i on is that of i, where i has one
pub first_found : {T : Type 0} (f : ℕ → Option T) (i n : ℕ) (all : Option T) (x : T) → i < n → f i ≡ Some x
    → first_some (map f (range_with_len i (n - i))) ≡ all → all ≡ Some x
first_found {T} f i n all x l e h =
    let rest = map f (range_with_len (i + 1) (n - (i + 1))) in
    sym h ∙ ap (λ (r : List ℕ). first_some (map f r)) (range_step i n l) ∙ ap (λ (o : Option T). first_some (o ∷ rest)) e

-- past the last number there is no value to find
pub first_none : {T : Type 0} (f : ℕ → Option T) (i n : ℕ) (all : Option T) → n ≤ i
    → first_some (map f (range_with_len i (n - i))) ≡ all → all ≡ None
first_none f i n all l h = sym h ∙ ap (λ (r : List ℕ). first_some (map f r)) (range_end i n l)
