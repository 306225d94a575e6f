-- What stands before a position, youngest first, one position on.
use Rattle.std.proofs.Common.{◌≡◌, ℕ, zero, suc, ◌+◌, ◌<◌, List, [], ◌∷◌, length, take, drop, get_or, Some, slice_get, refl, ap, sym, ◌∙◌, arith}
use Rattle.std.specs.Prelude.{reverse}
use Rattle.std.proofs.lemmas.List.{take_more, reverse-append}
use Rattle.std.proofs.lemmas.Option.{get_or_from_slice_get, slice_get_within}

pub before_next : {A : Type 0} (xs : List A) (k : ℕ) (x : A) → slice_get xs k ≡ Some x → reverse (take (k + 1) xs) ≡ x ∷ reverse (take k xs)
before_next xs k x at =
    ap reverse (take_more xs k x (slice_get_within xs k x at))
    ∙ reverse-append (take k xs) (get_or xs k x ∷ [])
    ∙ ap (λ y. y ∷ reverse (take k xs)) (get_or_from_slice_get xs k x x at)

-- what stands before a position n, youngest first, where n is k + 1 and x stands at k
pub before_step : {A : Type 0} (xs : List A) (n k : ℕ) (x : A) → n ≡ k + 1 → slice_get xs k ≡ Some x → reverse (take n xs) ≡ x ∷ reverse (take k xs)
before_step xs n k x e at = ap (λ n. reverse (take n xs)) e ∙ before_next xs k x at

-- a list has an element at each position below its length
pub found_at : {A : Type 0} (xs : List A) (i : ℕ) → i < length xs → (x : A) × (slice_get xs i ≡ Some x)
found_at [] i lt = absurd (omega (arith, lt))
found_at (x ∷ xs) zero lt = (x, refl)
found_at (x ∷ xs) (suc i) lt = found_at xs i (omega (arith, lt))

-- what stands from a position on is the element there and those behind it
pub drop_next : {A : Type 0} (xs : List A) (i : ℕ) (x : A) → slice_get xs i ≡ Some x → drop i xs ≡ x ∷ drop (suc i) xs
drop_next [] i x h = absurd (cc)
drop_next (y ∷ xs) zero x h = cc
drop_next (y ∷ xs) (suc i) x h = drop_next xs i x h

-- what is left from a place on is the item there, and what is left from the next place on
pub drop_step : {A : Type 0} (xs : List A) (i n : ℕ) (x : A) → n ≡ i + 1 → slice_get xs i ≡ Some x → drop i xs ≡ x ∷ drop n xs
drop_step xs i n x e h =
    let same : suc i ≡ n = omega (arith, e) in
    drop_next xs i x h ∙ ap (λ n. x ∷ drop n xs) same

-- what is read by an index within the list stands there
index_is : {A : Type 0} (xs : List A) (k : ℕ) (x : A) → k < length xs → x ≡ get_or xs k x → slice_get xs k ≡ Some x
index_is xs k x lt h =
    let (y, at) = found_at xs k lt in
    at ∙ ap Some (sym (h ∙ get_or_from_slice_get xs k y x at))

pub indexed : {A : Type 0} (xs ys : List A) (k : ℕ) (x : A) → k < length xs → ys ≡ xs → x ≡ get_or ys k x → slice_get xs k ≡ Some x
indexed xs ys k x lt same h = index_is xs k x lt (h ∙ ap (λ zs. get_or zs k x) same)
