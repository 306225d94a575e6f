-- Numbers of places, each of which is named once.
use Rattle.std.proofs.Common.{◌≡◌, ◌≢◌, ℕ, ◌+◌, ◌<◌, List, [], ◌∷◌, ◌++◌, length, get_or, refl, sym, ◌∙◌, arith, ⊎_elim}
use Rattle.std.specs.Prelude.{IsPermutation, ◌==◌}
use Rattle.std.specs.List.{All, AllPairs, range_with_len}
use Rattle.std.proofs.lemmas.Bool.{eq-eqb, ne_eqb}
use Rattle.std.proofs.lemmas.Bool.Decides.{Decides-eqb, eqb_tells}
use Rattle.std.proofs.lemmas.List.{get_or_append_left, get_or-append-add, get_or_push, length-append}
use Rattle.std.proofs.lemmas.List.FromFn.{get_or-range_with_len, length-range_with_len}
use Rattle.std.proofs.lemmas.List.Sorted.{All-permutation}
use Rattle.std.proofs.lemmas.Map.Keys.{IsDistinct-IsPermutation}
use Rattle.std.proofs.lemmas.Map.Made.{AllPairs-from_IsDistinct, IsDistinct-from_AllPairs}

flips : (a b : ℕ) → (a == b) ≡ (b == a)
flips a b = ⊎_elim (λ same. same.0 ∙ sym (eq-eqb b a (sym same.1))) (λ other. other.0 ∙ sym (ne_eqb b a (λ e. other.1 (sym e)))) (eqb_tells a b)

range_differs : (n : ℕ) → AllPairs (λ p q. p ≢ q) (range_with_len 0 n)
range_differs n i j d lt l same =
    let m = length-range_with_len 0 n in
    let p = get_or-range_with_len 0 n i d (omega arith) in
    let q = get_or-range_with_len 0 n j d (omega arith) in
    omega (arith, p, q, same)

-- no two of them are the same
pub all_differ : (room : ℕ) (numbers : List ℕ) → IsPermutation (range_with_len 0 room) numbers → AllPairs (λ p q. p ≢ q) numbers
all_differ room numbers once =
    AllPairs-from_IsDistinct Decides-eqb numbers (IsDistinct-IsPermutation (λ a b. a == b) flips (range_with_len 0 room) numbers once (IsDistinct-from_AllPairs Decides-eqb (range_with_len 0 room) (range_differs room)))

-- every number of a permutation of the places is a place's
pub all_below : (room : ℕ) (numbers : List ℕ) → IsPermutation (range_with_len 0 room) numbers → All (λ p. p < room) numbers
all_below room numbers once =
    All-permutation (λ p. p < room) (range_with_len 0 room) numbers once (λ k d l. let n = length-range_with_len 0 room in let e = get_or-range_with_len 0 room k d (omega arith) in omega (arith, e, n, l))

-- the numbers of taken places are below the number of places
pub taken_below : (room : ℕ) (ages free : List ℕ) → IsPermutation (range_with_len 0 room) (ages ++ free) → All (λ p. p < room) ages
taken_below room ages free once k d lt =
    let longer = length-append ages free in
    let here = all_below room (ages ++ free) once k d (omega arith) in
    let e = get_or_append_left ages free d k lt in
    omega (arith, here, e)

-- the last of the free places: where it stands among all, that it is a place's, and that no taken one is the same
module _ (room : ℕ) (ages rest : List ℕ) (p : ℕ) (once : IsPermutation (range_with_len 0 room) (ages ++ (rest ++ p ∷ []))) where
  last : (d : ℕ) → get_or (ages ++ (rest ++ p ∷ [])) (length ages + length rest) d ≡ p
  last d = get_or-append-add ages (rest ++ p ∷ []) (length rest) d ∙ get_or_push rest p d (length rest) refl

  pub below : p < room
  below =
      let longer = length-append ages (rest ++ p ∷ []) in
      let more = length-append rest (p ∷ []) in
      let here = all_below room (ages ++ (rest ++ p ∷ [])) once (length ages + length rest) p (omega arith) in
      let e = last p in
      omega (arith, here, e)

  pub apart : All (λ q. q ≢ p) ages
  apart k d lt same =
      let longer = length-append ages (rest ++ p ∷ []) in
      let more = length-append rest (p ∷ []) in
      all_differ room (ages ++ (rest ++ p ∷ [])) once k (length ages + length rest) d (omega arith) (omega arith)
      (get_or_append_left ages (rest ++ p ∷ []) d k lt ∙ same ∙ sym (last d))
