-- Serials that rise: one that is taken out is the first, or isn't there; and one that is looked for is found at the
-- place between those below it and the others.
use Rattle.std.proofs.Common.{◌≡◌, ◌≢◌, ℕ, zero, suc, ◌-◌, ◌<◌, ◌≤◌, ◌⊎◌, inl, inr, Bool, true, false, cond, not, ◌||◌, List, [], ◌∷◌, ◌++◌, Option, Some, None, length, get_or, refl, ap, ap₂, sym, subst, ◌∙◌, arith}
use Rattle.std.specs.Prelude.{◌==◌, drop, map, nat_lt, if◌then◌else◌}
use Rattle.std.specs.List.{All, filter, find, list_any}
use Rattle.std.specs.List.Sorted.{IsNonDecreasingBy, IsPartitionPoint, IsPartitionedBy}
use Rattle.std.proofs.lemmas.Bool.{cases_lt}
use Rattle.std.proofs.lemmas.Bool.Decides.{nat_tests}
use Rattle.std.proofs.lemmas.List.Sorted.{IsPartitionedBy-ltb}
use Rattle.std.proofs.lemmas.List.{get_or-map, get_or_default, length-map}
use Rattle.std.proofs.lemmas.List.Quantifiers.{all_pairs_push}
use Rattle.std.proofs.lemmas.List.Kept.{AllPairs-filter}
use Rattle.std.proofs.lemmas.List.Elements.{All-cons, All-head, All-tail}
use Rattle.lsq.specs.Queues.{Rise}
use Rattle.lsq.proofs.Absent.{none_taken}

module _ {X : Type 0} (serial_of : X → ℕ) where
  -- a serial that is below all serials isn't among them
  none_above : (serial : ℕ) (xs : List X) → All (λ x. serial < serial_of x) xs → list_any (λ x. serial_of x == serial) xs ≡ false
  none_above serial [] a = refl
  none_above serial (x ∷ xs) a =
      let lt : serial < serial_of x = All-head (λ x. serial < serial_of x) x xs a in
      let other : (serial_of x == serial) ≡ false = grind (arith, nat_tests) in
      ap₂ (λ b c. b || c) other (none_above serial xs (All-tail (λ x. serial < serial_of x) x xs a))

  above_first : (x : X) (xs : List X) → Rise serial_of (x ∷ xs) → All (λ y. serial_of x < serial_of y) xs
  above_first x xs r k d within = r 0 (suc k) d (omega arith) (omega (arith, within))

  above_all : (serial : ℕ) (x : X) (xs : List X) → Rise serial_of (x ∷ xs) → serial < serial_of x → All (λ y. serial < serial_of y) (x ∷ xs)
  above_all serial x xs r lt = All-cons (λ y. serial < serial_of y) x xs lt (λ k d within. let more = above_first x xs r k d within in omega (arith, lt, more))

  -- where the first is above it, none is taken out
  pub past : (serial : ℕ) (first : X) (xs : List X) → Rise serial_of xs → first ≡ get_or xs 0 first → serial < serial_of first →
      filter (λ x. not (serial_of x == serial)) xs ≡ xs
  past serial first [] r is lt = refl
  past serial first (x ∷ xs) r is lt =
      let same : serial_of first ≡ serial_of x = ap serial_of is in
      let above : serial < serial_of x = omega (arith, same, lt) in
      none_taken (λ x. serial_of x == serial) (x ∷ xs) (none_above serial (x ∷ xs) (above_all serial x xs r above))

  -- where the first has it, that alone is
  pub taken : (serial : ℕ) (first : X) (xs ys : List X) → Rise serial_of xs → 0 < length xs → first ≡ get_or xs 0 first → serial_of first ≡ serial → ys ≡ drop 1 xs →
      ys ≡ filter (λ x. not (serial_of x == serial)) xs
  taken serial first [] ys r some is same left = absurd (omega (arith, some))
  taken serial first (x ∷ xs) ys r some is same left =
      let e : serial_of x ≡ serial = sym (ap serial_of is) ∙ same in
      let here : (serial_of x == serial) ≡ true = grind (arith, nat_tests) in
      let rest = none_taken (λ x. serial_of x == serial) xs (none_above serial xs (λ k d within. let more = above_first x xs r k d within in omega (arith, e, more))) in
      left ∙ sym (ap (λ b. cond (not b) (x ∷ filter (λ x. not (serial_of x == serial)) xs) (filter (λ x. not (serial_of x == serial)) xs)) here ∙ rest)

  -- ---- some are taken out, one more comes, and one is changed

  -- the serials of the items that a filter leaves rise
  pub rises_kept : (p : X → Bool) (xs ys : List X) → Rise serial_of xs → ys ≡ filter p xs → Rise serial_of ys
  rises_kept p xs ys r e = subst (Rise serial_of) (sym e) (AllPairs-filter (λ a b. serial_of a < serial_of b) p xs r)

  below_last : (xs : List X) (n k : ℕ) (d e : X) → Rise serial_of xs → k < length xs → serial_of (get_or xs (length xs - 1) e) < n → (b : Bool) →
      nat_lt k (length xs - 1) ≡ b → serial_of (get_or xs k d) < n
  below_last xs n k d e r within h true t =
      let lt : k < length xs - 1 = grind (arith, nat_tests) in
      let less = r k (length xs - 1) d lt (omega (arith, within)) in
      let same = ap serial_of (get_or_default xs (length xs - 1) d e (omega (arith, within))) in
      omega (arith, less, same, h)
  below_last xs n k d e r within h false t =
      let ge : length xs - 1 ≤ k = grind (arith, nat_tests) in
      let at : k ≡ length xs - 1 = omega (arith, ge, within) in
      let same = ap serial_of (get_or_default xs k d e within ∙ ap (λ k. get_or xs k e) at) in
      omega (arith, same, h)

  -- the serials rise where an item comes behind the last that is above it
  pub rises_more : (xs : List X) (x last e : X) → Rise serial_of xs → last ≡ get_or xs (length xs - 1) e → nat_lt (serial_of last) (serial_of x) ≡ true → Rise serial_of (xs ++ x ∷ [])
  rises_more xs x last e r is h =
      let same = ap serial_of is in
      let above : serial_of last < serial_of x = grind (arith, nat_tests) in
      let lt : serial_of (get_or xs (length xs - 1) e) < serial_of x = omega (arith, same, above) in
      all_pairs_push (λ (a b : X). serial_of a < serial_of b) xs x r (λ k d within. below_last xs (serial_of x) k d e r within lt (nat_lt k (length xs - 1)) refl)

  same_either : (b : Bool) (x y : X) → serial_of y ≡ serial_of x → serial_of (if b then y else x) ≡ serial_of x
  same_either true x y e = e
  same_either false x y e = refl

  abbrev changed_at : ℕ → (X → X) → X → X
  changed_at serial change x = if serial_of x == serial then change x else x

  rises_map : (serial : ℕ) (change : X → X) → ((x : X) → serial_of (change x) ≡ serial_of x) → (xs : List X) → Rise serial_of xs → Rise serial_of (map (changed_at serial change) xs)
  rises_map serial change keeps xs r i j d lt within =
      let at = changed_at serial change in
      let same : (x : X) → serial_of (at x) ≡ serial_of x = λ x. same_either (serial_of x == serial) x (change x) (keeps x) in
      let len = length-map xs at in
      let there : j < length xs = omega (arith, len, within) in
      let here : i < length xs = omega (arith, lt, there) in
      let x = get_or xs i d in
      let y = get_or xs j d in
      let less = r i j d lt there in
      let p = ap serial_of (get_or-map at xs i d d here) ∙ same x in
      let q = ap serial_of (get_or-map at xs j d d there) ∙ same y in
      omega (arith, less, p, q)

  -- the serials rise where an item is changed that keeps its own
  pub rises_changed : (serial : ℕ) (change : X → X) → ((x : X) → serial_of (change x) ≡ serial_of x) → (xs ys : List X) → Rise serial_of xs →
      ys ≡ map (changed_at serial change) xs → Rise serial_of ys
  rises_changed serial change keeps xs ys r e = subst (Rise serial_of) (sym e) (rises_map serial change keeps xs r)

  -- ---- one is looked for

  not_same : (a b : ℕ) → a ≢ b → (a == b) ≡ false
  not_same a b n = grind (arith, nat_tests, n)

  none_if : (b : Bool) (x : X) (o : Option X) → b ≡ false → o ≡ None → cond b (Some x) o ≡ None
  none_if true x o h k = absurd (cc)
  none_if false x o h k = k

  not_among : (serial : ℕ) (xs : List X) → All (λ x. (serial_of x == serial) ≡ false) xs → find (λ x. serial_of x == serial) xs ≡ None
  not_among serial [] a = refl
  not_among serial (x ∷ xs) a =
      none_if (serial_of x == serial) x _ (All-head (λ x. (serial_of x == serial) ≡ false) x xs a) (not_among serial xs (All-tail (λ x. (serial_of x == serial) ≡ false) x xs a))

  -- a serial below the first isn't among them
  pub below_first : (serial : ℕ) (first : X) (xs : List X) → Rise serial_of xs → first ≡ get_or xs 0 first → serial < serial_of first → None ≡ find (λ x. serial_of x == serial) xs
  below_first serial first [] r is lt = refl
  below_first serial first (x ∷ xs) r is lt =
      let same : serial_of first ≡ serial_of x = ap serial_of is in
      let above : serial < serial_of x = omega (arith, same, lt) in
      sym (not_among serial (x ∷ xs) (λ k d within.
      let more : serial < serial_of (get_or (x ∷ xs) k d) = above_all serial x xs r above k d within in
      grind (arith, nat_tests, more)))

  first_if : (b : Bool) (x y : X) (o : Option X) → b ≡ false → o ≡ Some y → cond b (Some x) o ≡ Some y
  first_if true x y o h k = absurd (cc)
  first_if false x y o h k = k

  found : (serial : ℕ) (xs : List X) (i : ℕ) (d : X) → Rise serial_of xs → i < length xs → serial_of (get_or xs i d) ≡ serial → find (λ x. serial_of x == serial) xs ≡ Some (get_or xs i d)
  found serial [] i d r within h = absurd (omega (arith, within))
  found serial (x ∷ xs) zero d r within h =
      let here : (serial_of x == serial) ≡ true = grind (arith, nat_tests) in
      ap (λ b. cond b (Some x) (find (λ x. serial_of x == serial) xs)) here
  found serial (x ∷ xs) (suc i) d r within h =
      let lt : serial_of x < serial_of (get_or xs i d) = r 0 (suc i) d (omega arith) within in
      let other : (serial_of x == serial) ≡ false = grind (arith, nat_tests) in
      first_if (serial_of x == serial) x (get_or xs i d) _ other (found serial xs i d (λ i j d lt within. r (suc i) (suc j) d (omega (arith, lt)) (omega (arith, within))) (omega (arith, within)) h)

  -- the one at a place is found by its serial
  pub found_at : (serial : ℕ) (xs : List X) (i : ℕ) (x : X) → Rise serial_of xs → i < length xs → x ≡ get_or xs i x → serial_of x ≡ serial → Some x ≡ find (λ x. serial_of x == serial) xs
  found_at serial xs i x r within is h = ap (λ x. Some x) is ∙ sym (found serial xs i x r within (sym (ap serial_of is) ∙ h))

  non_decreasing : (xs : List X) → Rise serial_of xs → IsNonDecreasingBy serial_of xs
  non_decreasing xs r i j d le within = by (cases_lt i j)
    where
      by : (i < j) ⊎ (j ≤ i) → serial_of (get_or xs i d) ≤ serial_of (get_or xs j d)
      by (inl lt) = let less = r i j d lt within in omega (arith, less)
      by (inr ge) = let same : i ≡ j = omega (arith, le, ge) in let e = ap (λ i. serial_of (get_or xs i d)) same in omega (arith, e)

  -- they are parted by whether they are below a serial
  pub parted : (serial : ℕ) (xs : List X) → Rise serial_of xs → IsPartitionedBy (λ x. nat_lt (serial_of x) serial) xs
  parted serial xs r = IsPartitionedBy-ltb serial_of xs serial (non_decreasing xs r)

  -- a serial that isn't at the place between those below it and the others isn't among them
  module _ (serial : ℕ) (xs : List X) (i : ℕ) (r : Rise serial_of xs) (p : IsPartitionPoint (λ x. nat_lt (serial_of x) serial ≡ true) (λ x. nat_lt (serial_of x) serial ≡ false) xs i) where
    nowhere : ((d : X) → i < length xs → serial_of (get_or xs i d) ≢ serial) → None ≡ find (λ x. serial_of x == serial) xs
    nowhere other = sym (not_among serial xs (λ k d within. by k d within (cases_lt k i)))
      where
        by : (k : ℕ) (d : X) → k < length xs → (k < i) ⊎ (i ≤ k) → (serial_of (get_or xs k d) == serial) ≡ false
        by k d within (inl lt) =
            let less = p.0 k d (omega arith) lt in
            let below : serial_of (get_or xs k d) < serial = grind (arith, nat_tests, less) in
            grind (arith, nat_tests, below)
        by k d within (inr ge) = behind (cases_lt i k)
          where
            least : serial ≤ serial_of (get_or xs i d)
            least = let some = p.1 i d (omega arith) (omega (arith, ge, within)) in grind (arith, nat_tests, some)

            behind : (i < k) ⊎ (k ≤ i) → (serial_of (get_or xs k d) == serial) ≡ false
            behind (inl lt) =
                let more = r i k d lt within in
                let above : serial < serial_of (get_or xs k d) = omega (arith, least, more) in
                grind (arith, nat_tests, above)
            behind (inr le) =
                let same : i ≡ k = omega (arith, ge, le) in
                not_same (serial_of (get_or xs k d)) serial (subst (λ i. serial_of (get_or xs i d) ≢ serial) same (other d (omega (arith, same, within))))

    pub past_all : length xs ≤ i → None ≡ find (λ x. serial_of x == serial) xs
    past_all past = nowhere (λ d within. absurd (omega (arith, past, within)))

    pub other_at : (x : X) → i < length xs → x ≡ get_or xs i x → serial_of x ≢ serial → None ≡ find (λ x. serial_of x == serial) xs
    other_at x within is n = nowhere (λ d lt h. n (ap serial_of (is ∙ get_or_default xs i x d within) ∙ h))
