-- What numbers come to at most, where some are changed.
use Rattle.std.proofs.Common.{◌≡◌, ℕ, zero, suc, ◌+◌, ◌≤◌, false, List, [], ◌∷◌, map, get_or, set, ap, arith}
use Rattle.std.proofs.lemmas.List.{get_or-set_other}
use Rattle.run_counts.specs.Counted.{as_told, names, number_in, numbers}
use Rattle.run_counts.specs.inner.Counting.{AtMost, is_plain_place}

-- what is at most this is at most more
pub at_most_more : (most more : ℕ) (ks : List ℕ) → most ≤ more → AtMost most ks → AtMost more ks
at_most_more most more ks l h = record { each = λ place p. let e : get_or ks place 0 ≤ most = h.each place p in omega (arith, l, e) }

-- a number is one more at most, where one is added at a place
one_more : (ks : List ℕ) (place p : ℕ) → get_or (set ks place (get_or ks place 0 + 1)) p 0 ≤ get_or ks p 0 + 1
one_more [] place p = omega arith
one_more (k ∷ ks) zero zero = omega arith
one_more (k ∷ ks) zero (suc p) = omega arith
one_more (k ∷ ks) (suc place) zero = omega arith
one_more (k ∷ ks) (suc place) (suc p) = one_more ks place p

pub at_most_one_more : (most : ℕ) (ks : List ℕ) (place : ℕ) → AtMost most ks → AtMost (most + 1) (set ks place (get_or ks place 0 + 1))
at_most_one_more most ks place h = record {
  each = λ p is.
      let before : get_or ks p 0 ≤ most = h.each p is in
      let now : get_or (set ks place (get_or ks place 0 + 1)) p 0 ≤ get_or ks p 0 + 1 = one_more ks place p in
      omega (arith, before, now);
}

-- a number to which an event adds that tells an amount isn't one of those
pub at_most_stays : (most : ℕ) (ks : List ℕ) (place n : ℕ) → is_plain_place place ≡ false → AtMost most ks → AtMost most (set ks place n)
at_most_stays most ks place n told h = record {
  each = λ p is.
      let before : get_or ks p 0 ≤ most = h.each p is in
      let same : get_or (set ks place n) p 0 ≡ get_or ks p 0 = get_or-set_other ks place p n 0 (λ e. let clash : is_plain_place p ≡ is_plain_place place = ap is_plain_place e in absurd (cc)) in
      omega (arith, before, same);
}

-- of no row each number is 0
none_at : (ns : List (List ℕ)) (place : ℕ) → get_or (map (λ name. as_told (number_in name [])) ns) place 0 ≤ 0
unfolding as_told
none_at [] place = omega arith
none_at (name ∷ rest) zero = omega arith
none_at (name ∷ rest) (suc place) = none_at rest place

pub at_most_at_first : AtMost 0 (numbers [])
at_most_at_first = record { each = λ place p. none_at names place }
