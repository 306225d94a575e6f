-- byteorder's words for numbers in bytes are those of the instruction set.
use Rattle.std.proofs.Common.{◌≡◌, ℕ, zero, suc, ◌+◌, ◌*◌, ◌-◌, List, [], ◌∷◌, take, drop, refl, ap, ◌∙◌, arith}
use Rattle.std.specs.Prelude.{slice_range, slice_index}
use Rattle.byteorder.specs.Endian.{little_from, little_number}
use Rattle.rv_types.specs.Word.{from_le}

-- the first bytes of no bytes make the number 0
take_nothing : (n : ℕ) → from_le (take n []) ≡ 0
take_nothing zero = refl
take_nothing (suc n) = refl

-- the number of the bytes with one more in front; past the end there is none, and its number is 0
one_more : (n i : ℕ) (xs : List ℕ) → slice_index xs i + 256 * from_le (take n (drop (suc i) xs)) ≡ from_le (take (suc n) (drop i xs))
one_more n zero [] = let e = take_nothing n in omega arith
one_more n zero (x ∷ xs) = refl
one_more n (suc i) [] = let e = take_nothing n in omega arith
one_more n (suc i) (x ∷ xs) = one_more n i xs

-- the number in the first n bytes from place i on
pub little_from_le : (n i : ℕ) (xs : List ℕ) → little_from i n xs ≡ from_le (take n (drop i xs))
little_from_le zero i xs = refl
little_from_le (suc n) i xs = ap (λ k. slice_index xs i + 256 * k) (little_from_le n (suc i) xs) ∙ one_more n i xs

-- the number in n bytes from a place on
pub number_at : (n at : ℕ) (xs : List ℕ) → little_number n (drop at xs) ≡ from_le (slice_range xs at (at + n))
number_at n at xs = let e : at + n - at ≡ n = omega arith in rw e (little_from_le n 0 (drop at xs))
