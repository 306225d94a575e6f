-- The lowest bit of a word from a place on.
use Rattle.std.proofs.Common.{◌≡◌, ℕ, ◌+◌, ◌/◌, ◌%◌, ◌^◌, ◌-◌, ◌<◌, ◌≤◌, ap, sym, ◌∙◌, arith, inl, inr}
use Rattle.std.specs.Int.{bit_at}
use Rattle.std.proofs.lemmas.Bool.{cases_lt}
use Rattle.std.proofs.lemmas.Nat.{shr-shr}
use Rattle.std.proofs.lemmas.Nat.Bits.{bit_at_above, bit_at-zero}
use Rattle.word_bits.specs.Bits.{IsFirstBit}

pub none_from : (n from : ℕ) → n / 2 ^ from ≡ 0 → (k : ℕ) → from ≤ k → bit_at n k ≡ 0
none_from n from none k low =
    let on : from + (k - from) ≡ k = omega arith in
    ap (bit_at n) (sym on) ∙ sym (ap (λ n. n % 2) (shr-shr n from (k - from))) ∙ ap (λ n. bit_at n (k - from)) none ∙ bit_at-zero (k - from)

-- z is the number of zeros below the lowest 1 of what is left of a word of so many bits
pub first_from : (bits n from z : ℕ) → from < bits → n < 2 ^ bits → (z < bits) × (bit_at (n / 2 ^ from) z ≡ 1) × ((k : ℕ) → k < z → bit_at (n / 2 ^ from) k ≡ 0) → IsFirstBit (bit_at n) from bits (from + z)
first_from bits n from z lt fits low =
    let here = sym (ap (λ n. n % 2) (shr-shr n from z)) ∙ low.1 in
    record {
      low = omega arith;
      high = elim (cases_lt (from + z) bits) [
        | inl less ↦ less
        | inr ge ↦ absurd (let none = bit_at_above n bits (from + z) fits ge in omega (arith, none, here))
      ];
      before = λ k l h.
          let on : from + (k - from) ≡ k = omega arith in
          let less : k - from < z = omega arith in
          ap (bit_at n) (sym on) ∙ sym (ap (λ n. n % 2) (shr-shr n from (k - from))) ∙ low.2 (k - from) less;
      here = here;
    }
