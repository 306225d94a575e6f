-- The next flag of three words, word by word.
use Rattle.std.proofs.Common.{◌≡◌, ℕ, ◌+◌, ◌-◌, ◌<◌, ◌≤◌, List, get_or, ap, ◌∙◌, arith, ⊎_elim}
use Rattle.std.specs.Prelude.{max, None, Option, Some}
use Rattle.std.specs.Int.{bit_at}
use Rattle.std.proofs.lemmas.Bool.{cases_lt}
use Rattle.word_bits.specs.Bits.{IsFirstBit, NextBit}
use Rattle.rob_ring.specs.Flags.{flag_at}
use Rattle.rob_ring.proofs.Words.{at_low, at_middle, at_high}

-- the first bit of the low word from a place on is the first flag
pub first_in_low : (words : List ℕ) (from i : ℕ) → IsFirstBit (bit_at (get_or words 0 0)) from 64 i → IsFirstBit (flag_at words) from 192 i
first_in_low words from i first =
    let high = first.high in
    record {
      low = first.low;
      high = omega (arith, high);
      before = λ k le lt. at_low words k (omega (arith, high, lt)) ∙ first.before k le lt;
      here = at_low words i high ∙ first.here;
    }

-- the first bit of the middle word from a place on is the first flag behind the low word
pub first_in_middle : (words : List ℕ) (from n i : ℕ) → n ≡ from - 64 → IsFirstBit (bit_at (get_or words 1 0)) n 64 i → IsFirstBit (flag_at words) (max from 64) 192 (64 + i)
first_in_middle words from n i e first =
    let low = first.low in
    let high = first.high in
    let back : 64 + i - 64 ≡ i = omega arith in
    record {
      low = omega (arith, e, low);
      high = omega (arith, high);
      before = λ k le lt. at_middle words k (omega (arith, le)) (omega (arith, high, lt)) ∙ first.before (k - 64) (omega (arith, e, le)) (omega (arith, le, lt));
      here = at_middle words (64 + i) (omega arith) (omega (arith, high)) ∙ ap (bit_at (get_or words 1 0)) back ∙ first.here;
    }

-- the first bit of the high word from a place on is the first flag behind the others
pub first_in_high : (words : List ℕ) (from n i : ℕ) → n ≡ from - 128 → IsFirstBit (bit_at (get_or words 2 0)) n 64 i → IsFirstBit (flag_at words) (max from 128) 192 (128 + i)
first_in_high words from n i e first =
    let low = first.low in
    let high = first.high in
    let back : 128 + i - 128 ≡ i = omega arith in
    record {
      low = omega (arith, e, low);
      high = omega (arith, high);
      before = λ k le lt. at_high words k (omega (arith, le)) (omega (arith, high, lt)) ∙ first.before (k - 128) (omega (arith, e, le)) (omega (arith, le, lt));
      here = at_high words (128 + i) (omega arith) (omega (arith, high)) ∙ ap (bit_at (get_or words 2 0)) back ∙ first.here;
    }

-- where the high word has no bit from a place on, there is no flag behind the others
pub none_in_high : (words : List ℕ) (from n : ℕ) → n ≡ from - 128 → NextBit (bit_at (get_or words 2 0)) n 64 None → NextBit (flag_at words) (max from 128) 192 None
none_in_high words from n e none k le lt = at_high words k (omega (arith, le)) lt ∙ none (k - 128) (omega (arith, e, le)) (omega (arith, le, lt))

-- where the middle word has no bit from a place on, the next flag is the next one behind it
pub none_in_middle : (words : List ℕ) (from n : ℕ) (next : Option ℕ) → n ≡ from - 64 → NextBit (bit_at (get_or words 1 0)) n 64 None →
    NextBit (flag_at words) (max from 128) 192 next → NextBit (flag_at words) (max from 64) 192 next
none_in_middle words from n None e none later = λ k le lt.
    ⊎_elim
    (λ (l : k < 128). at_middle words k (omega (arith, le)) l ∙ none (k - 64) (omega (arith, e, le)) (omega (arith, le, l)))
    (λ (g : 128 ≤ k). later k (omega (arith, le, g)) lt)
    (cases_lt k 128)
none_in_middle words from n (Some i) e none later =
    let low = later.low in
    record {
      low = omega (arith, low);
      high = later.high;
      before = λ k le lt. ⊎_elim
          (λ (l : k < 128). at_middle words k (omega (arith, le)) l ∙ none (k - 64) (omega (arith, e, le)) (omega (arith, le, l)))
          (λ (g : 128 ≤ k). later.before k (omega (arith, le, g)) lt)
          (cases_lt k 128);
      here = later.here;
    }

-- where the low word has no bit from a place on, the next flag is the next one behind it
pub none_in_low : (words : List ℕ) (from : ℕ) (next : Option ℕ) → NextBit (bit_at (get_or words 0 0)) from 64 None →
    NextBit (flag_at words) (max from 64) 192 next → NextBit (flag_at words) from 192 next
none_in_low words from None none later = λ k le lt.
    ⊎_elim
    (λ (l : k < 64). at_low words k l ∙ none k le l)
    (λ (g : 64 ≤ k). later k (omega (arith, le, g)) lt)
    (cases_lt k 64)
none_in_low words from (Some i) none later =
    let low = later.low in
    record {
      low = omega (arith, low);
      high = later.high;
      before = λ k le lt. ⊎_elim
          (λ (l : k < 64). at_low words k l ∙ none k le l)
          (λ (g : 64 ≤ k). later.before k (omega (arith, le, g)) lt)
          (cases_lt k 64);
      here = later.here;
    }
