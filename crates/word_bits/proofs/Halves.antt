-- The halves of a word of 128 bits.
use Rattle.std.proofs.Common.{◌≡◌, ◌≢◌, ℕ, ◌+◌, ◌*◌, ◌/◌, ◌%◌, ◌^◌, ◌-◌, ◌<◌, ◌≤◌, ap, sym, ◌∙◌, arith, inl, inr}
use Rattle.std.specs.Prelude.{max}
use Rattle.std.specs.Int.{bit_at}
use Rattle.std.proofs.lemmas.Bool.{cases_lt}
use Rattle.std.proofs.lemmas.Nat.{shr-shr}
use Rattle.std.proofs.lemmas.Nat.Bits.{bit_at_cat_low}
use Rattle.word_bits.specs.Bits.{IsFirstBit}

pub low_bit : (n k : ℕ) → k < 64 → bit_at (n % 2 ^ 64) k ≡ bit_at n k
low_bit n k lt =
    let whole : n / 2 ^ 64 * 2 ^ 64 + n % 2 ^ 64 ≡ n = omega arith in
    sym (bit_at_cat_low (n / 2 ^ 64) 64 (n % 2 ^ 64) k lt) ∙ ap (λ n. bit_at n k) whole

pub high_bit : (n k : ℕ) → bit_at (n / 2 ^ 64) k ≡ bit_at n (64 + k)
high_bit n k = ap (λ n. n % 2) (shr-shr n 64 k)

-- ---- the first bit of the high half from a place on

module _ (n w from start : ℕ) (same : (b : ℕ) → bit_at w b ≡ bit_at n (64 + b)) (is : start ≡ from - 64) where
  clear : (k : ℕ) → 64 ≤ k → bit_at w (k - 64) ≡ 0 → bit_at n k ≡ 0
  clear k l zero =
      let on : 64 + (k - 64) ≡ k = omega (arith, l) in
      ap (bit_at n) (sym on) ∙ sym (same (k - 64)) ∙ zero

  pub none_in_high : ((k : ℕ) → start ≤ k → k < 64 → bit_at w k ≡ 0) → (k : ℕ) → max from 64 ≤ k → k < 128 → bit_at n k ≡ 0
  none_in_high none k l h = clear k (omega (arith, l)) (none (k - 64) (omega (arith, l, is)) (omega (arith, l, h)))

  pub first_in_high : (i : ℕ) → IsFirstBit (bit_at w) start 64 i → IsFirstBit (bit_at n) (max from 64) 128 (64 + i)
  first_in_high i first =
      let low = first.low in
      let high = first.high in
      record {
        low = omega (arith, low, is);
        high = omega (arith, high);
        before = λ k l h. clear k (omega (arith, l)) (first.before (k - 64) (omega (arith, l, is)) (omega (arith, l, h)));
        here = sym (same i) ∙ first.here;
      }

-- ---- a word of which one bit of a half was changed

-- w is the word, l and h its halves, x the half with the bit changed, and r the word with that half
module _ (w l h x r bit : ℕ) (low : (b : ℕ) → b < 64 → bit_at l b ≡ bit_at w b) (high : (b : ℕ) → bit_at h b ≡ bit_at w (64 + b)) where
  from_high : (b : ℕ) → 64 ≤ b → bit_at r (64 + (b - 64)) ≡ bit_at w (64 + (b - 64)) → bit_at r b ≡ bit_at w b
  from_high b ge same =
      let on : 64 + (b - 64) ≡ b = omega (arith, ge) in
      ap (bit_at r) (sym on) ∙ same ∙ ap (bit_at w) on

  pub low_changed : ((b : ℕ) → b < 64 → b ≢ bit → bit_at x b ≡ bit_at l b) → ((b : ℕ) → b < 64 → bit_at r b ≡ bit_at x b) → ((b : ℕ) → bit_at r (64 + b) ≡ bit_at h b) → (b : ℕ) → b < 128 → b ≢ bit → bit_at r b ≡ bit_at w b
  low_changed others r_low r_high b lt ne = elim (cases_lt b 64) [
    | inl less ↦ r_low b less ∙ others b less ne ∙ low b less
    | inr ge ↦ from_high b ge (r_high (b - 64) ∙ high (b - 64))
  ]

  pub high_changed : 64 ≤ bit → ((b : ℕ) → b < 64 → b ≢ bit - 64 → bit_at x b ≡ bit_at h b) → ((b : ℕ) → b < 64 → bit_at r b ≡ bit_at l b) → ((b : ℕ) → bit_at r (64 + b) ≡ bit_at x b) → (b : ℕ) → b < 128 → b ≢ bit → bit_at r b ≡ bit_at w b
  high_changed past others r_low r_high b lt ne = elim (cases_lt b 64) [
    | inl less ↦ r_low b less ∙ low b less
    | inr ge ↦ from_high b ge (r_high (b - 64) ∙ others (b - 64) (omega (arith, lt, ge)) (λ e. ne (omega (arith, e, ge, past))) ∙ high (b - 64))
  ]
