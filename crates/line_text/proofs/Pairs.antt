-- The tables of pairs hold the digits that they should: each entry is looked at once.
use Rattle.std.proofs.Common.{◌≡◌, ℕ, zero, suc, ◌+◌, ◌-◌, ◌*◌, ◌/◌, ◌%◌, ◌<◌, Bool, true, ◌&&◌, T, eqb, List, get_or, inl, inr, arith, eq-zero-or-pos, eqb→eq}
use lib.Ieee.Fits.{and_l, and_r}
use Rattle.line_text.specs.Digits.{hex_digit}
use Rattle.line_text.specs.declared.digits.TheConstants.{HEX_PAIRS, DECIMAL_PAIRS}

-- the first n pairs of a table are those of two functions
abbrev are_pairs : List ℕ → (ℕ → ℕ) → (ℕ → ℕ) → ℕ → Bool
are_pairs table high low zero = true
are_pairs table high low (suc p) = (eqb (get_or table (p * 2) 0) (high p) && eqb (get_or table (p * 2 + 1) 0) (low p)) && are_pairs table high low p

-- where all pairs of a table are so, that of each number below n is
pair_at : (table : List ℕ) (high low : ℕ → ℕ) (n p : ℕ) → T (are_pairs table high low n) → p < n → (get_or table (p * 2) 0 ≡ high p) × (get_or table (p * 2 + 1) 0 ≡ low p)
pair_at table high low zero p t h = absurd (omega arith)
pair_at table high low (suc n) p t h =
    elim (eq-zero-or-pos (n - p)) [
      | inl z ↦ let e : p ≡ n = omega arith in let a = and_l _ (are_pairs table high low n) t in rw e (eqb→eq _ _ (and_l _ _ a), eqb→eq _ _ (and_r _ _ a))
      | inr g ↦ pair_at table high low n p (and_r _ (are_pairs table high low n) t) (omega arith)
    ]

-- the hexadecimal digits of a byte
pub hex_pairs_at : (p : ℕ) → p < 256 → (get_or HEX_PAIRS (p * 2) 0 ≡ hex_digit (p / 16)) × (get_or HEX_PAIRS (p * 2 + 1) 0 ≡ hex_digit (p % 16))
hex_pairs_at p h = pair_at HEX_PAIRS (λ p. hex_digit (p / 16)) (λ p. hex_digit (p % 16)) 256 p tt h

-- the decimal digits of a number below 100
pub decimal_pairs_at : (p : ℕ) → p < 100 → (get_or DECIMAL_PAIRS (p * 2) 0 ≡ 48 + p / 10) × (get_or DECIMAL_PAIRS (p * 2 + 1) 0 ≡ 48 + p % 10)
decimal_pairs_at p h = pair_at DECIMAL_PAIRS (λ p. 48 + p / 10) (λ p. 48 + p % 10) 100 p tt h
