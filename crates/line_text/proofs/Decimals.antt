-- Decimals by their highest digits and the two or four lowest.
use Rattle.std.proofs.Common.{◌≡◌, ℕ, ◌/◌, ◌%◌, ◌^◌, ◌<◌, ◌≤◌, List, ◌++◌, ap, sym, ◌∙◌, append_assoc}
use Rattle.std.specs.Fmt.{decimal}
use Rattle.itoa.proofs.Decimal as itoa
use Rattle.line_text.specs.inner.Digits.{decimal2, decimal4}

-- a text in two parts, each behind what stands so far
in_parts : (s t u d p e : List ℕ) → t ≡ s ++ d → u ≡ t ++ p → e ≡ d ++ p → u ≡ s ++ e
in_parts s t u d p e a b c = b ∙ ap (λ t. t ++ p) a ∙ append_assoc s d p ∙ ap (λ e. s ++ e) (sym c)

-- a number with its two lowest digits behind the others
pub adds_two : (n : ℕ) (s t u : List ℕ) → 100 ≤ n → n < 2 ^ 64 → t ≡ s ++ decimal (n / 100) → u ≡ t ++ decimal2 (n % 100) → u ≡ s ++ decimal n
adds_two n s t u lo hi a b = in_parts s t u _ _ _ a b (itoa.decimal_pair n lo hi)

-- a number with its four lowest digits behind the others
pub adds_four : (n : ℕ) (s t u : List ℕ) → 10000 ≤ n → n < 2 ^ 64 → t ≡ s ++ decimal (n / 10000) → u ≡ t ++ decimal4 (n % 10000) → u ≡ s ++ decimal n
adds_four n s t u lo hi a b = in_parts s t u _ _ _ a b (itoa.decimal_four n lo hi)
