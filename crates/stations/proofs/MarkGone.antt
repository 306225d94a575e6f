-- A word of marks without the one at a position, where those behind it move down by one.
use Rattle.std.proofs.Common.{◌≡◌, ℕ, zero, suc, ◌+◌, ◌-◌, ◌/◌, ◌^◌, ◌<◌, ◌≤◌, false, List, [], ◌∷◌, length, slice_get, refl, ap, ap₂, sym, ◌∙◌, min, max, bit_and, bit_or, arith, inl, inr}
use Rattle.std.specs.Int.{bit_at}
use Rattle.std.specs.List.{remove}
use Rattle.std.proofs.lemmas.Bool.{cases_lt}
use Rattle.std.proofs.lemmas.Nat.Bits.{bit_at-lt, bit_at-pow_same, bit_at-suc, bit_at-zero, bit_at_above, bit_at_and, bit_at_mask_below, bit_at_mask_inside, bit_at_ones, bit_at_ones_above, bit_at_or}
use Rattle.word_bits.specs.Bits.{one_if}
use Rattle.stations.specs.Stations.{Station, is_able}
use Rattle.stations.specs.Places.{NotesAble, meets}

-- ---- an entry goes

removed_older : (held : List Station) (i k : ℕ) → k < i → slice_get (remove held i) k ≡ slice_get held k
removed_older held zero k lt = absurd (omega (arith, lt))
removed_older [] (suc i) k lt = refl
removed_older (s ∷ held) (suc i) zero lt = refl
removed_older (s ∷ held) (suc i) (suc k) lt = removed_older held i k (omega (arith, lt))

removed_younger : (held : List Station) (i k : ℕ) → i ≤ k → i < length held → slice_get (remove held i) k ≡ slice_get held (suc k)
removed_younger [] i k low lt = absurd (omega (arith, lt))
removed_younger (s ∷ held) zero k low lt = refl
removed_younger (s ∷ held) (suc i) zero low lt = absurd (omega (arith, low))
removed_younger (s ∷ held) (suc i) (suc k) low lt = removed_younger held i k (omega (arith, low)) (omega (arith, lt))

past : (held : List Station) (k : ℕ) → length held ≤ k → meets is_able (slice_get held k) ≡ false
past [] k le = refl
past (s ∷ held) zero le = absurd (omega (arith, le))
past (s ∷ held) (suc k) le = past held k (omega (arith, le))

-- the marks of those behind the one that goes move down by one
pub able_remove : (held : List Station) (i able able2 : ℕ) → i < length held → length held ≤ 96 → ((b : ℕ) → b < i → bit_at able2 b ≡ bit_at able b) → ((b : ℕ) → i ≤ b → b < 127 → bit_at able2 b ≡ bit_at able (b + 1)) →
    bit_at able2 127 ≡ 0 → NotesAble held able → NotesAble (remove held i) able2
able_remove held i able able2 lt few older younger last m k small = elim (cases_lt k i) [
  | inl l ↦ older k l ∙ m k small ∙ ap (λ o. one_if (meets is_able o)) (sym (removed_older held i k l))
  | inr ge ↦ elim (cases_lt k 127) [
    | inl l ↦
        let on : k + 1 ≡ suc k = omega arith in
        younger k ge l ∙ m (k + 1) (omega (arith, l)) ∙ ap (λ o. one_if (meets is_able o)) (ap (slice_get held) on ∙ sym (removed_younger held i k ge lt))
    | inr h ↦
        let end : k ≡ 127 = omega (arith, h, small) in
        ap (bit_at able2) end ∙ last ∙ ap one_if (sym (ap (meets is_able) (removed_younger held i k ge lt) ∙ past held (suc k) (omega (arith, few, h))))
  ]
]

-- ---- how the word is made

-- a power of two is more than 0
pub positive : (p : ℕ) → 0 < 2 ^ p
positive p = elim (cases_lt 0 (2 ^ p)) [
  | inl lt ↦ lt
  | inr le ↦ absurd (
      let none : 2 ^ p ≡ 0 = omega (arith, le) in
      let one = bit_at-pow_same p in
      let clear = ap (λ n. bit_at n p) none ∙ bit_at-zero p in
      omega (arith, one, clear))
]

-- the word, the bits below a position, and those from there on: what is left without the mark there
module _ (word p low high : ℕ) (is_low : low ≡ 2 ^ p - 1) (is_high : high ≡ 2 ^ 128 - 2 ^ p) where
  abbrev left : ℕ
  left = bit_or (bit_and word low) (bit_and (word / 2) high)

  left_at : (b : ℕ) → bit_at left b ≡ max (min (bit_at word b) (bit_at low b)) (min (bit_at (word / 2) b) (bit_at high b))
  left_at b = bit_at_or _ _ b ∙ ap₂ (λ m n. max m n) (bit_at_and word low b) (bit_at_and (word / 2) high b)

  pub left_older : (b : ℕ) → b < p → bit_at left b ≡ bit_at word b
  left_older b lt =
      let one = ap (λ n. bit_at n b) is_low ∙ bit_at_ones p b lt in
      let none = ap (λ n. bit_at n b) is_high ∙ bit_at_mask_below p 128 b lt in
      let at = left_at b in
      let small = bit_at-lt word b in
      omega (arith, at, one, none, small)

  pub left_younger : (b : ℕ) → p ≤ b → b < 128 → bit_at left b ≡ bit_at word (b + 1)
  left_younger b ge lt =
      let none = ap (λ n. bit_at n b) is_low ∙ bit_at_ones_above p b ge in
      let one = ap (λ n. bit_at n b) is_high ∙ bit_at_mask_inside p 128 b ge lt in
      let at = left_at b in
      let next : b + 1 ≡ suc b = omega arith in
      let moved = ap (bit_at word) next ∙ bit_at-suc word b in
      let small = bit_at-lt (word / 2) b in
      omega (arith, at, one, none, moved, small)

  pub left_last : p < 128 → word < 2 ^ 128 → bit_at left 127 ≡ 0
  left_last lt fits = left_younger 127 (omega (arith, lt)) (omega arith) ∙ bit_at_above word 128 128 fits (omega arith)
