-- The bits of a word, one by one, as a bit is set, cleared, cut off or moved; and the flags of three words.
use Rattle.std.proofs.Common.{◌≡◌, ◌≢◌, ℕ, zero, suc, ◌+◌, ◌*◌, ◌/◌, ◌%◌, ◌^◌, ◌-◌, ◌<◌, ◌≤◌, Bool, true, false, nat_lt, nat_eq, List, [], ◌∷◌, length, get_or, add-one, refl, ap, ap₂, sym, subst, ◌∙◌, arith, bit_and, ⊎_elim}
use Rattle.std.specs.Prelude.{min, if◌then◌else◌, slice_set}
use Rattle.std.specs.Int.{bit_at}
use Rattle.std.proofs.lemmas.Bool.{cases_lt}
use Rattle.std.proofs.lemmas.Bool.Decides.{nat_tests}
use Rattle.std.proofs.lemmas.List.{get_or_past}
use Rattle.std.proofs.lemmas.Nat.{one_shl, pow_pos, mod_below}
use Rattle.std.proofs.lemmas.Nat.Bits.{bit_at_and, bit_at_ones, bit_at_above, bit_at_lowest, bit_at-suc, bit_at-lt, bit_at-zero}
use Rattle.word_bits.specs.Bits.{one_if}
use Rattle.rob_ring.specs.Flags.{flag_at}

-- the lowest k bits alone
pub low_is : (n k b : ℕ) → k < 64 → b < 64 → bit_at (bit_and n (1 * 2 ^ k % 2 ^ 64 - 1)) b ≡ (if nat_lt b k then bit_at n b else 0)
low_is n k b lt l =
    ap (λ p. bit_at (bit_and n (p - 1)) b) (one_shl k 64 lt) ∙ bit_at_and n (2 ^ k - 1) b
    ∙ ⊎_elim
    (λ (le : b < k). let one = bit_at_ones k b le in let top = bit_at-lt n b in let t : nat_lt b k ≡ true = grind (arith, nat_tests) in
    ap (λ m. min (bit_at n b) m) one ∙ omega (arith, top) ∙ ap (λ t. if t then bit_at n b else 0) (sym t))
    (λ (ge : k ≤ b). let none = bit_at_above (2 ^ k - 1) k b (let p = pow_pos k in omega (arith, p)) ge in let t : nat_lt b k ≡ false = grind (arith, nat_tests) in
    ap (λ m. min (bit_at n b) m) none ∙ omega arith ∙ ap (λ t. if t then bit_at n b else 0) (sym t))
    (cases_lt b k)

pub low_all : (n k b : ℕ) → 64 ≤ k → b < 64 → bit_at n b ≡ (if nat_lt b k then bit_at n b else 0)
low_all n k b le l = let t : nat_lt b k ≡ true = grind (arith, nat_tests) in ap (λ t. if t then bit_at n b else 0) (sym t)

-- the bits of a word moved down by one, with the lowest bit of the next word on top
pub down_is : (n m r b : ℕ) → bit_at r 63 ≡ one_if (nat_eq (m % 2) 1) → ((b : ℕ) → b < 64 → b ≢ 63 → bit_at r b ≡ bit_at (n / 2) b) → b < 64 →
    bit_at r b ≡ (if nat_lt b 63 then bit_at n (b + 1) else bit_at m 0)
down_is n m r b top others l =
    ⊎_elim
    (λ (lt : b < 63). let t : nat_lt b 63 ≡ true = grind (arith, nat_tests) in
    others b l (omega (arith, lt)) ∙ sym (bit_at-suc n b) ∙ ap (bit_at n) (sym (add-one b)) ∙ ap (λ t. if t then bit_at n (b + 1) else bit_at m 0) (sym t))
    (λ (ge : 63 ≤ b). let t : nat_lt b 63 ≡ false = grind (arith, nat_tests) in let e : b ≡ 63 = omega (arith, l, ge) in
    ap (bit_at r) e ∙ top ∙ odd (m % 2) (mod_below m 2 (omega arith)) ∙ sym (bit_at_lowest m) ∙ ap (λ t. if t then bit_at n (b + 1) else bit_at m 0) (sym t))
    (cases_lt b 63)
  where
    odd : (d : ℕ) → d < 2 → one_if (nat_eq d 1) ≡ d
    odd zero lt = refl
    odd (suc zero) lt = refl
    odd (suc (suc d)) lt = absurd (omega (arith, lt))

-- the flag of a position is a bit of one of the three words

pub at_low : (words : List ℕ) (k : ℕ) → k < 64 → flag_at words k ≡ bit_at (get_or words 0 0) k
at_low words k lt = let j : k / 64 ≡ 0 = omega (arith, lt) in let b : k % 64 ≡ k = omega (arith, lt) in ap₂ (λ j b. bit_at (get_or words j 0) b) j b

pub at_middle : (words : List ℕ) (k : ℕ) → 64 ≤ k → k < 128 → flag_at words k ≡ bit_at (get_or words 1 0) (k - 64)
at_middle words k le lt = let j : k / 64 ≡ 1 = omega (arith, le, lt) in let b : k % 64 ≡ k - 64 = omega (arith, le, lt) in ap₂ (λ j b. bit_at (get_or words j 0) b) j b

pub at_high : (words : List ℕ) (k : ℕ) → 128 ≤ k → k < 192 → flag_at words k ≡ bit_at (get_or words 2 0) (k - 128)
at_high words k le lt = let j : k / 64 ≡ 2 = omega (arith, le, lt) in let b : k % 64 ≡ k - 128 = omega (arith, le, lt) in ap₂ (λ j b. bit_at (get_or words j 0) b) j b

pub at_past : (words : List ℕ) (k : ℕ) → length words ≡ 3 → 192 ≤ k → flag_at words k ≡ 0
at_past words k three le = let past : length words ≤ k / 64 = omega (arith, three, le) in ap (λ w. bit_at w (k % 64)) (get_or_past words (k / 64) 0 past) ∙ bit_at-zero (k % 64)

-- a place lies in one of the three words, or past them
pub by_words : {P : Type 0} (k : ℕ) → (k < 64 → P) → (64 ≤ k → k < 128 → P) → (128 ≤ k → k < 192 → P) → (192 ≤ k → P) → P
by_words k low middle high past =
    ⊎_elim low (λ a. ⊎_elim (middle a) (λ b. ⊎_elim (high b) past (cases_lt k 192)) (cases_lt k 128)) (cases_lt k 64)

-- the words kept and dropped, place by place

-- a position less a distance lies below a length less that distance exactly where it lies below the length
below : (k len n d : ℕ) → n ≡ len - d → d ≤ k → nat_lt (k - d) n ≡ nat_lt k len
below k len n d e le =
    ⊎_elim
    (λ (lt : k < len). let m : k - d < n = omega (arith, lt, e, le) in let s : nat_lt (k - d) n ≡ true = grind (arith, nat_tests) in let t : nat_lt k len ≡ true = grind (arith, nat_tests) in s ∙ sym t)
    (λ (ge : len ≤ k). let m : n ≤ k - d = omega (arith, ge, e, le) in let s : nat_lt (k - d) n ≡ false = grind (arith, nat_tests) in let t : nat_lt k len ≡ false = grind (arith, nat_tests) in s ∙ sym t)
    (cases_lt k len)

none_either : (b : Bool) (n : ℕ) → n ≡ 0 → 0 ≡ (if b then n else 0)
none_either true n e = sym e
none_either false n e = refl

abbrev Low : ℕ → ℕ → ℕ → Type 0
Low word bits r = (b : ℕ) → b < 64 → bit_at r b ≡ (if nat_lt b bits then bit_at word b else 0)

pub kept : (words : List ℕ) (len x y z n m : ℕ) → length words ≡ 3 → n ≡ len - 64 → m ≡ len - 128 → Low (get_or words 0 0) len x → Low (get_or words 1 0) n y → Low (get_or words 2 0) m z →
    (k : ℕ) → flag_at (x ∷ y ∷ z ∷ []) k ≡ (if nat_lt k len then flag_at words k else 0)
kept words len x y z n m three en em hx hy hz k =
    let all = x ∷ y ∷ z ∷ [] in
    by_words k
    (λ lt. at_low all k lt ∙ hx k lt ∙ ap (λ r. if nat_lt k len then r else 0) (sym (at_low words k lt)))
    (λ le lt. at_middle all k le lt ∙ hy (k - 64) (omega (arith, le, lt)) ∙ ap₂ (λ b r. if b then r else 0) (below k len n 64 en le) (sym (at_middle words k le lt)))
    (λ le lt. at_high all k le lt ∙ hz (k - 128) (omega (arith, le, lt)) ∙ ap₂ (λ b r. if b then r else 0) (below k len m 128 em le) (sym (at_high words k le lt)))
    (λ le. at_past all k refl le ∙ none_either (nat_lt k len) (flag_at words k) (at_past words k three le))

abbrev Down : ℕ → ℕ → ℕ → Type 0
Down word next r = (b : ℕ) → b < 64 → bit_at r b ≡ (if nat_lt b 63 then bit_at word (b + 1) else bit_at next 0)

within : (b word next r : ℕ) → Down word next r → b < 63 → bit_at r b ≡ bit_at word (b + 1)
within b word next r h lt = let t : nat_lt b 63 ≡ true = grind (arith, nat_tests) in h b (omega (arith, lt)) ∙ ap (λ t. if t then bit_at word (b + 1) else bit_at next 0) t

on_top : (b word next r : ℕ) → Down word next r → b ≡ 63 → bit_at r b ≡ bit_at next 0
on_top b word next r h e = ap (bit_at r) e ∙ h 63 (omega arith)

pub dropped : (words : List ℕ) (x y z : ℕ) → length words ≡ 3 → Down (get_or words 0 0) (get_or words 1 0) x → Down (get_or words 1 0) (get_or words 2 0) y → Down (get_or words 2 0) 0 z →
    (k : ℕ) → flag_at (x ∷ y ∷ z ∷ []) k ≡ flag_at words (k + 1)
dropped words x y z three hx hy hz k =
    let all = x ∷ y ∷ z ∷ [] in
    by_words k
    (λ lt. at_low all k lt ∙ ⊎_elim
    (λ (l : k < 63). within k _ _ x hx l ∙ sym (at_low words (k + 1) (omega (arith, l))))
    (λ (g : 63 ≤ k). let e : 0 ≡ k + 1 - 64 = omega (arith, lt, g) in on_top k _ _ x hx (omega (arith, lt, g)) ∙ ap (bit_at (get_or words 1 0)) e ∙ sym (at_middle words (k + 1) (omega (arith, g)) (omega (arith, lt))))
    (cases_lt k 63))
    (λ le lt. at_middle all k le lt ∙ ⊎_elim
    (λ (l : k < 127). let e : k - 64 + 1 ≡ k + 1 - 64 = omega (arith, le) in within (k - 64) _ _ y hy (omega (arith, l, le)) ∙ ap (bit_at (get_or words 1 0)) e ∙ sym (at_middle words (k + 1) (omega (arith, le)) (omega (arith, l))))
    (λ (g : 127 ≤ k). let e : 0 ≡ k + 1 - 128 = omega (arith, lt, g) in on_top (k - 64) _ _ y hy (omega (arith, lt, g)) ∙ ap (bit_at (get_or words 2 0)) e ∙ sym (at_high words (k + 1) (omega (arith, g)) (omega (arith, lt))))
    (cases_lt k 127))
    (λ le lt. at_high all k le lt ∙ ⊎_elim
    (λ (l : k < 191). let e : k - 128 + 1 ≡ k + 1 - 128 = omega (arith, le) in within (k - 128) _ 0 z hz (omega (arith, l, le)) ∙ ap (bit_at (get_or words 2 0)) e ∙ sym (at_high words (k + 1) (omega (arith, le)) (omega (arith, l))))
    (λ (g : 191 ≤ k). on_top (k - 128) _ 0 z hz (omega (arith, lt, g)) ∙ bit_at-zero 0 ∙ sym (at_past words (k + 1) three (omega (arith, g))))
    (cases_lt k 191))
    (λ le. at_past all k refl le ∙ sym (at_past words (k + 1) three (omega (arith, le))))

-- where the upper words have no flag they have none afterwards
pub dropped_low : (words : List ℕ) (x : ℕ) → length words ≡ 3 → get_or words 1 0 ≡ 0 → get_or words 2 0 ≡ 0 → Down (get_or words 0 0) 0 x →
    (k : ℕ) → flag_at (x ∷ 0 ∷ 0 ∷ []) k ≡ flag_at words (k + 1)
dropped_low words x three middle high h =
    dropped words x 0 0 three (subst (λ n. Down (get_or words 0 0) n x) (sym middle) h)
    (subst (λ n. Down n (get_or words 2 0) 0) (sym middle) (subst (λ n. Down 0 n 0) (sym high) none)) (subst (λ n. Down n 0 0) (sym high) none)
  where
    either : (t : Bool) (b : ℕ) → 0 ≡ (if t then bit_at 0 (b + 1) else bit_at 0 0)
    either true b = sym (bit_at-zero (b + 1))
    either false b = sym (bit_at-zero 0)

    none : Down 0 0 0
    none b lt = bit_at-zero b ∙ either (nat_lt b 63) b

-- the bits move down by one place also where the words are written one after the other
pub dropped_in_place : (words : List ℕ) (x y z : ℕ) → length words ≡ 3 → Down (get_or words 0 0) (get_or words 1 0) x →
    Down (get_or (slice_set words 0 x) 1 0) (get_or (slice_set words 0 x) 2 0) y → Down (get_or (slice_set (slice_set words 0 x) 1 y) 2 0) 0 z →
    (k : ℕ) → flag_at (slice_set (slice_set (slice_set words 0 x) 1 y) 2 z) k ≡ flag_at words (k + 1)
dropped_in_place [] x y z three hx hy hz = absurd (omega (arith, three))
dropped_in_place (a ∷ []) x y z three hx hy hz = absurd (omega (arith, three))
dropped_in_place (a ∷ b ∷ []) x y z three hx hy hz = absurd (omega (arith, three))
dropped_in_place (a ∷ b ∷ c ∷ []) x y z three hx hy hz = dropped (a ∷ b ∷ c ∷ []) x y z three hx hy hz
dropped_in_place (a ∷ b ∷ c ∷ d ∷ rest) x y z three hx hy hz = absurd (omega (arith, three))

-- the bits move down by one place also where the first word alone is written, since the others have none
pub dropped_low_in_place : (words : List ℕ) (x : ℕ) → length words ≡ 3 → get_or words 1 0 ≡ 0 → get_or words 2 0 ≡ 0 → Down (get_or words 0 0) 0 x →
    (k : ℕ) → flag_at (slice_set words 0 x) k ≡ flag_at words (k + 1)
dropped_low_in_place [] x three middle high h = absurd (omega (arith, three))
dropped_low_in_place (a ∷ []) x three middle high h = absurd (omega (arith, three))
dropped_low_in_place (a ∷ b ∷ []) x three middle high h = absurd (omega (arith, three))
dropped_low_in_place (a ∷ b ∷ c ∷ []) x three middle high h =
    λ k. ap₂ (λ m n. flag_at (x ∷ m ∷ n ∷ []) k) middle high ∙ dropped_low (a ∷ b ∷ c ∷ []) x three middle high h k
dropped_low_in_place (a ∷ b ∷ c ∷ d ∷ rest) x three middle high h = absurd (omega (arith, three))
