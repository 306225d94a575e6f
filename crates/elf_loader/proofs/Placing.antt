-- One cell of a segment is written, and the pass goes on to the next place that is left.
use Rattle.std.proofs.Common.{◌≡◌, ℕ, ◌+◌, ◌-◌, ◌*◌, ◌/◌, ◌<◌, ◌≤◌, Bool, true, false, List, length, get_or, set, take, drop, Option, Some, sym, ap, ◌∙◌, subst, inl, arith, ◌++◌, ◌∷◌, [], append_assoc, add-one}
use Rattle.std.proofs.lemmas.Bool.Decides.{nat_tests}
use Rattle.std.proofs.lemmas.List.{set_split}
use Rattle.rv_types.specs.Memory.{Ram}
use Rattle.elf_loader.specs.Fields.{word, is_executable}
use Rattle.elf_loader.specs.Image.{SegmentText, covers, byte_in, has_code}
use Rattle.elf_loader.specs.inner.Filling.{Fills, BytesUpTo, WordsUpTo}
use Rattle.elf_loader.proofs.Filling.{fills_skip, fills_more}

-- a byte written between those before and behind it
pub written : (bytes : List ℕ) (at byte : ℕ) → at < length bytes → take at bytes ++ (byte ∷ []) ++ drop (at + 1) bytes ≡ set bytes at byte
written bytes at byte l =
    append_assoc (take at bytes) (byte ∷ []) (drop (at + 1) bytes) ∙ ap (λ (i : ℕ). take at bytes ++ byte ∷ drop i bytes) (add-one at) ∙ sym (set_split bytes at byte l)

-- what is known of the place that the pass goes on to
pub record GoesOn (at next : ℕ) (left left' : List Bool) : Type 0 where
  pub up : at + 1 ≤ next
  pub within : next ≤ length left'
  pub here : next < length left' → get_or left' next false ≡ true

pub goes_on : (at next : ℕ) (left left' : List Bool) → at + 1 ≤ next → next ≤ length left → (next < length left → get_or left next false ≡ true) → left' ≡ left → GoesOn at next left left'
goes_on at next left left' up within here e = record {
  up = up;
  within = rw e within;
  here = λ l. ap (λ (v : List Bool). get_or v next false) e ∙ here (subst (λ (v : List Bool). next < length v) e l);
}

-- once one more cell has its value and its place is taken, the cells are filled up to the next place that is left
step : {X : Type 0} (covered : ℕ → Bool) (value : ℕ → X) (at next : ℕ) (old new new' : List X) (left left' left2 left3 : List Bool) → Fills covered value at old new left left'
    → at < length old → at < length left → covered at ≡ true → get_or left' at false ≡ true
    → new' ≡ set new at (value at) → left2 ≡ set left' at false → left3 ≡ left2
    → at + 1 ≤ next → ((k : ℕ) → at + 1 ≤ k → k < next → get_or left2 k false ≡ false) → Fills covered value next old new' left left3
step {X} covered value at next old new new' left left' left2 left3 h l l2 c here e e2 e3 up none =
    let more = fills_more covered value at old new left left' h l l2 c here in
    let P : List X → Type 0 = λ v. Fills covered value (at + 1) old v left (set left' at false) in
    let Q : List Bool → Type 0 = λ v. Fills covered value (at + 1) old new' left v in
    let more2 = subst P (sym e) more in
    let more3 = subst Q (sym (e3 ∙ e2)) more2 in
    fills_skip covered value (at + 1) next old new' left left3 more3 up (λ k a b. inl (ap (λ (v : List Bool). get_or v k false) e3 ∙ none k a b))

pub bytes_step : (s : SegmentText) (at next byte : ℕ) (old new new' : Ram) (left left' left2 left3 : List Bool) → BytesUpTo s at old new left left'
    → at < length left → length left ≡ length old.bytes → old.base ≤ s.vaddr → s.vaddr - old.base ≤ at → at < s.vaddr - old.base + s.memsz → get_or left' at false ≡ true
    → byte ≡ get_or s.bytes (at - (s.vaddr - old.base)) 0
    → new' ≡ record new { bytes = set new.bytes at byte } → left2 ≡ set left' at false → left3 ≡ left2
    → at + 1 ≤ next → ((k : ℕ) → at + 1 ≤ k → k < next → get_or left2 k false ≡ false) → BytesUpTo s next old new' left left3
bytes_step s at next byte old new new' left left' left2 left3 h l size low from below here b e e2 e3 up none =
    let c : covers s (old.base + at) ≡ true = grind (arith, nat_tests) in
    let place : at - (s.vaddr - old.base) ≡ old.base + at - s.vaddr = omega arith in
    let value : byte ≡ byte_in s (old.base + at) = b ∙ ap (λ (i : ℕ). get_or s.bytes i 0) place in
    let bytes : new'.bytes ≡ set new.bytes at (byte_in s (old.base + at)) = ap (λ (r : Ram). r.bytes) e ∙ ap (λ (v : ℕ). set new.bytes at v) value in
    step (λ k. covers s (old.base + k)) (λ k. byte_in s (old.base + k)) at next old.bytes new.bytes new'.bytes left left' left2 left3 h (omega arith) l c here bytes e2 e3 up none

pub words_step : (s : SegmentText) (at next : ℕ) (ram : Ram) (old new new' : List (Option ℕ)) (left left' left2 left3 : List Bool) → WordsUpTo s at ram old new left left'
    → at < length left → length left ≡ length old → ram.base ≤ s.vaddr → is_executable s.flags ≡ true → (s.vaddr - ram.base + 3) / 4 ≤ at → at < (s.vaddr - ram.base + length s.bytes) / 4 → get_or left' at false ≡ true
    → new' ≡ set new at (Some (word ram.bytes (4 * at))) → left2 ≡ set left' at false → left3 ≡ left2
    → at + 1 ≤ next → ((k : ℕ) → at + 1 ≤ k → k < next → get_or left2 k false ≡ false) → WordsUpTo s next ram old new' left left3
words_step s at next ram old new new' left left' left2 left3 h l size low x from below here e e2 e3 up none =
    let first : s.vaddr ≤ ram.base + 4 * at = omega arith in
    let last : ram.base + 4 * at + 4 ≤ s.vaddr + length s.bytes = omega arith in
    let c : has_code (ram.base + 4 * at) s ≡ true = rw x (grind (arith, nat_tests)) in
    step (λ k. has_code (ram.base + 4 * k) s) (λ k. Some (word ram.bytes (4 * k))) at next old new new' left left' left2 left3 h (omega arith) l c here e e2 e3 up none
