-- The words that may be fetched, once those of the segments from one on are noted.
use Rattle.std.proofs.Common.{◌≡◌, ℕ, zero, suc, ◌+◌, ◌-◌, ◌*◌, ◌/◌, ◌%◌, ◌<◌, ◌≤◌, Bool, true, false, not, ◌&&◌, ◌||◌, cond, nat_le, List, [], ◌∷◌, length, replicate, get_or, Option, None, Some, IfSome, refl, sym, ap, ◌∙◌, subst, ◌⊎◌, inl, inr, arith}
use Rattle.std.specs.Prelude.{◌==◌}
use Rattle.std.specs.List.{range_with_len, filter_map, list_any, cons_option}
use Rattle.std.proofs.lemmas.Bool.{cases_lt}
use Rattle.std.proofs.lemmas.Bool.Decides.{nat_tests}
use Rattle.std.proofs.lemmas.List.{length-replicate, get_or-replicate, get_or_past}
use Rattle.rv_types.specs.Memory.{Ram, bytes_at}
use Rattle.rv_types.specs.Word.{from_le}
use Rattle.elf_loader.specs.Fields.{count_of, word}
use Rattle.elf_loader.specs.Faults.{header_fault}
use Rattle.elf_loader.specs.Image.{SegmentText, has_code, loads_of, segment_at, ram_fault, code_of}
use Rattle.elf_loader.specs.inner.Code.{word_at}
use Rattle.elf_loader.specs.inner.Filling.{Inside, WordsUpTo, PlacesWords}
use Rattle.elf_loader.proofs.Loads.{loads_from, loads_more, loads_skip, loads_none, loads_all, inside_of}

-- some segment has code at word k of memory
abbrev pub any_at : List SegmentText → Ram → ℕ → Bool
any_at loads ram k = list_any (has_code (ram.base + 4 * k)) loads

-- the words that they have are noted, and those places are left where none of them has one
pub record Marked (loads : List SegmentText) (ram : Ram) (words : List (Option ℕ)) (left : List Bool) : Type 0 where
  pub size : length words ≡ length ram.bytes / 4
  pub room : length left ≡ length ram.bytes / 4
  pub cells : (k : ℕ) → k < length ram.bytes / 4 → get_or words k None ≡ cond (any_at loads ram k) (Some (word ram.bytes (4 * k))) None
  pub places : (k : ℕ) → k < length ram.bytes / 4 → get_or left k false ≡ not (any_at loads ram k)

marked_start : (ram : Ram) (words : List (Option ℕ)) (left : List Bool) → words ≡ replicate (length ram.bytes / 4) None → left ≡ replicate (length ram.bytes / 4) true → Marked [] ram words left
marked_start ram words left e f =
    let n = length ram.bytes / 4 in
    let none : Option ℕ = None in
    record {
      size = ap length e ∙ length-replicate n none;
      room = ap length f ∙ length-replicate n true;
      cells = λ k l. ap (λ (v : List (Option ℕ)). get_or v k None) e ∙ get_or-replicate n k None None l;
      places = λ k l. ap (λ (v : List Bool). get_or v k false) f ∙ get_or-replicate n k true false l;
    }

cell_by : (any new : Bool) (w : ℕ) → cond (not any && new) (Some w) (cond any (Some w) None) ≡ cond (new || any) (Some w) None
cell_by true true w = refl
cell_by true false w = refl
cell_by false true w = refl
cell_by false false w = refl

place_by : (any new : Bool) → (not any && not new) ≡ not (new || any)
place_by true true = refl
place_by true false = refl
place_by false true = refl
place_by false false = refl

marked_more : (s : SegmentText) (loads : List SegmentText) (ram : Ram) (words words' : List (Option ℕ)) (left left' : List Bool)
    → Marked loads ram words left → WordsUpTo s (length words) ram words words' left left' → Marked (s ∷ loads) ram words' left'
marked_more s loads ram words words' left left' h f = record {
  size = f.size ∙ h.size;
  room = f.room ∙ h.room;
  cells = λ k l.
      let l2 : k < length words = omega (arith, h.size) in
      let new = has_code (ram.base + 4 * k) s in
      let w = word ram.bytes (4 * k) in
      let one : get_or words' k None ≡ cond (get_or left k false && new) (Some w) (get_or words k None) = f.cells k None l2 l2 in
      one
      ∙ ap (λ (t : Bool). cond (t && new) (Some w) (get_or words k None)) (h.places k l)
      ∙ ap (λ (v : Option ℕ). cond (not (any_at loads ram k) && new) (Some w) v) (h.cells k l)
      ∙ cell_by (any_at loads ram k) new w;
  places = λ k l.
      let l2 : k < length words = omega (arith, h.size) in
      let new = has_code (ram.base + 4 * k) s in
      let one : get_or left' k false ≡ (get_or left k false && not new) = f.places k l2 in
      one ∙ ap (λ (t : Bool). t && not new) (h.places k l) ∙ place_by (any_at loads ram k) new;
}

marked_by : (file : List ℕ) (i : ℕ) (o : Option SegmentText) (ram : Ram) (words words' : List (Option ℕ)) (left left' : List Bool) → i < count_of file → segment_at file i ≡ o
    → Marked (loads_from file (i + 1)) ram words left → PlacesWords o ram words words' left left' → Marked (loads_from file i) ram words' left'
marked_by file i None ram words words' left left' l e h f =
    let P : List (Option ℕ) → Type 0 = λ r. Marked (loads_from file (i + 1)) ram r left' in
    let Q : List Bool → Type 0 = λ v. Marked (loads_from file (i + 1)) ram words v in
    let R : List SegmentText → Type 0 = λ v. Marked v ram words' left' in
    subst R (sym (loads_skip file i l e)) (subst P (sym f.0) (subst Q (sym f.1) h))
marked_by file i (Some s) ram words words' left left' l e h f =
    let R : List SegmentText → Type 0 = λ v. Marked v ram words' left' in
    subst R (sym (loads_more file i s l e)) (marked_more s (loads_from file (i + 1)) ram words words' left left' h f)

-- the words of program header i are noted, where it has a segment
pub marked_next : (file : List ℕ) (i : ℕ) (ram : Ram) (words words' : List (Option ℕ)) (left left' : List Bool) → i < count_of file
    → Marked (loads_from file (i + 1)) ram words left → PlacesWords (segment_at file i) ram words words' left left' → Marked (loads_from file i) ram words' left'
marked_next file i ram words words' left left' l h f = marked_by file i (segment_at file i) ram words words' left left' l refl h f

pub marked_first : (file : List ℕ) (n : ℕ) (ram : Ram) (words : List (Option ℕ)) (left : List Bool) → n ≡ count_of file
    → words ≡ replicate (length ram.bytes / 4) None → left ≡ replicate (length ram.bytes / 4) true → Marked (loads_from file n) ram words left
marked_first file n ram words left c e f =
    let R : List SegmentText → Type 0 = λ v. Marked v ram words left in
    subst R (sym (loads_none file n (omega arith))) (marked_start ram words left e f)

-- ---- No segment has code outside memory

any_step : (p : SegmentText → Bool) (o : Option SegmentText) (rest : List SegmentText) → IfSome o (λ s. p s ≡ false) → list_any p rest ≡ false → list_any p (cons_option o rest) ≡ false
any_step p None rest h e = e
any_step p (Some s) rest h e = ap (λ (b : Bool). b || list_any p rest) h ∙ e

pub any_none : (f : ℕ → Option SegmentText) (p : SegmentText → Bool) (a n : ℕ) → ((i : ℕ) → a ≤ i → IfSome (f i) (λ s. p s ≡ false)) → list_any p (filter_map f (range_with_len a n)) ≡ false
any_none f p a zero h = refl
any_none f p a (suc n) h = any_step p (f a) (filter_map f (range_with_len (a + 1) n)) (h a (omega arith)) (any_none f p (a + 1) n (λ i l. h i (omega arith)))

code_below : (s : SegmentText) (pc : ℕ) → pc < s.vaddr → has_code pc s ≡ false
code_below s pc l = grind (arith, nat_tests)

code_above : (s : SegmentText) (pc : ℕ) → s.vaddr + length s.bytes < pc + 4 → has_code pc s ≡ false
code_above s pc l = grind (arith, nat_tests)

none_by : (base size pc : ℕ) (o : Option SegmentText) → (pc < base) ⊎ (base + size < pc + 4) → IfSome o (Inside base size) → IfSome o (λ s. has_code pc s ≡ false)
none_by base size pc None out h = tt
none_by base size pc (Some s) (inl below) h =
    let low : pc < s.vaddr = omega (arith, h.low) in
    code_below s pc low
none_by base size pc (Some s) (inr above) h =
    let high : s.vaddr + length s.bytes < pc + 4 = omega (arith, h.high, h.bytes) in
    code_above s pc high

pub no_code_outside : (file : List ℕ) (ram : Ram) (pc : ℕ) → header_fault file ≡ None → ram_fault file ram ≡ None → (pc < ram.base) ⊎ (ram.base + length ram.bytes < pc + 4) → list_any (has_code pc) (loads_of file) ≡ false
no_code_outside file ram pc h r out =
    any_none (segment_at file) (has_code pc) 0 (count_of file) (λ i l. none_by ram.base (length ram.bytes) pc (segment_at file i) out (inside_of file ram i h r))

-- ---- The words noted are the code

word_by : (whole here any : Bool) (x y : Option ℕ) → (whole ≡ true → cond here x None ≡ cond any y None) → cond (whole && here) x None ≡ cond (whole && any) y None
word_by true here any x y h = h refl
word_by false here any x y h = refl

word_bytes : (ram : Ram) (k pc : ℕ) → 4 * k ≡ pc - ram.base → word ram.bytes (4 * k) ≡ from_le (bytes_at ram pc 4)
unfolding word
word_bytes ram k pc e = ap (λ (i : ℕ). word ram.bytes i) e

module _ (file : List ℕ) (ram : Ram) (words : List (Option ℕ)) (left : List Bool) (h : header_fault file ≡ None) (r : ram_fault file ram ≡ None)
    (aligned : ram.base % 4 ≡ 0) (size : length ram.bytes % 4 ≡ 0) (m : Marked (loads_of file) ram words left) (pc : ℕ) (whole : pc % 4 ≡ 0) where
  in_row : ram.base ≤ pc → ((pc - ram.base) / 4 < length ram.bytes / 4) ⊎ (length ram.bytes / 4 ≤ (pc - ram.base) / 4)
      → get_or words ((pc - ram.base) / 4) None ≡ cond (list_any (has_code pc) (loads_of file)) (Some (from_le (bytes_at ram pc 4))) None
  in_row l (inl below) =
      let k = (pc - ram.base) / 4 in
      let e : 4 * k ≡ pc - ram.base = omega arith in
      let at : ram.base + 4 * k ≡ pc = omega arith in
      m.cells k below
      ∙ ap (λ (a : ℕ). cond (list_any (has_code a) (loads_of file)) (Some (word ram.bytes (4 * k))) None) at
      ∙ ap (λ (w : ℕ). cond (list_any (has_code pc) (loads_of file)) (Some w) None) (word_bytes ram k pc e)
  in_row l (inr past) =
      let k = (pc - ram.base) / 4 in
      let none = no_code_outside file ram pc h r (inr (omega arith)) in
      get_or_past words k None (omega (arith, m.size))
      ∙ sym (ap (λ (b : Bool). cond b (Some (from_le (bytes_at ram pc 4))) None) none)

  at_row : (pc < ram.base) ⊎ (ram.base ≤ pc)
      → cond (nat_le ram.base pc) (get_or words ((pc - ram.base) / 4) None) None ≡ cond (list_any (has_code pc) (loads_of file)) (Some (from_le (bytes_at ram pc 4))) None
  at_row (inl below) =
      let test : nat_le ram.base pc ≡ false = grind (arith, nat_tests) in
      ap (λ (b : Bool). cond b (get_or words ((pc - ram.base) / 4) None) None) test
      ∙ sym (ap (λ (b : Bool). cond b (Some (from_le (bytes_at ram pc 4))) None) (no_code_outside file ram pc h r (inl below)))
  at_row (inr l) =
      let test : nat_le ram.base pc ≡ true = grind (arith, nat_tests) in
      ap (λ (b : Bool). cond b (get_or words ((pc - ram.base) / 4) None) None) test
      ∙ in_row l (cases_lt ((pc - ram.base) / 4) (length ram.bytes / 4))

eqb_zero : (n : ℕ) → (n == 0) ≡ true → n ≡ 0
eqb_zero n e = grind (arith, nat_tests)

marked_word : (file : List ℕ) (ram : Ram) (words : List (Option ℕ)) (left : List Bool) → header_fault file ≡ None → ram_fault file ram ≡ None
    → ram.base % 4 ≡ 0 → length ram.bytes % 4 ≡ 0 → Marked (loads_of file) ram words left → (pc : ℕ) → word_at (record { base = ram.base; words = words }) pc ≡ code_of file ram pc
unfolding code_of
marked_word file ram words left h r aligned size m pc =
    word_by (pc % 4 == 0) (nat_le ram.base pc) (list_any (has_code pc) (loads_of file)) _ _
    (λ e. at_row file ram words left h r aligned size m pc (eqb_zero (pc % 4) e) (cases_lt pc ram.base))

pub marked_end : (file : List ℕ) (ram : Ram) (words : List (Option ℕ)) (left : List Bool) → header_fault file ≡ None → ram_fault file ram ≡ None
    → ram.base % 4 ≡ 0 → length ram.bytes % 4 ≡ 0 → Marked (loads_from file 0) ram words left → word_at (record { base = ram.base; words = words }) ≡ code_of file ram
marked_end file ram words left h r aligned size m =
    let R : List SegmentText → Type 0 = λ v. Marked v ram words left in
    let m2 = subst R (loads_all file) m in
    λ i. λ pc. marked_word file ram words left h r aligned size m2 pc i
