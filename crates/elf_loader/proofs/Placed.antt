-- Memory once the segments from one on are placed, the last one first.
use Rattle.std.proofs.Common.{◌≡◌, ℕ, ◌+◌, ◌<◌, Bool, true, false, not, ◌&&◌, cond, nat_le, List, [], ◌∷◌, length, map, reverse, get_or, Option, None, Some, IfSome, refl, sym, ap, ap₂, ◌∙◌, subst, arith}
use Rattle.std.specs.Option.{is_none, option_or, option_and_then}
use Rattle.elf_loader.specs.Faults.{first_some, fault_if}
use Rattle.elf_loader.specs.declared.faults.ElfFault.TheVariants as fault
use Rattle.std.specs.List.{range_with_len, find}
use Rattle.std.proofs.lemmas.List.{ext_get_or}
use Rattle.std.proofs.lemmas.List.Folds.{find-append}
use Rattle.std.proofs.lemmas.List.FromFn.{length-map-range_with_len, get_or-map-range_with_len}
use Rattle.std.proofs.lemmas.Grind.{reverse_onto}
use Rattle.rv_types.specs.Memory.{Ram}
use Rattle.elf_loader.specs.Image.{SegmentText, covers, byte_in, byte_or, byte_after, loads_of, segment_at, ram_after, ram_fault}
use Rattle.elf_loader.specs.inner.Filling.{Inside, FillsBytes, PlacesBytes}
use Rattle.elf_loader.proofs.Loads.{loads_from, loads_more, loads_skip, loads_all}
use Rattle.elf_loader.specs.Fields.{count_of}

-- the last of the segments that takes the address
abbrev pub last_at : List SegmentText → ℕ → Option SegmentText
last_at loads a = find (λ s. covers s a) (reverse loads)

-- memory has the bytes of these segments, and the places are left that none of them takes
pub record Placed (loads : List SegmentText) (old new : Ram) (left : List Bool) : Type 0 where
  pub base : new.base ≡ old.base
  pub misaligned : new.misaligned ≡ old.misaligned
  pub size : length new.bytes ≡ length old.bytes
  pub room : length left ≡ length old.bytes
  pub cells : (k : ℕ) → k < length old.bytes → get_or new.bytes k 0 ≡ byte_after loads (old.base + k) (get_or old.bytes k 0)
  pub places : (k : ℕ) → k < length old.bytes → get_or left k false ≡ is_none (last_at loads (old.base + k))

-- a segment in front of others is the last to take an address where none behind it does
pub last_more : (s : SegmentText) (loads : List SegmentText) (a : ℕ) → last_at (s ∷ loads) a ≡ option_or (last_at loads a) (cond (covers s a) (Some s) None)
last_more s loads a = ap (find (λ t. covers t a)) (reverse_onto loads s []) ∙ find-append (λ t. covers t a) (reverse loads) (s ∷ [])

cell_by : (s : SegmentText) (a b : ℕ) (o : Option SegmentText) (c : Bool) → cond (is_none o && c) (byte_in s a) (byte_or a b o) ≡ byte_or a b (option_or o (cond c (Some s) None))
cell_by s a b None true = refl
cell_by s a b None false = refl
cell_by s a b (Some t) c = refl

place_by : (s : SegmentText) (o : Option SegmentText) (c : Bool) → (is_none o && not c) ≡ is_none (option_or o (cond c (Some s) None))
place_by s None true = refl
place_by s None false = refl
place_by s (Some t) c = refl

-- the segments are placed once one more is placed in front of them
pub placed_more : (s : SegmentText) (loads : List SegmentText) (old mid new : Ram) (left left' : List Bool) → Placed loads old mid left → FillsBytes s mid new left left' → Placed (s ∷ loads) old new left'
placed_more s loads old mid new left left' h f = record {
  base = f.base ∙ h.base;
  misaligned = f.misaligned ∙ h.misaligned;
  size = f.bytes.size ∙ h.size;
  room = f.bytes.room ∙ h.room;
  cells = λ k l.
      let l2 : k < length mid.bytes = omega (arith, h.size) in
      let a = old.base + k in
      let one : get_or new.bytes k 0 ≡ cond (get_or left k false && covers s (mid.base + k)) (byte_in s (mid.base + k)) (get_or mid.bytes k 0) = f.bytes.cells k 0 l2 l2 in
      one
      ∙ ap (λ (b : ℕ). cond (get_or left k false && covers s (b + k)) (byte_in s (b + k)) (get_or mid.bytes k 0)) h.base
      ∙ ap (λ (t : Bool). cond (t && covers s a) (byte_in s a) (get_or mid.bytes k 0)) (h.places k l)
      ∙ ap (λ (v : ℕ). cond (is_none (last_at loads a) && covers s a) (byte_in s a) v) (h.cells k l)
      ∙ cell_by s a (get_or old.bytes k 0) (last_at loads a) (covers s a)
      ∙ sym (ap (byte_or a (get_or old.bytes k 0)) (last_more s loads a));
  places = λ k l.
      let l2 : k < length mid.bytes = omega (arith, h.size) in
      let a = old.base + k in
      let one : get_or left' k false ≡ (get_or left k false && not (covers s (mid.base + k))) = f.bytes.places k l2 in
      one
      ∙ ap (λ (b : ℕ). get_or left k false && not (covers s (b + k))) h.base
      ∙ ap (λ (t : Bool). t && not (covers s a)) (h.places k l)
      ∙ place_by s (last_at loads a) (covers s a)
      ∙ sym (ap (λ (o : Option SegmentText). is_none o) (last_more s loads a));
}

-- the segment of program header i is placed, where it has one
placed_by : (file : List ℕ) (i : ℕ) (o : Option SegmentText) (old mid new : Ram) (left left' : List Bool) → i < count_of file → segment_at file i ≡ o
    → Placed (loads_from file (i + 1)) old mid left → PlacesBytes o mid new left left' → Placed (loads_from file i) old new left'
placed_by file i None old mid new left left' l e h f =
    let P : Ram → Type 0 = λ r. Placed (loads_from file (i + 1)) old r left' in
    let Q : List Bool → Type 0 = λ v. Placed (loads_from file (i + 1)) old mid v in
    let R : List SegmentText → Type 0 = λ v. Placed v old new left' in
    subst R (sym (loads_skip file i l e)) (subst P (sym f.0) (subst Q (sym f.1) h))
placed_by file i (Some s) old mid new left left' l e h f =
    let R : List SegmentText → Type 0 = λ v. Placed v old new left' in
    subst R (sym (loads_more file i s l e)) (placed_more s (loads_from file (i + 1)) old mid new left left' h f)

pub placed_next : (file : List ℕ) (i : ℕ) (old mid new : Ram) (left left' : List Bool) → i < count_of file
    → Placed (loads_from file (i + 1)) old mid left → PlacesBytes (segment_at file i) mid new left left' → Placed (loads_from file i) old new left'
placed_next file i old mid new left left' l h f = placed_by file i (segment_at file i) old mid new left left' l refl h f

-- where a segment lies in memory it does so all along
pub inside_still : (loads : List SegmentText) (old new : Ram) (left : List Bool) (o : Option SegmentText) → Placed loads old new left → IfSome o (Inside old.base (length old.bytes)) → IfSome o (Inside new.base (length new.bytes))
inside_still loads old new left o h i =
    let P : ℕ → Type 0 = λ b. IfSome o (Inside b (length old.bytes)) in
    let Q : ℕ → Type 0 = λ n. IfSome o (Inside new.base n) in
    subst Q (sym h.size) (subst P (sym h.base) i)

-- memory is what it is after loading, once all segments are placed
ram_of : Bool → ℕ → List ℕ → Ram
ram_of misaligned base bytes = record { base = base; bytes = bytes; misaligned = misaligned }

pub same_ram : (m n : Ram) → m.misaligned ≡ n.misaligned → m.base ≡ n.base → m.bytes ≡ n.bytes → m ≡ n
unfolding ram_of
same_ram m n a e f = ap (λ t. ram_of t m.base m.bytes) a ∙ ap₂ (ram_of n.misaligned) e f

pub placed_end : (file : List ℕ) (old new : Ram) (left : List Bool) → Placed (loads_from file 0) old new left → new ≡ ram_after file old
unfolding ram_after
placed_end file old new left h0 =
    let R : List SegmentText → Type 0 = λ v. Placed v old new left in
    let h = subst R (loads_all file) h0 in
    let at = λ (k : ℕ). byte_after (loads_of file) (old.base + k) (get_or old.bytes k 0) in
    let n = length old.bytes in
    let size : length (map at (range_with_len 0 n)) ≡ n = length-map-range_with_len at 0 n in
    same_ram new (ram_after file old) h.misaligned h.base
    (ext_get_or 0 new.bytes (map at (range_with_len 0 n)) (h.size ∙ sym size)
    (λ k l. let l2 : k < n = omega (arith, h.size) in h.cells k l2 ∙ sym (get_or-map-range_with_len at 0 n k k 0 l2 (omega arith))))

-- loading leaves the size as it was, so the same segments lie in memory
pub ram_fault_after : (file : List ℕ) (ram : Ram) → ram_fault file (ram_after file ram) ≡ ram_fault file ram
unfolding ram_fault ram_after
ram_fault_after file ram =
    let at = λ (k : ℕ). byte_after (loads_of file) (ram.base + k) (get_or ram.bytes k 0) in
    let size : length (map at (range_with_len 0 (length ram.bytes))) ≡ length ram.bytes = length-map-range_with_len at 0 (length ram.bytes) in
    ap (λ (n : ℕ). first_some (map (λ i. option_and_then (λ s. fault_if (not (nat_le ram.base s.vaddr && nat_le (s.vaddr + s.memsz) (ram.base + n))) (fault.RamOutside i)) (segment_at file i)) (range_with_len 0 (count_of file)))) size
