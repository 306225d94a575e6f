-- Loading into a part of memory that has all segments is loading into the whole.
use Rattle.std.proofs.Common.{◌≡◌, ℕ, zero, suc, ◌+◌, ◌-◌, ◌%◌, ◌<◌, ◌≤◌, Bool, true, false, not, ◌&&◌, ◌||◌, cond, List, [], ◌∷◌, ◌++◌, length, map, take, drop, get_or, Option, None, Some, IfSome, refl, sym, ap, ap₂, ◌∙◌, subst, ◌⊎◌, inl, inr, arith}
use Rattle.std.specs.Prelude.{◌==◌, option_and_then, slice_range}
use Rattle.std.specs.Option.{option_or}
use Rattle.std.specs.List.{range_with_len, list_any}
use Rattle.std.proofs.lemmas.Bool.{cases_lt}
use Rattle.std.proofs.lemmas.Bool.Decides.{nat_tests}
use Rattle.std.proofs.lemmas.List.{append-nil, append_assoc, length-append, length-take, length-take-le, length-drop, drop_all, get_or_append_left, get_or-append_right, get_or-take, get_or-drop, take-append-le, drop-append-le, ext_get_or}
use Rattle.std.proofs.Math.Seq.{drop-append-add}
use Rattle.std.proofs.lemmas.List.FromFn.{length-map-range_with_len, get_or-map-range_with_len}
use Rattle.rv_types.specs.Memory.{Ram, zeros, in_ram, bytes_at, with_bytes}
use Rattle.rv_types.specs.inner.Memory.{length_zeros}
use Rattle.rv_types.specs.Word.{from_le}
use Rattle.elf_loader.specs.declared.faults.ElfFault.TheVariants as fault
use Rattle.elf_loader.specs.Fields.{count_of}
use Rattle.elf_loader.specs.Faults.{first_some, fault_if, header_fault}
use Rattle.elf_loader.specs.Image.{SegmentText, covers, byte_or, byte_after, loads_of, segment_at, outside, ram_fault, ram_after, has_code, code_of}
use Rattle.elf_loader.specs.inner.Filling.{Inside}
use Rattle.elf_loader.specs.inner.Spans.{LiesBetween, AllInside, part}
use Rattle.elf_loader.proofs.Loads.{is_segment, bytes_fit}
use Rattle.elf_loader.proofs.Placed.{last_at, last_more, same_ram, ram_fault_after}
use Rattle.elf_loader.proofs.Marked.{any_none, no_code_outside}
use Rattle.elf_loader.proofs.Images.{inside_by}

-- ---- All segments lie in the span

inside_one : (file : List ℕ) (base from to first behind i : ℕ) (o : Option SegmentText) → header_fault file ≡ None → segment_at file i ≡ o
    → (i < count_of file → IfSome o (LiesBetween (base + from) (base + to))) → first ≤ from → to ≤ behind → first ≤ behind → IfSome o (Inside (base + first) (behind - first))
inside_one file base from to first behind i None h e l a b c = tt
inside_one file base from to first behind i (Some s) h e l a b c =
    let between = l (is_segment file i s e).0 in
    record { low = omega (arith, between.above); high = omega (arith, between.below); bytes = bytes_fit file i s h e }

pub all_inside : (file : List ℕ) (base from to first behind : ℕ) → header_fault file ≡ None
    → ((i : ℕ) → i < count_of file → IfSome (segment_at file i) (LiesBetween (base + from) (base + to))) → first ≤ from → to ≤ behind → first ≤ behind → AllInside file (base + first) (behind - first)
all_inside file base from to first behind h l a b c i = inside_one file base from to first behind i (segment_at file i) h refl (l i) a b c

-- ---- No segment lies outside the part

first_none : {T : Type 0} (f : ℕ → Option T) (a n : ℕ) → ((i : ℕ) → f i ≡ None) → first_some (map f (range_with_len a n)) ≡ None
first_none f a zero h = refl
first_none {T} f a (suc n) h = ap (λ (o : Option T). first_some (o ∷ map f (range_with_len (a + 1) n))) (h a) ∙ first_none f (a + 1) n h

in_one : (ram : Ram) (i : ℕ) (o : Option SegmentText) → IfSome o (Inside ram.base (length ram.bytes)) → option_and_then (outside ram i) o ≡ None
in_one ram i None h = refl
in_one ram i (Some s) h =
    let low = h.low in
    let high = h.high in
    let t : in_ram ram s.vaddr s.memsz ≡ true = grind (arith, nat_tests) in
    ap (λ (b : Bool). fault_if (not b) (fault.RamOutside i)) t

pub no_fault : (file : List ℕ) (ram : Ram) → AllInside file ram.base (length ram.bytes) → ram_fault file ram ≡ None
unfolding ram_fault
no_fault file ram h = first_none (λ i. option_and_then (outside ram i) (segment_at file i)) 0 (count_of file) (λ i. in_one ram i (segment_at file i) (h i))

pub length_part : (ram : Ram) (from to : ℕ) → from ≤ to → to ≤ length ram.bytes → length (part ram from to).bytes ≡ to - from
length_part ram from to a b = length-take-le (to - from) (drop from ram.bytes) (omega (arith, length-drop from ram.bytes))

pub part_no_fault : (file : List ℕ) (ram : Ram) (from to : ℕ) → from ≤ to → to ≤ length ram.bytes → AllInside file (ram.base + from) (to - from) → ram_fault file (part ram from to) ≡ None
part_no_fault file ram from to a b h =
    let P : ℕ → Type 0 = λ n. AllInside file (ram.base + from) n in
    no_fault file (part ram from to) (subst P (sym (length_part ram from to a b)) h)

-- the part goes back to its place
pub fits : (ram : Ram) (base n from to : ℕ) → base ≡ ram.base + from → n ≡ to - from → from ≤ to → to ≤ length ram.bytes → in_ram ram base n ≡ true
fits ram base n from to e f a b = let low : ram.base ≤ base = omega (arith, e) in let high : base + n ≤ ram.base + length ram.bytes = omega (arith, e, f) in grind (arith, nat_tests)

-- ---- What a byte outside the part is

or_false : (x y : Bool) → (x || y) ≡ false → (x ≡ false) × (y ≡ false)
or_false true y h = absurd (cc)
or_false false y h = (refl, h)

last_none : (loads : List SegmentText) (a : ℕ) → list_any (λ s. covers s a) loads ≡ false → last_at loads a ≡ None
last_none [] a h = refl
last_none (s ∷ rest) a h =
    let b = or_false (covers s a) (list_any (λ s. covers s a) rest) h in
    last_more s rest a ∙ ap₂ (λ (o : Option SegmentText) (c : Bool). option_or o (cond c (Some s) None)) (last_none rest a b.1) b.0

uncovered : (base size a : ℕ) (o : Option SegmentText) → (a < base) ⊎ (base + size ≤ a) → IfSome o (Inside base size) → IfSome o (λ s. covers s a ≡ false)
uncovered base size a None out h = tt
uncovered base size a (Some s) (inl below) h = let low : a < s.vaddr = omega (arith, h.low) in grind (arith, nat_tests)
uncovered base size a (Some s) (inr above) h = let high : s.vaddr + s.memsz ≤ a = omega (arith, h.high) in grind (arith, nat_tests)

stays : (file : List ℕ) (base size a byte : ℕ) → AllInside file base size → (a < base) ⊎ (base + size ≤ a) → byte_after (loads_of file) a byte ≡ byte
stays file base size a byte h out =
    let none = any_none (segment_at file) (λ s. covers s a) 0 (count_of file) (λ i l. uncovered base size a (segment_at file i) out (h i)) in
    ap (byte_or a byte) (last_none (loads_of file) a none)

-- ---- Bytes in the place of others

-- a list with these elements in the place of those from one place on and before another
abbrev pub joined : List ℕ → ℕ → ℕ → List ℕ → List ℕ
joined xs from to new = take from xs ++ new ++ drop to xs

pub placed_part : (ram : Ram) (from to : ℕ) (new : List ℕ) → from ≤ to → length new ≡ to - from → with_bytes ram (ram.base + from) new ≡ record ram { bytes = joined ram.bytes from to new }
placed_part ram from to new a e =
    let first : ram.base + from - ram.base ≡ from = omega arith in
    let last : ram.base + from - ram.base + length new ≡ to = omega (arith, e) in
    ap₂ (λ (i j : ℕ). record ram { bytes = take i ram.bytes ++ new ++ drop j ram.bytes }) first last

module _ (xs : List ℕ) (from to : ℕ) (new : List ℕ) (a : from ≤ to) (b : to ≤ length xs) (e : length new ≡ to - from) where
  front : length (take from xs) ≡ from
  front = length-take-le from xs (omega arith)

  middle : length (take from xs ++ new) ≡ to
  middle = let l = length-append (take from xs) new in omega (arith, l, e, front)

  pub length_joined : length (joined xs from to new) ≡ length xs
  length_joined = let l = length-append (take from xs ++ new) (drop to xs) in let d = length-drop to xs in omega (arith, l, d, middle)

  pub get_before : (k : ℕ) → k < from → get_or (joined xs from to new) k 0 ≡ get_or xs k 0
  get_before k l =
      get_or_append_left (take from xs ++ new) (drop to xs) 0 k (omega (arith, middle))
      ∙ get_or_append_left (take from xs) new 0 k (omega (arith, front))
      ∙ get_or-take from xs k 0 l

  pub get_within : (k : ℕ) → from ≤ k → k < to → get_or (joined xs from to new) k 0 ≡ get_or new (k - from) 0
  get_within k l u =
      get_or_append_left (take from xs ++ new) (drop to xs) 0 k (omega (arith, middle))
      ∙ get_or-append_right (take from xs) new from k 0 front l

  pub get_behind : (k : ℕ) → to ≤ k → get_or (joined xs from to new) k 0 ≡ get_or xs k 0
  get_behind k l =
      let at : to + (k - to) ≡ k = omega arith in
      get_or-append_right (take from xs ++ new) (drop to xs) to k 0 middle l ∙ get_or-drop to xs (k - to) 0 ∙ ap (λ (i : ℕ). get_or xs i 0) at

  -- four of the new ones
  pub four : (j i : ℕ) → j + 4 ≤ length new → i ≡ from + j → slice_range (joined xs from to new) i (i + 4) ≡ slice_range new j (j + 4)
  four j i l at =
      let rest = drop to xs in
      let many : i + 4 - i ≡ 4 = omega arith in
      let few : j + 4 - j ≡ 4 = omega arith in
      let place : i ≡ length (take from xs) + j = omega (arith, at, front) in
      let left : 4 ≤ length (drop j new) = omega (arith, length-drop j new) in
      ap₂ (λ (n p : ℕ). take n (drop p (joined xs from to new))) many place
      ∙ ap (λ (v : List ℕ). take 4 (drop (length (take from xs) + j) v)) (append_assoc (take from xs) new rest)
      ∙ ap (take 4) (drop-append-add (take from xs) (new ++ rest) j ∙ drop-append-le j new rest (omega arith))
      ∙ take-append-le 4 (drop j new) rest left
      ∙ sym (ap (λ (n : ℕ). take n (drop j new)) few)

-- a part of a memory takes as many bytes as lie in it
pub room : (p : Ram) (misaligned : Bool) (base from to : ℕ) (xs : List ℕ) → p ≡ record { base = base; bytes = zeros (to - from); misaligned = misaligned } → to ≤ length xs → in_ram p base (length (slice_range xs from to)) ≡ true
room p misaligned base from to xs e b =
    let low : p.base ≡ base = ap (λ (r : Ram). r.base) e in
    let size : length p.bytes ≡ to - from = ap (λ (r : Ram). length r.bytes) e ∙ length_zeros (to - from) in
    let many : length (slice_range xs from to) ≤ to - from = omega (arith, length-take (to - from) (drop from xs)) in
    grind (arith, nat_tests)

-- a whole memory of zeros is written over
pub part_whole : (misaligned : Bool) (base n : ℕ) (new : List ℕ) → length new ≡ n → with_bytes (record { base = base; bytes = zeros n; misaligned = misaligned }) base new ≡ record { base = base; bytes = new; misaligned = misaligned }
part_whole misaligned base n new e =
    let first : base - base ≡ 0 = omega arith in
    let last : base - base + length new ≡ n = omega (arith, e) in
    let none : drop n (zeros n) ≡ [] = drop_all n (zeros n) (omega (arith, length_zeros n)) in
    ap₂ (λ (i j : ℕ). record { base = base; bytes = take i (zeros n) ++ new ++ drop j (zeros n); misaligned = misaligned }) first last
    ∙ ap (λ (v : List ℕ). record { base = base; bytes = new ++ v; misaligned = misaligned }) none
    ∙ ap (λ (v : List ℕ). record { base = base; bytes = v; misaligned = misaligned }) (append-nil new)

-- ---- Memory with the loaded part in its place

pub length_loaded : (file : List ℕ) (ram : Ram) → length (ram_after file ram).bytes ≡ length ram.bytes
unfolding ram_after
length_loaded file ram = length-map-range_with_len (λ k. byte_after (loads_of file) (ram.base + k) (get_or ram.bytes k 0)) 0 (length ram.bytes)

get_loaded : (file : List ℕ) (ram : Ram) (k : ℕ) → k < length ram.bytes → get_or (ram_after file ram).bytes k 0 ≡ byte_after (loads_of file) (ram.base + k) (get_or ram.bytes k 0)
unfolding ram_after
get_loaded file ram k l = get_or-map-range_with_len (λ k. byte_after (loads_of file) (ram.base + k) (get_or ram.bytes k 0)) 0 (length ram.bytes) k k 0 l (omega arith)

pub base_loaded : (file : List ℕ) (ram : Ram) → (ram_after file ram).base ≡ ram.base
unfolding ram_after
base_loaded file ram = refl

rule_loaded : (file : List ℕ) (ram : Ram) → (ram_after file ram).misaligned ≡ ram.misaligned
unfolding ram_after
rule_loaded file ram = refl

module _ (file : List ℕ) (ram : Ram) (from to : ℕ) (a : from ≤ to) (b : to ≤ length ram.bytes) (h : AllInside file (ram.base + from) (to - from)) where
  new : List ℕ
  new = (ram_after file (part ram from to)).bytes

  size : length new ≡ to - from
  unfolding new
  size = length_loaded file (part ram from to) ∙ length_part ram from to a b

  cell : (k : ℕ) → (k < from) ⊎ (from ≤ k) → (k < to) ⊎ (to ≤ k) → get_or (joined ram.bytes from to new) k 0 ≡ byte_after (loads_of file) (ram.base + k) (get_or ram.bytes k 0)
  unfolding new
  cell k (inl l) u =
      get_before ram.bytes from to new a b size k l ∙ sym (stays file (ram.base + from) (to - from) (ram.base + k) (get_or ram.bytes k 0) h (inl (omega arith)))
  cell k (inr l) (inl u) =
      let p = part ram from to in
      let few : k - from < length p.bytes = omega (arith, length_part ram from to a b) in
      let at : p.base + (k - from) ≡ ram.base + k = omega arith in
      let place : from + (k - from) ≡ k = omega arith in
      let byte : get_or p.bytes (k - from) 0 ≡ get_or ram.bytes k 0 =
      get_or-take (to - from) (drop from ram.bytes) (k - from) 0 (omega arith) ∙ get_or-drop from ram.bytes (k - from) 0 ∙ ap (λ (i : ℕ). get_or ram.bytes i 0) place in
      get_within ram.bytes from to new a b size k l u
      ∙ get_loaded file p (k - from) few
      ∙ ap₂ (λ (c v : ℕ). byte_after (loads_of file) c v) at byte
  cell k (inr l) (inr u) =
      get_behind ram.bytes from to new a b size k u
      ∙ sym (stays file (ram.base + from) (to - from) (ram.base + k) (get_or ram.bytes k 0) h (inr (omega arith)))

  pub loaded_part : with_bytes ram (ram.base + from) (ram_after file (part ram from to)).bytes ≡ ram_after file ram
  unfolding new
  loaded_part =
      let bytes : joined ram.bytes from to new ≡ (ram_after file ram).bytes =
      ext_get_or 0 (joined ram.bytes from to new) (ram_after file ram).bytes (length_joined ram.bytes from to new a b size ∙ sym (length_loaded file ram))
      (λ k l.
      let l2 : k < length ram.bytes = omega (arith, length_joined ram.bytes from to new a b size) in
      cell k (cases_lt k from) (cases_lt k to) ∙ sym (get_loaded file ram k l2)) in
      placed_part ram from to new a size ∙ same_ram (record ram { bytes = joined ram.bytes from to new }) (ram_after file ram) (sym (rule_loaded file ram)) (sym (base_loaded file ram)) bytes

-- ---- The words of the part

by_any : (whole any : Bool) (x y : Option ℕ) → (any ≡ true → x ≡ y) → cond (whole && any) x None ≡ cond (whole && any) y None
by_any true true x y h = h refl
by_any true false x y h = refl
by_any false any x y h = refl

module _ (file : List ℕ) (ram : Ram) (from to : ℕ) (new : List ℕ) (a : from ≤ to) (b : to ≤ length ram.bytes) (e : length new ≡ to - from) (f : header_fault file ≡ None)
    (r : ram_fault file (record ram { base = ram.base + from; bytes = new }) ≡ None) where
  same_word : (pc : ℕ) → code_of file (record ram { base = ram.base + from; bytes = new }) pc ≡ code_of file (record ram { bytes = joined ram.bytes from to new }) pc
  unfolding code_of
  same_word pc =
      let p : Ram = record ram { base = ram.base + from; bytes = new } in
      let any = list_any (has_code pc) (loads_of file) in
      by_any (pc % 4 == 0) any (Some (from_le (bytes_at p pc 4))) (Some (from_le (bytes_at (record ram { bytes = joined ram.bytes from to new }) pc 4)))
      (λ t.
      let in_part = inside_by p.base (p.base + length new) pc any t (no_code_outside file p pc f r) (cases_lt pc p.base) (cases_lt (p.base + length new) (pc + 4)) in
      ap (λ (v : List ℕ). Some (from_le v)) (sym (four ram.bytes from to new a b e (pc - p.base) (pc - ram.base) (omega (arith, in_part.0, in_part.1)) (omega (arith, in_part.0)))))

  pub same_code : code_of file (record ram { base = ram.base + from; bytes = new }) ≡ code_of file (with_bytes ram (ram.base + from) new)
  same_code = (λ i. λ pc. same_word pc i) ∙ sym (ap (code_of file) (placed_part ram from to new a e))

pub loaded_code : (file : List ℕ) (ram : Ram) (from to : ℕ) → from ≤ to → to ≤ length ram.bytes → AllInside file (ram.base + from) (to - from) → header_fault file ≡ None
    → code_of file (ram_after file (part ram from to)) ≡ code_of file (ram_after file ram)
loaded_code file ram from to a b h f =
    let p = part ram from to in
    let q : Ram = record ram { base = ram.base + from; bytes = (ram_after file p).bytes } in
    let same : ram_after file p ≡ q = same_ram (ram_after file p) q (rule_loaded file p) (base_loaded file p) refl in
    let r : ram_fault file q ≡ None = ap (ram_fault file) (sym same) ∙ ram_fault_after file p ∙ part_no_fault file ram from to a b h in
    let size : length q.bytes ≡ to - from = length_loaded file p ∙ length_part ram from to a b in
    ap (code_of file) same
    ∙ same_code file ram from to q.bytes a b size f r
    ∙ ap (code_of file) (loaded_part file ram from to a b h)
