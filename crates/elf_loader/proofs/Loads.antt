-- The segments of a file's program headers, from one of them on.
use Rattle.std.proofs.Common.{◌≡◌, ℕ, ◌+◌, ◌-◌, ◌<◌, ◌≤◌, Bool, true, false, not, ◌&&◌, cond, nat_lt, List, [], ◌∷◌, length, drop, Option, None, Some, IfSome, refl, sym, ap, ◌∙◌, arith, length-take}
use Rattle.std.specs.Prelude.{option_and_then, slice_range}
use Rattle.std.specs.List.{range_with_len, filter_map, cons_option}
use Rattle.std.proofs.lemmas.Bool.Decides.{nat_tests}
use Rattle.rv_types.specs.Memory.{Ram, in_ram}
use Rattle.elf_loader.specs.declared.fields.ProgramHeader.{ProgramHeader}
use Rattle.elf_loader.specs.declared.faults.ElfFault.TheVariants as fault
use Rattle.elf_loader.specs.Fields.{count_of, program_header, is_load}
use Rattle.elf_loader.specs.Faults.{fault_if, header_fault, program_header_faults}
use Rattle.elf_loader.specs.Image.{SegmentText, segment_of, segment_at, loads_of, outside, ram_fault}
use Rattle.elf_loader.specs.inner.Filling.{Inside}
use Rattle.elf_loader.proofs.Searching.{none_at, none_below, range_step, range_end}
use Rattle.elf_loader.proofs.Faultless.{failed_test, program_header_good}

-- the segments of the program headers from i on
abbrev pub loads_from : List ℕ → ℕ → List SegmentText
loads_from file i = filter_map (segment_at file) (range_with_len i (count_of file - i))

-- where program header i has a segment, the segments from i on begin with it
pub loads_more : (file : List ℕ) (i : ℕ) (s : SegmentText) → i < count_of file → segment_at file i ≡ Some s → loads_from file i ≡ s ∷ loads_from file (i + 1)
loads_more file i s l e =
    ap (filter_map (segment_at file)) (range_step i (count_of file) l) ∙ ap (λ (o : Option SegmentText). cons_option o (loads_from file (i + 1))) e

-- where program header i has no segment, the segments from i on are those from the next one on
pub loads_skip : (file : List ℕ) (i : ℕ) → i < count_of file → segment_at file i ≡ None → loads_from file i ≡ loads_from file (i + 1)
loads_skip file i l e =
    ap (filter_map (segment_at file)) (range_step i (count_of file) l) ∙ ap (λ (o : Option SegmentText). cons_option o (loads_from file (i + 1))) e

-- past the last program header there is no segment
pub loads_none : (file : List ℕ) (i : ℕ) → count_of file ≤ i → loads_from file i ≡ []
loads_none file i l = ap (filter_map (segment_at file)) (range_end i (count_of file) l)

-- from the first program header on there are all segments of the file
pub loads_all : (file : List ℕ) → loads_from file 0 ≡ loads_of file
loads_all file = let e : count_of file - 0 ≡ count_of file = omega arith in ap (λ (n : ℕ). filter_map (segment_at file) (range_with_len 0 n)) e

-- what the header of a segment says
pub record IsSegment (file : List ℕ) (p : ProgramHeader) (s : SegmentText) : Type 0 where
  pub load : is_load p ≡ true
  pub memsz : s.memsz ≡ p.memsz
  pub bytes : s.bytes ≡ slice_range file p.offset (p.offset + p.filesz)

is_segment_by : (file : List ℕ) (p : ProgramHeader) (s : SegmentText) (load some : Bool) → is_load p ≡ load
    → cond (load && some) (Some (record { vaddr = p.vaddr; memsz = p.memsz; flags = p.flags; bytes = slice_range file p.offset (p.offset + p.filesz) })) None ≡ Some s → IsSegment file p s
is_segment_by file p s true true l e = record { load = l; memsz = cc; bytes = cc }
is_segment_by file p s true false l e = absurd (cc)
is_segment_by file p s false some l e = absurd (cc)

is_segment_at : (file : List ℕ) (i : ℕ) (s : SegmentText) (below : Bool) → nat_lt i (count_of file) ≡ below
    → cond below (segment_of file (program_header file i)) None ≡ Some s → (i < count_of file) × IsSegment file (program_header file i) s
is_segment_at file i s true b e = (grind (arith, nat_tests), is_segment_by file (program_header file i) s (is_load (program_header file i)) (nat_lt 0 (program_header file i).memsz) refl e)
is_segment_at file i s false b e = absurd (cc)

pub is_segment : (file : List ℕ) (i : ℕ) (s : SegmentText) → segment_at file i ≡ Some s → (i < count_of file) × IsSegment file (program_header file i) s
unfolding segment_at
is_segment file i s e = is_segment_at file i s (nat_lt i (count_of file)) refl e

-- the file has no more bytes for a segment than it takes in memory
size_by : (load : Bool) (memsz filesz i : ℕ) → load ≡ true → fault_if (load && nat_lt memsz filesz) (fault.SegmentSize i) ≡ None → filesz ≤ memsz
size_by load memsz filesz i l e =
    let f : (load && nat_lt memsz filesz) ≡ false = failed_test _ (fault.SegmentSize i) e in
    grind (arith, nat_tests)

pub bytes_fit : (file : List ℕ) (i : ℕ) (s : SegmentText) → header_fault file ≡ None → segment_at file i ≡ Some s → length s.bytes ≤ s.memsz
bytes_fit file i s h e =
    let (below, is) = is_segment file i s e in
    let p = program_header file i in
    let good : p.filesz ≤ p.memsz = size_by (is_load p) p.memsz p.filesz i is.load (none_at (program_header_faults file i) 1 (program_header_good file i h below)) in
    let size : length s.bytes ≤ p.filesz = rw is.bytes (omega (arith, length-take (p.offset + p.filesz - p.offset) (drop p.offset file))) in
    omega (arith, is.memsz)

-- a segment without fault lies in memory
in_by : (ram : Ram) (i : ℕ) (s : SegmentText) → outside ram i s ≡ None → (ram.base ≤ s.vaddr) × (s.vaddr + s.memsz ≤ ram.base + length ram.bytes)
in_by ram i s e =
    let f : not (in_ram ram s.vaddr s.memsz) ≡ false = failed_test _ (fault.RamOutside i) e in
    (grind (arith, nat_tests), grind (arith, nat_tests))

pub inside_at : (file : List ℕ) (ram : Ram) (i : ℕ) (s : SegmentText) → header_fault file ≡ None → ram_fault file ram ≡ None → segment_at file i ≡ Some s → Inside ram.base (length ram.bytes) s
unfolding ram_fault
inside_at file ram i s h r e =
    let below = (is_segment file i s e).0 in
    let none : option_and_then (outside ram i) (segment_at file i) ≡ None = none_below (λ j. option_and_then (outside ram j) (segment_at file j)) i (count_of file) r below in
    let out : outside ram i s ≡ None = sym (ap (option_and_then (outside ram i)) e) ∙ none in
    let within = in_by ram i s out in
    record { low = within.0; high = within.1; bytes = bytes_fit file i s h e }

inside_by : (base size : ℕ) (o : Option SegmentText) → ((s : SegmentText) → o ≡ Some s → Inside base size s) → IfSome o (Inside base size)
inside_by base size None h = tt
inside_by base size (Some s) h = h s refl

pub inside_of : (file : List ℕ) (ram : Ram) (i : ℕ) → header_fault file ≡ None → ram_fault file ram ≡ None → IfSome (segment_at file i) (Inside ram.base (length ram.bytes))
inside_of file ram i h r = inside_by ram.base (length ram.bytes) (segment_at file i) (λ s e. inside_at file ram i s h r e)
