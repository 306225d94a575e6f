-- A part of memory that has all segments.
use Rattle.std.specs.Prelude.{◌≡◌, ℕ, ◌+◌, ◌%◌, ◌≤◌, List, IfSome, slice_range}
use Rattle.rv_types.specs.Memory.{Ram}
use Rattle.elf_loader.specs.Image.{SegmentText, segment_at}
use Rattle.elf_loader.specs.inner.Filling.{Inside}

-- the part of memory from this place on and before that one
abbrev pub part : Ram → ℕ → ℕ → Ram
part ram from to = record ram { base = ram.base + from; bytes = slice_range ram.bytes from to }

-- two places in memory of this size, at which rows of 16 bytes begin
pub record InRows (size from to : ℕ) : Type 0 where
  pub whole_before : from % 16 ≡ 0
  pub whole_behind : to % 16 ≡ 0
  pub before : from ≤ size
  pub behind : to ≤ size

-- the segment lies from this address on and before that one
pub record LiesBetween (low high : ℕ) (s : SegmentText) : Type 0 where
  pub above : low ≤ s.vaddr
  pub below : s.vaddr + s.memsz ≤ high

-- every segment of the file lies in a memory of this base and size
abbrev pub AllInside : List ℕ → ℕ → ℕ → Type 0
AllInside file base size = (i : ℕ) → IfSome (segment_at file i) (Inside base size)
