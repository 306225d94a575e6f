-- Beside Image.antt: what only clauses of the code and lemmas cite.
use Rattle.elf_loader.specs.declared.parts.Segment.{Segment}
use Rattle.elf_loader.specs.Image.{SegmentText}

-- a borrowed segment as such a value
abbrev pub segment_text : Segment → SegmentText
segment_text s = record { vaddr = s.vaddr; memsz = s.memsz; flags = s.flags; bytes = s.bytes.now }
