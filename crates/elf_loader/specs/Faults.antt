-- Why a file is refused: the tests of its headers, in their order (docs/formats.md, "Images").
use Rattle.std.specs.Prelude.{ℕ, ◌+◌, ◌*◌, ◌%◌, Bool, true, false, not, ◌&&◌, ◌==◌, nat_lt, List, [], ◌∷◌, length, map, Option, Some, None}
use Rattle.std.specs.List.{range_with_len}
use Rattle.elf_loader.specs.declared.fields.Header.{Header}
use Rattle.elf_loader.specs.declared.faults.ElfFault.{ElfFault}
use Rattle.elf_loader.specs.declared.faults.ElfFault.TheVariants as fault
use Rattle.elf_loader.specs.Fields.{has_magic, header_of, count_of, program_header, is_load}

-- the first of several options that is there
abbrev pub first_some : {T : Type 0} → List (Option T) → Option T
first_some [] = None
first_some (None ∷ rest) = first_some rest
first_some (Some x ∷ rest) = Some x

-- a fault, where its test holds
abbrev pub fault_if : Bool → ElfFault → Option ElfFault
fault_if true e = Some e
fault_if false e = None

-- the fault of the header's fields: the class is to be that of 32 bits, 1, the data encoding little-endian, 1, the
-- version 1 and the file type executable, 2 (ELF specification, "ELF Identification" and "ELF Header"); the machine
-- RISC-V, 243, with bit 0 of the flags, compressed instructions, not set (RISC-V ELF psABI, "File Header"); a program
-- header has 32 bytes
abbrev pub field_fault : Header → Option ElfFault
field_fault h = first_some (
    fault_if (not (h.class == 1)) (fault.Class h.class)
    ∷ fault_if (not (h.encoding == 1)) (fault.Data h.encoding)
    ∷ fault_if (not (h.version == 1)) (fault.Version h.version)
    ∷ fault_if (not (h.kind == 2)) (fault.FileType h.kind)
    ∷ fault_if (not (h.machine == 243)) (fault.Machine h.machine)
    ∷ fault_if (not (h.flags % 2 == 0)) (fault.Compressed h.flags)
    ∷ fault_if (not (h.count == 0) && not (h.entry_size == 32)) (fault.EntrySize h.entry_size)
    ∷ [])

-- the fault of the table of program headers: it ends past the end of the file
abbrev pub table_fault : List ℕ → Header → Option ElfFault
table_fault file h =
    let end = h.table + 32 * h.count in
    fault_if (not (h.count == 0) && nat_lt (length file) end) (fault.TableOutside end (length file))

-- the faults of program header i, in order: its type is PT_INTERP, 3, or it is to be loaded and has more bytes in the
-- file than in memory, or ends past the end of the file
abbrev pub program_header_faults : List ℕ → ℕ → List (Option ElfFault)
program_header_faults file i =
    let p = program_header file i in
    fault_if (p.kind == 3) (fault.Interp i)
    ∷ fault_if (is_load p && nat_lt p.memsz p.filesz) (fault.SegmentSize i)
    ∷ fault_if (is_load p && (not (p.filesz == 0) && nat_lt (length file) (p.offset + p.filesz))) (fault.FileOutside i)
    ∷ []

-- the first fault of program header i, if it has one
abbrev pub program_header_fault : List ℕ → ℕ → Option ElfFault
program_header_fault file i = first_some (program_header_faults file i)

-- the faults of the headers, in order; the header has 52 bytes
abbrev pub header_faults : List ℕ → List (Option ElfFault)
header_faults file =
    fault_if (nat_lt (length file) 52) (fault.Short 52 (length file))
    ∷ fault_if (not (has_magic file)) fault.Magic
    ∷ field_fault (header_of file)
    ∷ table_fault file (header_of file)
    ∷ first_some (map (program_header_fault file) (range_with_len 0 (count_of file)))
    ∷ []

-- the first fault of the headers, if they have one
unfoldable pub header_fault : List ℕ → Option ElfFault
header_fault file = first_some (header_faults file)
