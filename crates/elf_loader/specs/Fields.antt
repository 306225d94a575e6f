-- The fields of an ELF file that are looked at (ELF specification, "ELF Header" and "Program Header"). Numbers have
-- one, two or four bytes, the lowest byte first.
use Rattle.std.specs.Prelude.{ℕ, ◌+◌, ◌*◌, ◌%◌, Bool, not, ◌==◌, nat_eq, List, ◌∷◌, codes, slice_index, slice_range}
use Rattle.std.specs.List.{starts_with}
use Rattle.rv_types.specs.Word.{from_le}
use Rattle.elf_loader.specs.declared.fields.Header.{Header}
use Rattle.elf_loader.specs.declared.fields.ProgramHeader.{ProgramHeader}

-- the number of the two bytes from a place on
unfoldable pub half : List ℕ → ℕ → ℕ
half file at = from_le (slice_range file at (at + 2))

-- the number of the four bytes from a place on
unfoldable pub word : List ℕ → ℕ → ℕ
word file at = from_le (slice_range file at (at + 4))

-- the file begins with the four bytes of every ELF file ("ELF Identification")
unfoldable pub has_magic : List ℕ → Bool
has_magic file = starts_with nat_eq file (0x7f ∷ codes "ELF")

-- the header, the first 52 bytes: `kind` is the file's type, `table` the place of the program headers, `entry_size` the
-- size of one of them and `count` their number
abbrev pub header_of : List ℕ → Header
header_of file = record {
  class = slice_index file 4;
  encoding = slice_index file 5;
  version = slice_index file 6;
  kind = half file 16;
  machine = half file 18;
  entry = word file 24;
  table = word file 28;
  flags = word file 36;
  entry_size = half file 42;
  count = half file 44;
}

-- where fetch begins, and the number of program headers
abbrev pub entry_of : List ℕ → ℕ
entry_of file = (header_of file).entry

abbrev pub count_of : List ℕ → ℕ
count_of file = (header_of file).count

-- program header i of the table: each has 32 bytes
abbrev pub program_header : List ℕ → ℕ → ProgramHeader
program_header file i =
    let at = (header_of file).table + 32 * i in
    record {
      kind = word file at;
      offset = word file (at + 4);
      vaddr = word file (at + 8);
      filesz = word file (at + 16);
      memsz = word file (at + 20);
      flags = word file (at + 24);
    }

-- the program header is of a segment that is to be loaded: its type is PT_LOAD, 1
abbrev pub is_load : ProgramHeader → Bool
is_load p = p.kind == 1

-- bit 0 of a program header's flags: its bytes may be fetched
abbrev pub is_executable : ℕ → Bool
is_executable flags = not (flags % 2 == 0)
