-- Image files, as words of four bytes, the lowest byte first. Fields stand where docs/formats.md has them, "Fields"; what isn't looked at
-- has 0xee in each byte.
use Rattle.std.proofs.Common.{List, [], ◌∷◌}
use Rattle.std.specs.Prelude.{ℕ, ◌+◌, ◌*◌, ◌^◌, flat_map}
use Rattle.rv_types.specs.Word.{to_le}

-- the bytes of words
abbrev pub bytes_of : List ℕ → List ℕ
bytes_of words = flat_map (to_le 4) words

-- the words of the header: magic; class, data encoding and version 1; an executable file, 2, for RISC-V, 243; the entry; the place of the
-- program headers; flags; the size of one of them; their number
abbrev pub header_with : ℕ → ℕ → ℕ → ℕ → ℕ → List ℕ
header_with entry place flags size count =
    0x464c457f ∷ 0xee010101 ∷ 0xeeeeeeee ∷ 0xeeeeeeee ∷ 0x00f30002 ∷ 0xeeeeeeee ∷ entry ∷ place ∷ 0xeeeeeeee ∷ flags
    ∷ (0xeeee + 2 ^ 16 * size) ∷ (count + 2 ^ 16 * 0xeeee) ∷ 0xeeeeeeee ∷ []

-- the header of a file with so many program headers right behind it
abbrev pub header : ℕ → List ℕ
header count = header_with 0x1000 52 0 32 count

-- the words of a program header: type, place in the file, address, bytes in the file and in memory, flags
abbrev pub part : ℕ → ℕ → ℕ → ℕ → ℕ → ℕ → List ℕ
part kind offset address filesz memsz flags = kind ∷ offset ∷ address ∷ 0xeeeeeeee ∷ filesz ∷ memsz ∷ flags ∷ 0xeeeeeeee ∷ []

-- the header of a segment that is to be loaded and executed
abbrev pub load : ℕ → ℕ → ℕ → ℕ → List ℕ
load offset address filesz memsz = part 1 offset address filesz memsz 5
