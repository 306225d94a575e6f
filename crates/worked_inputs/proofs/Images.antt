-- Why an image is refused: each fault, its limits, and which of two is told (docs/formats.md, "Faults of images").
use Rattle.std.proofs.Common.{◌≡◌, List, [], ◌∷◌, Ok, Err, refl}
use Rattle.std.specs.Prelude.{Bool, true, false, ℕ, ◌++◌, take, slice_set, Result}
use Rattle.std.specs.Fmt.{digits}
use Prim.Native.String.{String}
use Rattle.rv_types.specs.Memory.{zeros}
use Rattle.elf_loader.specs.declared.faults.ElfFault.{ElfFault}
use Rattle.elf_loader.specs.Fields.{half, word, has_magic}
use Rattle.elf_loader.specs.Faults.{header_fault}
use Rattle.elf_loader.specs.Image.{ImageText, segment_at, ram_fault, ram_after, code_of, image_of}
use Rattle.run_inputs.specs.Note.{image_fault}
use Rattle.worked_inputs.proofs.Tables.{all, is_text}
use Rattle.worked_inputs.proofs.Files.{bytes_of, header_with, header, part, load}

-- what is told of an image: its fault, or nothing where it is loaded
abbrev told : Result ImageText ElfFault → List ℕ
told (Ok image) = []
told (Err fault) = image_fault fault

-- this is told of these bytes in a memory of 16 bytes from 0x1000 on, of the file of these words
abbrev tells_bytes : List ℕ → String → Bool
tells_bytes file fault = is_text (told (image_of file 0x1000 16 false)) fault

abbrev tells : List ℕ → String → Bool
tells words fault = tells_bytes (bytes_of words) fault

-- the file is loaded
abbrev loads : List ℕ → Bool
loads words = tells words ""

-- a header, and that of one segment of two words, which stand behind it: 92 bytes
abbrev small : List ℕ
small = header 1 ++ load 84 0x1000 8 8 ++ 1 ∷ 2 ∷ []

-- the small file with another word in this place, another byte
abbrev with : ℕ → ℕ → List ℕ
with place word = slice_set small place word

abbrev tells_with : ℕ → ℕ → String → Bool
tells_with place byte fault = tells_bytes (slice_set (bytes_of small) place byte) fault

-- a header has 52 bytes, and a file without program headers needs no more
sizes : all (
    loads small ∷
    tells_bytes [] "E1 52 0" ∷
    tells_bytes (take 51 (bytes_of small)) "E1 52 51" ∷
    tells_bytes (take 52 (bytes_of small)) "E10 84 52" ∷
    loads (header 0) ∷
    []) ≡ true
unfolding image_of header_fault half word has_magic segment_at ram_fault ram_after code_of zeros digits
sizes = refl

-- what the bytes of the header must be
fields : all (
    tells_with 0 0x7e "E2" ∷
    tells_with 1 0x65 "E2" ∷
    tells_with 2 0x6c "E2" ∷
    tells_with 3 0 "E2" ∷
    tells_with 4 0 "E3 0" ∷
    tells_with 4 2 "E3 2" ∷
    tells_with 5 0 "E4 0" ∷
    tells_with 5 2 "E4 2" ∷
    tells_with 6 0 "E5 0" ∷
    tells_with 6 2 "E5 2" ∷
    tells_with 16 1 "E6 1" ∷
    tells_with 16 3 "E6 3" ∷
    tells_with 17 1 "E6 258" ∷
    tells_with 18 0xf2 "E7 242" ∷
    tells_with 18 0xf4 "E7 244" ∷
    tells_with 19 1 "E7 499" ∷
    tells_with 36 1 "E8 1" ∷
    tells_with 36 3 "E8 3" ∷
    tells_with 36 0xfe "" ∷
    tells_with 39 0x81 "" ∷
    tells (header_with 0x1000 52 0xffffffff 32 1 ++ load 0 0x1000 0 0) "E8 4294967295" ∷
    tells_with 42 31 "E9 31" ∷
    tells_with 42 33 "E9 33" ∷
    tells_with 43 1 "E9 288" ∷
    loads (header_with 0x1000 52 0 31 0) ∷
    loads (header_with 0xffffffff 52 0 32 0) ∷
    []) ≡ true
unfolding image_of header_fault half word has_magic segment_at ram_fault ram_after code_of zeros digits
fields = refl

-- the program headers end within the file, if there are any; sums don't wrap
tables : all (
    loads (header_with 0x1000 56 0 32 1 ++ 0 ∷ part 0 0 0 0 0 0) ∷
    tells (header_with 0x1000 56 0 32 1 ++ part 0 0 0 0 0 0) "E10 88 84" ∷
    tells (header 2 ++ part 0 0 0 0 0 0) "E10 116 84" ∷
    tells (header_with 0x1000 0xfffffff0 0 32 1 ++ part 0 0 0 0 0 0) "E10 4294967312 84" ∷
    tells (header 257) "E10 8276 52" ∷
    loads (header_with 0x1000 0xffffffff 0 32 0) ∷
    loads (header_with 0x1000 0xffffffff 0 0 0) ∷
    []) ≡ true
unfolding image_of header_fault half word has_magic segment_at ram_fault ram_after code_of zeros digits
tables = refl

-- no program header asks for an interpreter; any type but that and a segment to be loaded is passed over
interpreters : all (
    tells (header 1 ++ part 3 0 0 0 0 0) "E11 0" ∷
    tells (header 3 ++ part 0 0 0 0 0 0 ++ part 2 0 0 0 0 0 ++ part 3 0 0 0 0 0) "E11 2" ∷
    loads (header 1 ++ part 0 0 0 0 0 0 ++ part 3 0 0 0 0 0) ∷
    loads (header 2 ++ part 2 1000 0 1000 0 7 ++ part 0x70000003 1000 0 1000 2000 5) ∷
    loads (header 1 ++ part 0x101 1000 0 1000 0 7) ∷
    tells (header 1 ++ part 0x103 0 0 0 0 0) "" ∷
    []) ≡ true
unfolding image_of header_fault half word has_magic segment_at ram_fault ram_after code_of zeros digits
interpreters = refl

-- a segment has at most as many bytes in the file as in memory
sizes_of_segments : all (
    tells (with 18 7) "E12 0" ∷
    loads (with 18 8) ∷
    loads (with 18 9) ∷
    tells (header 2 ++ load 0 0x1000 4 4 ++ load 0 0x1000 1 0) "E12 1" ∷
    loads (header 1 ++ load 0 0x1000 0 0) ∷
    []) ≡ true
unfolding image_of header_fault half word has_magic segment_at ram_fault ram_after code_of zeros digits
sizes_of_segments = refl

-- a segment's bytes end within the file, if it has any; sums don't wrap
ends_of_segments : all (
    loads (with 14 84) ∷
    tells (with 14 85) "E13 0" ∷
    tells (with 14 92) "E13 0" ∷
    tells (with 14 0xffffffff) "E13 0" ∷
    loads (header 1 ++ load 0xffffffff 0x1000 0 8) ∷
    loads (header 1 ++ load 84 0x1000 0 8) ∷
    loads (header 1 ++ load 83 0x1000 1 8) ∷
    tells (header 1 ++ load 84 0x1000 1 8) "E13 0" ∷
    tells (header 2 ++ load 0 0x1000 8 8 ++ load 112 0x1000 8 8) "E13 1" ∷
    []) ≡ true
unfolding image_of header_fault half word has_magic segment_at ram_fault ram_after code_of zeros digits
ends_of_segments = refl

-- a segment that takes memory lies in it; sums don't wrap
segments_in_memory : all (
    loads (with 15 0x1008) ∷
    tells (with 15 0x1009) "E14 0" ∷
    tells (with 15 0xfff) "E14 0" ∷
    tells (with 15 0x1010) "E14 0" ∷
    tells (with 15 0xfffffffc) "E14 0" ∷
    tells (with 15 0) "E14 0" ∷
    loads (with 18 16) ∷
    tells (with 18 17) "E14 0" ∷
    tells (with 18 0xffffffff) "E14 0" ∷
    loads (header 1 ++ load 0 0x100f 0 1) ∷
    tells (header 1 ++ load 0 0x1010 0 1) "E14 0" ∷
    loads (header 1 ++ load 0 0x1010 0 0) ∷
    loads (header 1 ++ load 0 3 0 0) ∷
    loads (header 1 ++ load 0xffffffff 0xffffffff 0 0) ∷
    tells (header 3 ++ load 0 0x1000 8 8 ++ part 2 0 0 8 8 5 ++ load 0 0xff8 8 8) "E14 2" ∷
    []) ≡ true
unfolding image_of header_fault half word has_magic segment_at ram_fault ram_after code_of zeros digits
segments_in_memory = refl

-- of two faults of the header the one above in the table is told
header_before_header : all (
    tells_bytes (0 ∷ []) "E1 52 1" ∷
    tells_bytes (slice_set (slice_set (bytes_of small) 0 0) 4 2) "E2" ∷
    tells_bytes (slice_set (slice_set (bytes_of small) 4 2) 5 2) "E3 2" ∷
    tells_bytes (slice_set (slice_set (bytes_of small) 5 2) 6 2) "E4 2" ∷
    tells_bytes (slice_set (slice_set (bytes_of small) 6 2) 16 1) "E5 2" ∷
    tells_bytes (slice_set (slice_set (bytes_of small) 16 1) 18 62) "E6 1" ∷
    tells_bytes (slice_set (slice_set (bytes_of small) 18 62) 36 1) "E7 62" ∷
    tells_bytes (slice_set (slice_set (bytes_of small) 36 1) 42 56) "E8 1" ∷
    tells (header_with 0x1000 52 0 56 2 ++ part 3 0 0 0 0 0) "E9 56" ∷
    tells (header 2 ++ part 3 0 0 0 0 0) "E10 116 84" ∷
    []) ≡ true
unfolding image_of header_fault half word has_magic segment_at ram_fault ram_after code_of zeros digits
header_before_header = refl

-- E11 to E13 are told header by header, and in this order at each; E14 comes behind all of them
segment_before_segment : all (
    tells (header 2 ++ load 1000 0x1000 8 8 ++ part 3 0 0 0 0 0) "E13 0" ∷
    tells (header 2 ++ load 0 0x1000 9 8 ++ part 3 0 0 0 0 0) "E12 0" ∷
    tells (header 2 ++ part 3 0 0 0 0 0 ++ load 0 0x1000 9 8) "E11 0" ∷
    tells (header 2 ++ load 1000 0x1000 8 8 ++ load 0 0x1000 9 8) "E13 0" ∷
    tells (header 1 ++ load 1000 0x1000 9 8) "E12 0" ∷
    tells (header 2 ++ load 0 0 8 8 ++ load 1000 0x1000 8 8) "E13 1" ∷
    tells (header 2 ++ load 0 0 8 8 ++ part 3 0 0 0 0 0) "E11 1" ∷
    tells (header 2 ++ load 0 0 8 8 ++ load 0 0x1000 9 8) "E12 1" ∷
    tells (header 2 ++ load 0 0x2000 8 8 ++ load 0 0 8 8) "E14 0" ∷
    []) ≡ true
unfolding image_of header_fault half word has_magic segment_at ram_fault ram_after code_of zeros digits
segment_before_segment = refl
