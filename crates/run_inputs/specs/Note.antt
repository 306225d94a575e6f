-- The line that a refusal writes to the note (docs/formats.md, "Notes").
use Rattle.std.specs.Prelude.{◌≡◌, ◌⊎◌, ℕ, nat_lt, if◌then◌else◌, List, ◌++◌, map, Result, Ok, Err, codes, decimal}
use Rattle.std.specs.Fmt.{signed_decimal}
use Rattle.elf_loader.specs.declared.faults.ElfFault.{ElfFault}
use Rattle.elf_loader.specs.declared.faults.ElfFault.TheVariants as elf
use Rattle.machine_desc.specs.Table.{key_text, subject_text}
use Rattle.machine_desc.specs.declared.fault.DescFault.{DescFault}
use Rattle.machine_desc.specs.declared.fault.DescFault.TheVariants as desc
use Rattle.tool_io.specs.Outside.{Told, Wrote, WrotePrefix}
use Rattle.run_inputs.specs.declared.refusal.Which.{Which}
use Rattle.run_inputs.specs.declared.refusal.Which.TheVariants.{First, Second}
use Rattle.run_inputs.specs.declared.refusal.Refusal.{Refusal}
use Rattle.run_inputs.specs.declared.refusal.Refusal.TheVariants.{Words, ReadDescription, DescriptionTooLong, Description, ReadImage, ImageTooLong, Image, Write, Memory}

-- a text, and then a number in decimal
abbrev pub numbered : List ℕ → ℕ → List ℕ
numbered text n = text ++ decimal n

-- the fault of an image: its number, and the numbers that tell of it
abbrev pub image_fault : ElfFault → List ℕ
image_fault (elf.Short need have) = codes "E1 " ++ decimal need ++ codes " " ++ decimal have
image_fault elf.Magic = codes "E2"
image_fault (elf.Class v) = numbered (codes "E3 ") v
image_fault (elf.Data v) = numbered (codes "E4 ") v
image_fault (elf.Version v) = numbered (codes "E5 ") v
image_fault (elf.FileType v) = numbered (codes "E6 ") v
image_fault (elf.Machine v) = numbered (codes "E7 ") v
image_fault (elf.Compressed flags) = numbered (codes "E8 ") flags
image_fault (elf.EntrySize v) = numbered (codes "E9 ") v
image_fault (elf.TableOutside end have) = codes "E10 " ++ decimal end ++ codes " " ++ decimal have
image_fault (elf.Interp i) = numbered (codes "E11 ") i
image_fault (elf.SegmentSize i) = numbered (codes "E12 ") i
image_fault (elf.FileOutside i) = numbered (codes "E13 ") i
image_fault (elf.RamOutside i) = numbered (codes "E14 ") i
image_fault elf.NoMemory = codes "E15"

-- a byte as it is printed: one below 32 as a question mark
abbrev pub printable : ℕ → ℕ
printable b = if nat_lt b 32 then 63 else b

-- a name as it is printed
abbrev pub printed : List ℕ → List ℕ
printed name = map printable name

-- the fault of a description: its number, the key or name that it is of, and the value
abbrev pub description_fault : DescFault → List ℕ
description_fault desc.Syntax = codes "K1"
description_fault (desc.Unknown name) = codes "K2 " ++ printed name
description_fault (desc.Missing key) = codes "K3 " ++ key_text key
description_fault (desc.Kind subject) = codes "K4 " ++ subject_text subject
description_fault (desc.Version value) = codes "K5 version " ++ signed_decimal value
description_fault (desc.Range key value) = codes "K5 " ++ key_text key ++ codes " " ++ signed_decimal value
description_fault (desc.Shape key) = codes "K6 " ++ key_text key
description_fault desc.NoMemory = codes "K7"

-- the word of each image
abbrev pub image_word : Which → List ℕ
image_word First = codes "image"
image_word Second = codes "image2"

abbrev pub refusal_words : Refusal → List ℕ
refusal_words Words = codes "words"
refusal_words ReadDescription = codes "read description"
refusal_words DescriptionTooLong = codes "description too long"
refusal_words (Description fault) = codes "description " ++ description_fault fault
refusal_words (ReadImage which) = codes "read " ++ image_word which
refusal_words (ImageTooLong which) = image_word which ++ codes " too long"
refusal_words (Image which fault) = image_word which ++ codes " " ++ image_fault fault
refusal_words Write = codes "write"
refusal_words Memory = codes "memory"

-- the line of a refusal
unfoldable pub note_line : Refusal → List ℕ
note_line refusal = refusal_words refusal ++ codes "\n"

-- the note gets the line of a refusal, all of it or, where it fails, a part
abbrev pub Tells : Refusal → Told → Told → Type 0
Tells refusal old new = Wrote (note_line refusal) old new ⊎ WrotePrefix (note_line refusal) old new

-- the note gets the line of a refusal, and nothing where there is none
abbrev pub Notes : {T : Type 0} → Result T Refusal → Told → Told → Type 0
Notes (Ok done) old new = new ≡ old
Notes (Err refusal) old new = Tells refusal old new
