-- Which line tells a refusal, and with which status the program ends (docs/formats.md, "Statuses" and "Notes").
use Rattle.std.proofs.Common.{◌≡◌, [], ◌∷◌, refl}
use Rattle.std.specs.Prelude.{Bool, true, ℕ, pos, negsuc, ◌&&◌, ◌==◌, codes}
use Rattle.std.specs.Fmt.{digits}
use lib.Count.{ones}
use Prim.Native.String.{String}
use Rattle.elf_loader.specs.declared.faults.ElfFault.{ElfFault}
use Rattle.elf_loader.specs.declared.faults.ElfFault.TheVariants as elf
use Rattle.machine_desc.specs.declared.fault.DescFault.{DescFault}
use Rattle.machine_desc.specs.declared.fault.DescFault.TheVariants as desc
use Rattle.machine_desc.specs.declared.fault.Subject.TheVariants as subject
use Rattle.machine_desc.specs.declared.keys.Section.TheVariants as section
use Rattle.machine_desc.specs.declared.keys.Key.TheVariants as key
use Rattle.run_inputs.specs.declared.refusal.Which.TheVariants.{First, Second}
use Rattle.run_inputs.specs.declared.refusal.Refusal.{Refusal}
use Rattle.run_inputs.specs.declared.refusal.Refusal.TheVariants as refusal
use Rattle.run_inputs.specs.Note.{note_line}
use Rattle.run_inputs.specs.Refused.{status_of}
use Rattle.worked_inputs.proofs.Tables.{all, is_text}

-- the refusal ends the program with this status, and this line tells it
abbrev told_by : ℕ → String → Refusal → Bool
told_by status line refusal = status_of refusal == status && is_text (note_line refusal) line

-- words that are no command, and texts that can't be written whole or have no memory; files that can't be read or are
-- too long
files : all (
    told_by 2 "words\n" refusal.Words ∷
    told_by 4 "description too long\n" refusal.DescriptionTooLong ∷
    told_by 5 "image too long\n" (refusal.ImageTooLong First) ∷
    told_by 5 "image2 too long\n" (refusal.ImageTooLong Second) ∷
    told_by 6 "read description\n" refusal.ReadDescription ∷
    told_by 6 "read image\n" (refusal.ReadImage First) ∷
    told_by 6 "read image2\n" (refusal.ReadImage Second) ∷
    told_by 7 "write\n" refusal.Write ∷
    told_by 8 "memory\n" refusal.Memory ∷
    []) ≡ true
unfolding note_line
files = refl

-- a description with a fault
abbrev of_description : String → DescFault → Bool
of_description line fault = told_by 4 line (refusal.Description fault)

-- each fault of a description with its key or name, and with the value that is out of range
descriptions : all (
    of_description "description K1\n" desc.Syntax ∷
    of_description "description K2 cores\n" (desc.Unknown (codes "cores")) ∷
    of_description "description K2 predictor.depend\n" (desc.Unknown (codes "predictor.depend")) ∷
    of_description "description K3 core.rob\n" (desc.Missing key.CoreRob) ∷
    of_description "description K3 stt.model\n" (desc.Missing key.SttModel) ∷
    of_description "description K4 version\n" (desc.Kind subject.Version) ∷
    of_description "description K4 cache\n" (desc.Kind (subject.Table section.Cache)) ∷
    of_description "description K4 stt.defence\n" (desc.Kind (subject.Key key.SttDefence)) ∷
    of_description "description K5 version 3\n" (desc.Version (pos 3)) ∷
    of_description "description K5 version -1\n" (desc.Version (negsuc 0)) ∷
    of_description "description K5 core.rob 193\n" (desc.Range key.CoreRob (pos 193)) ∷
    of_description "description K5 core.fetch_width 0\n" (desc.Range key.CoreFetchWidth (pos 0)) ∷
    of_description "description K5 ram.base -16\n" (desc.Range key.RamBase (negsuc 15)) ∷
    of_description "description K6 cache.miss_latency\n" (desc.Shape key.CacheMissLatency) ∷
    []) ≡ true
unfolding note_line digits ones
descriptions = refl

-- a byte of a name below 32 is printed as a question mark, and no other
names : all (
    of_description "description K2 a?b\n" (desc.Unknown (97 ∷ 10 ∷ 98 ∷ [])) ∷
    of_description "description K2 ??\n" (desc.Unknown (0 ∷ 31 ∷ [])) ∷
    of_description "description K2  !~\n" (desc.Unknown (32 ∷ 33 ∷ 126 ∷ [])) ∷
    of_description "description K2 \n" (desc.Unknown []) ∷
    []) ≡ true
unfolding note_line
names = refl

-- an image with a fault
abbrev of_image : String → ElfFault → Bool
of_image line fault = told_by 5 line (refusal.Image First fault)

-- each fault of an image with its numbers
images : all (
    of_image "image E1 52 51\n" (elf.Short 52 51) ∷
    of_image "image E2\n" elf.Magic ∷
    of_image "image E3 2\n" (elf.Class 2) ∷
    of_image "image E4 0\n" (elf.Data 0) ∷
    of_image "image E5 255\n" (elf.Version 255) ∷
    of_image "image E6 3\n" (elf.FileType 3) ∷
    of_image "image E7 62\n" (elf.Machine 62) ∷
    of_image "image E8 5\n" (elf.Compressed 5) ∷
    of_image "image E9 40\n" (elf.EntrySize 40) ∷
    of_image "image E10 116 84\n" (elf.TableOutside 116 84) ∷
    of_image "image E11 0\n" (elf.Interp 0) ∷
    of_image "image E12 1\n" (elf.SegmentSize 1) ∷
    of_image "image E13 20\n" (elf.FileOutside 20) ∷
    of_image "image E14 7\n" (elf.RamOutside 7) ∷
    []) ≡ true
unfolding note_line digits ones
images = refl

-- the second image of two
abbrev of_second : String → ElfFault → Bool
of_second line fault = told_by 5 line (refusal.Image Second fault)

second_images : all (
    of_second "image2 E1 52 0\n" (elf.Short 52 0) ∷
    of_second "image2 E2\n" elf.Magic ∷
    of_second "image2 E8 1\n" (elf.Compressed 1) ∷
    of_second "image2 E10 84 52\n" (elf.TableOutside 84 52) ∷
    of_second "image2 E14 10\n" (elf.RamOutside 10) ∷
    []) ≡ true
unfolding note_line digits ones
second_images = refl
