-- Beside Input.antt: what only clauses of the code and lemmas cite.
use Rattle.std.specs.Prelude.{◌≡◌, ℕ, IsUtf8, Bool, List, Option, None, Result, Err, MatchResult}
use Rattle.elf_loader.specs.Faults.{header_fault}
use Rattle.elf_loader.specs.Image.{image_of}
use Rattle.elf_loader.specs.declared.faults.ElfFault.{ElfFault}
use Rattle.elf_loader.specs.declared.faults.ElfFault.TheVariants as elf
use Rattle.elf_loader.specs.declared.loading.Image.{Image}
use Rattle.machine_desc.specs.Description.{description_of}
use Rattle.machine_desc.specs.declared.Desc.{Desc}
use Rattle.run_inputs.specs.Loaded.{image_text}
use Rattle.tool_io.specs.declared.Got.TheVariants.{TooLong}
use Rattle.tool_io.specs.Outside.{Shelf, HasToCopy, SameCounts, NameFailed}
use Rattle.run_inputs.specs.declared.sources.ImageSource.{ImageSource}
use Rattle.run_inputs.specs.declared.sources.ImageSource.TheVariants.{File, Seed}
use Rattle.run_inputs.specs.declared.reading.Unread.{Unread}
use Rattle.run_inputs.specs.declared.reading.Unread.TheVariants.{Failed as ReadFailed, TooLong as TooMany, NoMemory}
use Rattle.run_inputs.specs.declared.refusal.Which.{Which}
use Rattle.run_inputs.specs.declared.refusal.Refusal.{Refusal}
use Rattle.run_inputs.specs.declared.refusal.Refusal.TheVariants.{Description, ReadImage, ImageTooLong, Image as NoImage, Memory}
use Rattle.run_inputs.specs.Input.{MayGive, HasDesc, NamedRefused, ImageFrom, HasBytes, BytesWant, ImageWants, IsImage, FailsToRead, HasTooMany, HasFault, from_file, from_seed}

-- why a file of at most so many bytes isn't read; `old` and `new` are what the files tell before and after
abbrev pub UnreadBy : List ℕ → ℕ → Shelf → Shelf → Unread → Type 0
UnreadBy name max old new ReadFailed = NameFailed name old new
UnreadBy name max old new TooMany = MayGive old name max TooLong × SameCounts old new
UnreadBy name max old new NoMemory = HasToCopy (old.content name) max × SameCounts old new

-- why a text is refused as a description: memory may be wanting for what is UTF-8 alone
abbrev pub TextRefused : List ℕ → Refusal → Type 0
TextRefused text (Description fault) = description_of text ≡ Err fault
TextRefused text Memory = IsUtf8 text
TextRefused text _ = ⊥

-- the description of a run is read, if it names one, or refused
abbrev pub ReadsDesc : Option (List ℕ) → Shelf → Shelf → Result (Option Desc) Refusal → Type 0
ReadsDesc name old new result = MatchResult result (λ desc. HasDesc (MayGive old) name desc × SameCounts old new) (NamedRefused name old new)

abbrev pub image_from : ImageSource → ImageFrom
image_from (File name) = from_file name.now
image_from (Seed seed blocks) = from_seed seed blocks.count

-- the refusal of a fault of loading: want of memory is one of its own
abbrev pub refusal_of : Which → ElfFault → Refusal
refusal_of which elf.NoMemory = Memory
refusal_of which fault = NoImage which fault

-- why a file is refused as an image: memory may be wanting where its headers have no fault alone
abbrev pub LoadRefused : Which → List ℕ → ℕ → ℕ → Bool → Refusal → Type 0
LoadRefused which file base size misaligned (NoImage w fault) = (w ≡ which) × (image_of file base size misaligned ≡ Err fault)
LoadRefused which file base size misaligned Memory = header_fault file ≡ None
LoadRefused which file base size misaligned _ = ⊥

-- why there are no bytes of an image
abbrev pub BytesRefused : Which → ImageFrom → Shelf → Shelf → Refusal → Type 0
BytesRefused which from old new (ReadImage w) = (w ≡ which) × FailsToRead old new from
BytesRefused which from old new (ImageTooLong w) = (w ≡ which) × HasTooMany (MayGive old) from × SameCounts old new
BytesRefused which from old new Memory = BytesWant old from × SameCounts old new
BytesRefused which from old new _ = ⊥

-- the bytes of an image are got, or there are none
abbrev pub ReadsBytes : Which → ImageFrom → Shelf → Shelf → Result (List ℕ) Refusal → Type 0
ReadsBytes which from old new result =
    MatchResult result (λ file. HasBytes (MayGive old) from file × SameCounts old new) (BytesRefused which from old new)

-- why an image is refused
abbrev pub ImageRefused : Which → Option Desc → ImageFrom → Shelf → Shelf → Refusal → Type 0
ImageRefused which desc from old new (NoImage w fault) = (w ≡ which) × HasFault (MayGive old) desc from fault × SameCounts old new
ImageRefused which desc from old new Memory = ImageWants old from × SameCounts old new
ImageRefused which desc from old new refusal = BytesRefused which from old new refusal

-- an image is read and loaded, or refused
abbrev pub ReadsImage : Which → Option Desc → ImageFrom → Shelf → Shelf → Result Image Refusal → Type 0
ReadsImage which desc from old new result =
    MatchResult result (λ i. IsImage (MayGive old) desc from (image_text i) × SameCounts old new) (ImageRefused which desc from old new)
