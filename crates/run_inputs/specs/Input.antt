-- What the program reads, and why it may be refused (docs/theorems.md, "What is read"): a description, if one is named,
-- and then images in their order, each read and loaded before the next is read.
use Rattle.std.specs.Prelude.{◌≡◌, ◌⊎◌, ◌<◌, ◌^◌, ℕ, IsUtf8, Bool, false, List, [], ◌∷◌, take, slice_get, Option, Some, None, Ok, Err, All}
use Rattle.elf_loader.specs.Faults.{header_fault}
use Rattle.elf_loader.specs.Image.{ImageText, image_of}
use Rattle.elf_loader.specs.declared.faults.ElfFault.{ElfFault}
use Rattle.gen_image.specs.Generated.{generated_image}
use Rattle.machine_desc.specs.Description.{description_of, Describes}
use Rattle.machine_desc.specs.declared.Desc.{Desc}
use Rattle.machine_desc.specs.Questions.{takes_any_address}
use Rattle.machine_desc.specs.declared.fault.DescFault.{DescFault}
use Rattle.tool_io.specs.declared.Got.{Got}
use Rattle.tool_io.specs.declared.Got.TheVariants.{Bytes, TooLong}
use Rattle.tool_io.specs.Outside.{Shelf, IsGotOf, GetsTold, HasToCopy, SameCounts, NameFailed}
use Rattle.run_inputs.specs.Refused.{place_of}
use Rattle.run_inputs.specs.declared.refusal.Refusal.{Refusal}
use Rattle.run_inputs.specs.declared.refusal.Refusal.TheVariants.{ReadDescription, DescriptionTooLong, Description, ReadImage, ImageTooLong, Image as NoImage, Memory}

-- the most bytes of a description, and of an image (docs/formats.md, "Words")
abbrev pub description_max : ℕ
description_max = 65536

abbrev pub image_max : ℕ
image_max = 33554432

-- ---- What is known of the files

-- what is got of the file of a name, of which there are to be at most so many bytes: those, or that there are more
abbrev pub Known : Type 1
Known = List ℕ → ℕ → Got → Type 0

-- a shelf may give this: all that it tells of the file agrees with it
abbrev pub MayGive : Shelf → Known
MayGive shelf name max got = GetsTold (shelf.content name) max got

-- a shelf gives this: it tells what the file holds
abbrev pub Gives : Shelf → Known
Gives shelf name max got = (content : List ℕ) × (shelf.content name ≡ Some content) × IsGotOf content max got

-- ---- The description of a run

-- a run has this description: none, or that which the file named holds, by what is known
abbrev pub HasDesc : Known → Option (List ℕ) → Option Desc → Type 0
HasDesc known None desc = desc ≡ None
HasDesc known (Some name) desc = (text : List ℕ) × (d : Desc) × known name description_max (Bytes text) × Describes text d × (desc ≡ Some d)

-- the description of this name has this fault
abbrev pub HasDescFault : Known → List ℕ → DescFault → Type 0
HasDescFault known name fault = (text : List ℕ) × known name description_max (Bytes text) × (description_of text ≡ Err fault)

-- a description is too long, or has a fault
abbrev pub IsFaultyDescription : Known → List ℕ → Type 0
IsFaultyDescription known name = known name description_max TooLong ⊎ ((fault : DescFault) × HasDescFault known name fault)

-- a description may need memory: to be copied, or to be read
abbrev pub DescriptionWants : Shelf → List ℕ → Type 0
DescriptionWants shelf name =
    HasToCopy (shelf.content name) description_max ⊎ ((text : List ℕ) × MayGive shelf name description_max (Bytes text) × IsUtf8 text)

-- why a description is refused
abbrev pub DescriptionRefused : List ℕ → Shelf → Shelf → Refusal → Type 0
DescriptionRefused name old new ReadDescription = NameFailed name old new
DescriptionRefused name old new DescriptionTooLong = MayGive old name description_max TooLong × SameCounts old new
DescriptionRefused name old new (Description fault) = HasDescFault (MayGive old) name fault × SameCounts old new
DescriptionRefused name old new Memory = DescriptionWants old name × SameCounts old new
DescriptionRefused name old new _ = ⊥

-- why the description of a run is refused, if it names one
abbrev pub NamedRefused : Option (List ℕ) → Shelf → Shelf → Refusal → Type 0
NamedRefused None old new refusal = ⊥
NamedRefused (Some name) old new refusal = DescriptionRefused name old new refusal

-- ---- An image of a run

-- where an image comes from: the file of this name, or a seed and a number of blocks that generate it
pub data ImageFrom : Type 0 where
  from_file : List ℕ → ImageFrom
  from_seed : ℕ → ℕ → ImageFrom

-- the bytes of an image: those that the file holds, by what is known, or those that are generated
abbrev pub HasBytes : Known → ImageFrom → List ℕ → Type 0
HasBytes known (from_file name) file = known name image_max (Bytes file)
HasBytes known (from_seed seed blocks) file = file ≡ generated_image seed blocks

-- where the memory of a run begins, and its size: those of its description, or without one 1 MiB from 0x00010000 on
-- (docs/formats.md, "Words")
abbrev pub base_of : Option Desc → ℕ
base_of None = 65536
base_of (Some d) = d.ram_base

abbrev pub size_of : Option Desc → ℕ
size_of None = 1048576
size_of (Some d) = d.ram_size

-- whether an access there may have any address: as the description says, and without one not
abbrev pub misaligned_of : Option Desc → Bool
misaligned_of None = false
misaligned_of (Some d) = takes_any_address d

-- the image that is got from a source is this one
pub record IsImage (known : Known) (desc : Option Desc) (from : ImageFrom) (image : ImageText) : Type 0 where
  pub file : List ℕ
  pub content : HasBytes known from file
  pub loads : image_of file (base_of desc) (size_of desc) (misaligned_of desc) ≡ Ok image

-- the image's file can't be read
abbrev pub FailsToRead : Shelf → Shelf → ImageFrom → Type 0
FailsToRead old new (from_file name) = NameFailed name old new
FailsToRead old new (from_seed seed blocks) = ⊥

-- the image's file has too many bytes; a generated image never has
abbrev pub HasTooMany : Known → ImageFrom → Type 0
HasTooMany known (from_file name) = known name image_max TooLong
HasTooMany known (from_seed seed blocks) = ⊥

-- the image's bytes have this fault, in the memory of this description
pub record HasFault (known : Known) (desc : Option Desc) (from : ImageFrom) (fault : ElfFault) : Type 0 where
  pub file : List ℕ
  pub content : HasBytes known from file
  pub refused : image_of file (base_of desc) (size_of desc) (misaligned_of desc) ≡ Err fault

-- the bytes of an image may need memory: those of a file to be copied, and others to be made
abbrev pub BytesWant : Shelf → ImageFrom → Type 0
BytesWant shelf (from_file name) = HasToCopy (shelf.content name) image_max
BytesWant shelf (from_seed seed blocks) = Unit {0}

-- an image may need memory: for its bytes, or, where their headers have no fault, to be loaded
abbrev pub ImageWants : Shelf → ImageFrom → Type 0
ImageWants shelf from = BytesWant shelf from ⊎ ((file : List ℕ) × HasBytes (MayGive shelf) from file × (header_fault file ≡ None))

-- an image is too long, or has a fault
abbrev pub IsFaultyImage : Known → Option Desc → ImageFrom → Type 0
IsFaultyImage known desc from = HasTooMany known from ⊎ ((fault : ElfFault) × HasFault known desc from fault)

-- an image's memory holds bytes
abbrev pub HoldsBytes : ImageText → Type 0
HoldsBytes image = All (λ b. b < 2 ^ 8) image.ram.bytes

-- ---- One after the other

-- at each of these places there is an image
abbrev pub AreImages : Known → Option Desc → List ImageFrom → List ImageText → Type 0
AreImages known desc [] [] = Unit {0}
AreImages known desc (from ∷ rest) (image ∷ images) = IsImage known desc from image × AreImages known desc rest images
AreImages known desc [] (image ∷ images) = ⊥
AreImages known desc (from ∷ rest) [] = ⊥

-- a description and images were read, in memories that hold bytes, and no count of the files rose
pub record IsRead (old new : Shelf) (name : Option (List ℕ)) (sources : List ImageFrom) (desc : Option Desc) (images : List ImageText) : Type 0 where
  pub described : HasDesc (MayGive old) name desc
  pub are_images : AreImages (MayGive old) desc sources images
  pub hold_bytes : All HoldsBytes images
  pub counts : SameCounts old new

-- the image at a place is refused for this cause; the description and the images before it aren't
pub record RefusedAt (old : Shelf) (name : Option (List ℕ)) (sources : List ImageFrom) (place : ℕ) (Cause : Option Desc → ImageFrom → Type 0) : Type 0 where
  pub desc : Option Desc
  pub described : HasDesc (MayGive old) name desc
  pub earlier : List ImageText
  pub are_images : AreImages (MayGive old) desc (take place sources) earlier
  pub from : ImageFrom
  pub there : slice_get sources place ≡ Some from
  pub cause : Cause desc from

-- what is read may need memory: the description, or an image behind a description and images without fault
abbrev pub InputsWant : Option (List ℕ) → List ImageFrom → Shelf → Type 0
InputsWant name sources old =
    ((n : List ℕ) × (name ≡ Some n) × DescriptionWants old n) ⊎ ((place : ℕ) × RefusedAt old name sources place (λ desc from. ImageWants old from))

-- why reading is refused: for the description before any image, and for an image before any behind it; and memory may
-- be wanting for what needs it alone
abbrev pub Refuses : Option (List ℕ) → List ImageFrom → Shelf → Shelf → Refusal → Type 0
Refuses name sources old new (ReadImage which) = RefusedAt old name sources (place_of which) (λ desc from. FailsToRead old new from)
Refuses name sources old new (ImageTooLong which) = RefusedAt old name sources (place_of which) (λ desc from. HasTooMany (MayGive old) from) × SameCounts old new
Refuses name sources old new (NoImage which fault) = RefusedAt old name sources (place_of which) (λ desc from. HasFault (MayGive old) desc from fault) × SameCounts old new
Refuses name sources old new Memory = InputsWant name sources old × SameCounts old new
Refuses name sources old new refusal = NamedRefused name old new refusal
