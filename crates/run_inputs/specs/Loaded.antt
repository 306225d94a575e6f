-- An image in the memory of a run.
use Rattle.std.specs.Prelude.{◌≡◌, length}
use Rattle.rv_types.specs.Memory.{Ram}
use Rattle.elf_loader.specs.inner.Code.{word_at}
use Rattle.elf_loader.specs.Image.{ImageText}
use Rattle.elf_loader.specs.declared.loading.Image.{Image}
use Rattle.machine_desc.specs.declared.Desc.{Desc}

-- an image in memory, as definitions see it
abbrev pub image_text : Image → ImageText
image_text i = record { entry = i.entry; code = word_at i.code; ram = i.ram }

-- a memory is the one of a description
pub record Fits (d : Desc) (ram : Ram) : Type 0 where
  pub base : ram.base ≡ d.ram_base
  pub size : length ram.bytes ≡ d.ram_size
