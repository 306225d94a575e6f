-- Two images, with the description of the core that is run on both.
use Rattle.std.specs.Prelude.{◌≡◌, ◌↔◌, Bool, IsTrue, refl}
use Rattle.std.specs.Coded.{Coded, code_by, coded×}
use Rattle.elf_loader.specs.contracts.loading.Image as image
use Rattle.machine_desc.specs.contracts.Desc as desc
use Rattle.rv_types.specs.Isa.{start}
use Rattle.elf_loader.specs.inner.Code.{CodeText, word_at}
use Rattle.elf_loader.specs.declared.loading.Image.{Image}
use Rattle.isa_step.specs.State.{IsaState}
use Rattle.core_cycle.specs.Programmed.{Programmed}
use Rattle.window_model.specs.State.{opening}
use Rattle.machine_desc.specs.declared.Desc.{Desc}
use Rattle.run_inputs.specs.Loaded.{Fits}
use Rattle.pair_run.specs.declared.starting.Start.{Start}

-- a description, and the two images that run under it
pub record Images : Type 0 where
  pub desc : Desc
  pub one : Image
  pub two : Image

-- two images with their description are stored as the description and the two
abbrev pub images_code : Coded Images
images_code =
    code_by (Desc × (Image × Image)) (coded× desc.the_row.coded (coded× image.the_row.coded image.the_row.coded))
    (λ x. (x.desc, (x.one, x.two)))
    (λ p. record { desc = p.0; one = p.1.0; two = p.1.1 })
    (λ _. refl)

-- the image that begins so, with this code
abbrev pub image_at : Start → CodeText → Image
image_at s code = record { ram = s.ram; code = code; entry = s.entry }

-- where an image begins, and the instruction set's state there
abbrev pub start_of : Image → Start
start_of image = record { entry = image.entry; ram = image.ram }

abbrev pub path_of : Image → IsaState
path_of image = record { code = image.code; hart = start image.entry image.ram }

-- a core before its first cycle, with the image in its memory
abbrev pub CoreStarts : Desc → Image → Programmed → Type 0
CoreStarts d image core = core ≡ record { desc = d; code = image.code; machine = opening d image.entry image.ram }

-- the instruction set's state where an image begins
pub record PathStarts (image : Image) (state : IsaState) : Type 0 where
  pub code : state.code ≡ image.code
  pub hart : state.hart ≡ start image.entry image.ram

-- what a pair holds: both images fit the description; two cores and the path stand at their beginnings
pub record Opened (d : Desc) (one two : Start) (same_code : Bool) (first second : Programmed) (path : IsaState) : Type 0 where
  pub fits : Fits d one.ram
  pub fits2 : Fits d two.ram
  pub code : IsTrue same_code ↔ (word_at second.code ≡ word_at first.code)
  pub first_is : CoreStarts d (image_at one first.code) first
  pub second_is : CoreStarts d (image_at two second.code) second
  pub path_is : PathStarts (image_at one first.code) path
