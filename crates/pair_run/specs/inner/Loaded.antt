-- The bytes that a path loads, in two memories.
use Rattle.std.specs.Prelude.{◌≡◌, ℕ, ◌-◌, List, Bool, true, false, IsTrue, Option, Some, None, slice_index}
use Rattle.rv_types.specs.Memory.{Code, Ram, Agree}
use Rattle.rv_types.specs.Isa.{start}
use Rattle.rv_types.specs.Path.{reads}
use Rattle.window_model.specs.Path.{path}
use Rattle.rv_types.specs.declared.Cause.{Cause}
use Rattle.machine_desc.specs.declared.SttModel.{SttModel}
use Rattle.machine_desc.specs.declared.SttModel.TheVariants.{Spectre, Futuristic, Off}
use Rattle.isa_step.specs.declared.stepped.Stepped.{Stepped}
use Rattle.pair_run.specs.declared.starting.Start.{Start}
use Rattle.isa_step.specs.declared.stepped.Stepped.TheVariants.{Next, Exit, Trap}

-- the memory's byte at an address is the one in these bytes, which begin at the memory's first address
abbrev pub SameByte : Ram → List ℕ → ℕ → Type 0
SameByte m bytes a = slice_index bytes (a - m.base) ≡ slice_index m.bytes (a - m.base)

-- whether a step that passes faults over ends the path: under the futuristic model the path ends with a fault
abbrev pub ends_path : SttModel → Stepped → Option Cause → Bool
ends_path Spectre Next passed = false
ends_path Futuristic Next None = false
ends_path Futuristic Next (Some cause) = true
ends_path Off Next passed = false
ends_path model (Exit v) passed = true
ends_path model (Trap cause) passed = true

-- two runs of one code begin at one entry, and their memories agree on each byte that a model's path through this code
-- loads in so many steps
pub record StartsAgree (model : SttModel) (same_code : Bool) (code : Code) (one two : Start) (steps : ℕ) : Type 0 where
  pub same : IsTrue same_code
  pub entry : two.entry ≡ one.entry
  pub agree : Agree one.ram two.ram (reads (path model) code (start one.entry one.ram) steps)
