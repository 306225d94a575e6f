-- What it is that the written machine agrees with a trace that was written elsewhere.
use Rattle.std.specs.Prelude.{◌≡◌, ℕ, List, ◌++◌, flat_map, Ok, codes}
use Prim.Native.String.{String}
use Rattle.rv_types.specs.Word.{to_le}
use Rattle.machine_desc.specs.declared.Desc.{Desc}
use Rattle.machine_desc.specs.Questions.{takes_any_address}
use Rattle.machine_desc.specs.Description.{Describes}
use Rattle.elf_loader.specs.Image.{ImageText, image_of}
use Rattle.window_model.specs.Cycle.{trace}
use Rattle.trace_text.specs.TraceText.{trace_text}

-- a run: the text of a description, the words of an image's file, how many cycles at most, and the trace's text
pub record Run : Type 0 where
  pub description : List ℕ
  pub image : List ℕ
  pub cycles : ℕ
  pub trace : List ℕ

-- the text of these lines
abbrev pub lines : List String → List ℕ
lines = flat_map (λ line. codes line ++ codes "\n")

-- the description describes a machine, the image loads, and the trace of the written machine has this text
pub record Agrees (run : Run) : Type 0 where
  pub desc : Desc
  pub described : Describes run.description desc
  pub image : ImageText
  pub loaded : image_of (flat_map (to_le 4) run.image) desc.ram_base desc.ram_size (takes_any_address desc) ≡ Ok image
  pub traced : trace_text (trace desc image.code image.entry image.ram run.cycles) ≡ run.trace
