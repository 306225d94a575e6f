-- A run of the instruction set with marks beside it (docs/theorems.md, "Constant time on the path").
use Rattle.std.specs.Prelude.{Option, Some, None, if◌then◌else◌}
use Rattle.rv_types.specs.Isa.{Hart}
use Rattle.rv_types.specs.declared.Kind.{Kind}
use Rattle.elf_loader.specs.inner.Code.{CodeText, word_at}
use Rattle.window_model.specs.Fetch.{kind_at}
use Rattle.secret_marks.specs.declared.PublicStreams.{PublicStreams}
use Rattle.constant_time.specs.PathMarks.{PathMarks, shows}

-- the words that may be fetched, the state, the marks beside it, and which streams are public
pub record MarkedState : Type 0 where
  pub code : CodeText
  pub hart : Hart
  pub marks : PathMarks
  pub public : PublicStreams

-- the kind of the next instruction, if something marked shows in its step
abbrev pub next_shown : MarkedState → Option Kind
next_shown s = if shows (word_at s.code) s.hart s.marks then Some (kind_at (word_at s.code s.hart.pc)) else None
