-- Beside Running.antt: what only clauses of the code and lemmas cite.
use Rattle.std.specs.Prelude.{◌≡◌, ℕ, List, Option, None, Result, MatchResult}
use Rattle.rv_types.specs.Isa.{Hart, Run, start}
use Rattle.rv_types.specs.Memory.{Code, Ram}
use Rattle.rv_types.specs.declared.End.{End}
use Rattle.elf_loader.specs.inner.Code.{word_at}
use Rattle.elf_loader.specs.Image.{ImageText}
use Rattle.isa_step.specs.State.{IsaState}
use Rattle.isa_step.specs.declared.stepped.Ran.{Ran}
use Rattle.machine_desc.specs.declared.Desc.{Desc}
use Rattle.window_model.specs.State.{Machine}
use Rattle.report_text.specs.Report.{piece_lines, report_text}
use Rattle.tool_io.specs.Outside.{Told, Wrote, WrotePrefix}
use Rattle.tool_io.specs.declared.Failed.{Failed}
use Rattle.stt_top.specs.declared.outcome.Ended.{Ended}
use Rattle.stt_top.specs.Outcome.{ended_of}
use Rattle.stt_top.specs.Running.{opening_of}

-- the instruction set's state where this image begins
pub record Begins (image : ImageText) (state : IsaState) (before : Ram) : Type 0 where
  pub code : word_at state.code ≡ image.code
  pub hart : state.hart ≡ start image.entry image.ram
  pub ram : before ≡ image.ram

-- a core of this description, code and state is the machine where this image begins
pub record Starts (image : ImageText) (desc d : Desc) (code : Code) (x : Machine) : Type 0 where
  pub desc_is : d ≡ desc
  pub code_is : code ≡ image.code
  pub machine_is : x ≡ opening_of desc image

-- a run came to this, and the lines of its output are written
pub record RanAs (run : Run) (hart : Hart) (taken : ℕ) (ended : Option End) (old new : Told) : Type 0 where
  pub lines : Wrote (piece_lines run.pieces) old new
  pub hart_is : hart ≡ run.last
  pub taken_is : taken ≡ run.steps
  pub ended_is : ended ≡ run.ended

-- the lines of a run's output are written, whole and with the state at its end, or in part
abbrev pub WritesOutput : Run → Hart → Told → Told → Result Ran Failed → Type 0
WritesOutput run hart old new result =
    MatchResult result (λ ran. RanAs run hart ran.taken ran.ended old new) (λ _. WrotePrefix (piece_lines run.pieces) old new)

-- the text of a run with this end is written, whole and with how the run ended, or in part
abbrev pub Tells : List ℕ → Option End → Told → Told → Result Ended Failed → Type 0
Tells text end old new result =
    MatchResult result (λ ended. Wrote text old new × (ended ≡ ended_of end)) (λ _. WrotePrefix text old new)

-- the report of a run of the instruction set, which counts no cycles, is written, whole and with how the run ended, or
-- in part
abbrev pub TellsRun : Ram → Run → Told → Told → Result Ended Failed → Type 0
TellsRun before run old new result = Tells (report_text before run None) run.ended old new result
