-- What may be relied on of a machine's run besides its text: what it has retired, how soon, and what it shows
-- (docs/theorems.md, "Committed state", "Progress", "Noninterference", "Constant time on the path").
use Rattle.std.specs.Prelude.{◌≡◌, ℕ, ◌+◌, ◌*◌, ◌<◌, ◌≤◌, List, [], true, Some, None, Ok, IsTrue}
use Rattle.rv_types.specs.Isa.{Run, start}
use Rattle.rv_types.specs.Memory.{Ram, Agree}
use Rattle.elf_loader.specs.Image.{ImageText, image_of}
use Rattle.machine_desc.specs.declared.Desc.{Desc}
use Rattle.machine_desc.specs.Questions.{takes_any_address}
use Rattle.machine_desc.specs.Ranges.{bound}
use Rattle.window_model.specs.Cycle.{at}
use Rattle.window_model.specs.Delay.{delays}
use Rattle.window_model.specs.Path.{path, reads_of_trace}
use Rattle.window_model.specs.Taint.{protects}
use Rattle.window_model.specs.Committed.{exit_of, TrapsNext}
use Rattle.constant_time.specs.Leaks.{LeakAlike}
use Rattle.report_text.specs.Report.{report_text}
use Rattle.trace_text.specs.TraceText as trace
use Rattle.tool_io.specs.Outside.{Told, Wrote}
use Rattle.pair_run.specs.Answer.{Answers}
use Rattle.pair_run.specs.Starts.{trace_of}
use Rattle.pair_run.specs.declared.answer.Differ.TheVariants.{Same}
use Rattle.pair_run.specs.declared.answer.PairAnswer.{PairAnswer}
use Rattle.pair_run.specs.Comparison.{comparison}
use Rattle.stt_top.specs.Work.{TaskText, isa_task, report_task, trace_task, pair_task, run_of}
use Rattle.stt_top.specs.Top.{Asks, Runs, IsRun}
use Rattle.run_inputs.specs.Told.{World}

-- ---- Committed state of a run

-- the instruction set's run of an image, of as many steps as the machine retires in n cycles
abbrev pub retired_run : Desc → ImageText → ℕ → Run
retired_run d image n = run_of image (trace_of d image n).retired

-- what is written is the report of that run: its registers, memory and output, and how the machine ended. An exit is
-- that run's own, and a trap is that of its next step
pub record Commits (d : Desc) (image : ImageText) (n : ℕ) (out out' : Told) : Type 0 where
  pub report : Wrote (report_text image.ram (record (retired_run d image n) { ended = (trace_of d image n).end }) (Some (trace_of d image n).cycles)) out out'
  pub all : (retired_run d image n).steps ≡ (trace_of d image n).retired
  pub exit : (retired_run d image n).ended ≡ exit_of (trace_of d image n).end
  pub trap : TrapsNext image.code (retired_run d image n).last (trace_of d image n).end

-- ---- Progress of a run

-- within every `bound d` cycles one more instruction retires, or the run ends; so of n cycles, a budget of m times
-- that, m retire, or the run ends before
pub record MovesOn (d : Desc) (image : ImageText) (n : ℕ) : Type 0 where
  pub one : (k : ℕ) → let state = at d image.code image.entry image.ram in
      (state (k + bound d)).end ≡ None → (state k).retired < (state (k + bound d)).retired
  pub many : (m : ℕ) → n ≡ m * bound d → (trace_of d image n).end ≡ None → m ≤ (trace_of d image n).retired

-- ---- Noninterference of two runs

-- the image with another memory
abbrev pub with_memory : ImageText → Ram → ImageText
with_memory image m = record image { ram = m }

-- where the model protects, what is written is the trace of the machine on every memory that agrees with the image's on
-- each byte that the path loads, in as many steps as the machine retires and the window may hold besides; and with the
-- defence `delay` on every memory of that shape with which the path leaks, in as many steps, what it leaks with the
-- image's, whatever it loads
pub record Hides (d : Desc) (image : ImageText) (n : ℕ) (out out' : Told) : Type 0 where
  pub agreeing : protects d.stt_model ≡ true → (m : Ram) → Agree image.ram m (reads_of_trace d image.code image.entry image.ram n) → Wrote (trace.trace_text (trace_of d (with_memory image m) n)) out out'
  pub leaking : protects d.stt_model ≡ true → delays d.stt_defence ≡ true → (m : Ram) → Agree image.ram m []
      → LeakAlike (path d.stt_model) image.code ((trace_of d image n).retired + d.core_rob) (start image.entry image.ram) (start image.entry m)
      → Wrote (trace.trace_text (trace_of d (with_memory image m) n)) out out'

-- the file is accepted under the description, and this is its image
abbrev pub IsImageOf : Desc → List ℕ → ImageText → Type 0
IsImageOf d file image = image_of file d.ram_base d.ram_size (takes_any_address d) ≡ Ok image

-- a file's image and any other with its entry and code, whose memories so agree, have one trace, where the model
-- protects
abbrev pub TracesAgree : Type 0
TracesAgree = (d : Desc) (file : List ℕ) (one two : ImageText) (n : ℕ) → protects d.stt_model ≡ true → IsImageOf d file one → two.entry ≡ one.entry
    → two.code ≡ one.code → Agree one.ram two.ram (reads_of_trace d one.code one.entry one.ram n) → trace.trace_text (trace_of d two n) ≡ trace.trace_text (trace_of d one n)

-- what is written is the answer on the runs of two images; and with the premise true it is that they are the same,
-- where the model protects
pub record Compares (d : Desc) (one two : ImageText) (n : ℕ) (out out' : Told) : Type 0 where
  pub answer : PairAnswer
  pub answers : Answers d one two n answer
  pub text : Wrote (comparison answer) out out'
  pub equal : protects d.stt_model ≡ true → IsTrue answer.premise → answer.first ≡ Same

-- ---- The program as a whole

-- what a command that asks for this keeps besides
abbrev pub Keeps : TaskText → Told → Told → Type 0
Keeps (isa_task image steps) out out' = Unit {0}
Keeps (report_task d image n) out out' = Commits d image n out out' × MovesOn d image n
Keeps (trace_task d image n) out out' = Hides d image n out out' × MovesOn d image n
Keeps (pair_task d one two n) out out' = Compares d one two n out out'

-- with the status of a text that is written whole the command keeps its promises
pub record Promises (words : List (List ℕ)) (old new : World) (status : ℕ) : Type 0 where
  pub kept : IsRun status → Asks words (λ command. (task : TaskText) × Runs command old.files new.files task × Keeps task old.out new.out)
