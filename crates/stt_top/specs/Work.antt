-- What the commands ask for, and what that comes to: a text, and how it ends.
use Rattle.std.specs.Prelude.{◌≡◌, ℕ, List, [], ◌∷◌, Option, Some, None}
use Rattle.rv_types.specs.Isa.{Run, isa, start}
use Rattle.elf_loader.specs.Image.{ImageText}
use Rattle.machine_desc.specs.declared.Desc.{Desc}
use Rattle.pair_run.specs.Answer.{Answers}
use Rattle.pair_run.specs.Starts.{trace_of}
use Rattle.pair_run.specs.declared.answer.PairAnswer.{PairAnswer}
use Rattle.pair_run.specs.Comparison.{comparison}
use Rattle.report_text.specs.Report.{report_text}
use Rattle.trace_text.specs.TraceText as trace
use Rattle.tool_words.specs.Words.{CommandText, isa_text, run_text, trace_text, bench_text, pair_text}
use Rattle.stt_top.specs.declared.outcome.Ended.{Ended}
use Rattle.stt_top.specs.Outcome.{ended_of, compared_of}
use Rattle.stt_top.specs.Clocking.{run_from, report_from}
use Rattle.stt_top.specs.Running.{opening_of}

-- ---- What a command asks for

-- a command with what it reads: the instruction set's run of an image as a report, the machine's as a report or as a
-- trace, or the machine's runs of two images, compared; and the most steps or cycles of each run
pub data TaskText : Type 0 where
  isa_task : ImageText → ℕ → TaskText
  report_task : Desc → ImageText → ℕ → TaskText
  trace_task : Desc → ImageText → ℕ → TaskText
  pair_task : Desc → ImageText → ImageText → ℕ → TaskText

-- what a command asks for with this description and these images: bench for what run asks for
abbrev pub task_of : CommandText → Option Desc → List ImageText → Option TaskText
task_of (isa_text name steps description) desc (image ∷ []) = Some (isa_task image steps)
task_of (run_text description name cycles) (Some d) (image ∷ []) = Some (report_task d image cycles)
task_of (trace_text description name cycles) (Some d) (image ∷ []) = Some (trace_task d image cycles)
task_of (bench_text description seed blocks cycles) (Some d) (image ∷ []) = Some (report_task d image cycles)
task_of (pair_text description name name2 cycles) (Some d) (one ∷ two ∷ []) = Some (pair_task d one two cycles)
task_of command desc images = None

-- ---- What it comes to

-- a text, and how it ends
pub record Work : Type 0 where
  pub text : List ℕ
  pub ended : Ended

-- the run of an image, of at most n steps
abbrev pub run_of : ImageText → ℕ → Run
run_of image n = isa image.code (start image.entry image.ram) n

-- the report of that run, which counts no cycles
abbrev pub isa_work : ImageText → ℕ → Work
isa_work image n = record { text = report_text image.ram (run_of image n) None; ended = ended_of (run_of image n).ended }

-- the report of the machine's run of at most n cycles
abbrev pub run_work : Desc → ImageText → ℕ → Work
run_work d image n = record {
  text = report_from image.ram d image.code n (opening_of d image);
  ended = ended_of (run_from d image.code n (opening_of d image)).ended;
}

-- the trace of that run
abbrev pub trace_work : Desc → ImageText → ℕ → Work
trace_work d image n = record { text = trace.trace_text (trace_of d image n); ended = ended_of (trace_of d image n).end }

-- the comparison of two such runs
abbrev pub pair_work : PairAnswer → Work
pair_work answer = record { text = comparison answer; ended = compared_of answer.first }

-- what a task comes to. It is a relation, since no definition computes whether two images have one code; but a task
-- comes to one work at most (`OneWork`)
abbrev pub ComesTo : TaskText → Work → Type 0
ComesTo (isa_task image steps) work = work ≡ isa_work image steps
ComesTo (report_task d image cycles) work = work ≡ run_work d image cycles
ComesTo (trace_task d image cycles) work = work ≡ trace_work d image cycles
ComesTo (pair_task d one two cycles) work = (answer : PairAnswer) × Answers d one two cycles answer × (work ≡ pair_work answer)

abbrev pub OneWork : Type 0
OneWork = (task : TaskText) (a b : Work) → ComesTo task a → ComesTo task b → a ≡ b
