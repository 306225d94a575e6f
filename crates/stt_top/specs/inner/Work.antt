-- Beside Work.antt: what only clauses of the code and lemmas cite.
use Rattle.std.specs.Prelude.{◌≡◌, Result, Ok, Err}
use Rattle.run_inputs.specs.Loaded.{image_text}
use Rattle.run_inputs.specs.Loaded.{Fits}
use Rattle.tool_io.specs.Outside.{Told, Wrote, WrotePrefix}
use Rattle.stt_top.specs.declared.outcome.Ended.{Ended}
use Rattle.run_inputs.specs.declared.refusal.Refusal.{Refusal}
use Rattle.run_inputs.specs.declared.refusal.Refusal.TheVariants.{Write, Memory}
use Rattle.stt_top.specs.declared.task.Task.{Task}
use Rattle.stt_top.specs.declared.task.Task.TheVariants.{Isa, Report, Trace, Pair}
use Rattle.stt_top.specs.Work.{TaskText, Work, ComesTo, isa_task, report_task, trace_task, pair_task}

-- the task that the code holds
abbrev pub task_text : Task → TaskText
task_text (Isa image steps) = isa_task (image_text image) steps
task_text (Report read cycles) = report_task read.desc (image_text read.image) cycles
task_text (Trace read cycles) = trace_task read.desc (image_text read.image) cycles
task_text (Pair d one two cycles) = pair_task d (image_text one) (image_text two) cycles

-- the machine's images lie in the memory of its description
abbrev pub InMemory : TaskText → Type 0
InMemory (isa_task image steps) = Unit {0}
InMemory (report_task d image cycles) = Fits d image.ram
InMemory (trace_task d image cycles) = Fits d image.ram
InMemory (pair_task d one two cycles) = Fits d one.ram × Fits d two.ram

-- how a task ends: with its whole text, with a part of it where the sink failed, or with nothing where memory was
-- wanting
abbrev pub Performs : TaskText → Told → Told → Result Ended Refusal → Type 0
Performs task out out' (Ok ended) = (work : Work) × ComesTo task work × Wrote work.text out out' × (ended ≡ work.ended)
Performs task out out' (Err Write) = (work : Work) × ComesTo task work × WrotePrefix work.text out out'
Performs task out out' (Err Memory) = out' ≡ out
Performs task out out' (Err refusal) = ⊥
