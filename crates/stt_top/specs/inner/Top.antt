-- Beside Top.antt: what only clauses of the code and lemmas cite.
use Rattle.std.specs.Prelude.{Result, MatchResult}
use Rattle.tool_io.specs.Outside.{Shelf}
use Rattle.tool_words.specs.Words.{CommandText}
use Rattle.run_inputs.specs.declared.refusal.Refusal.{Refusal}
use Rattle.stt_top.specs.declared.task.Task.{Task}
use Rattle.stt_top.specs.inner.Work.{task_text}
use Rattle.stt_top.specs.Top.{Runs, CommandRefused}

-- what a command needs is read, and makes its task, or the command is refused
abbrev pub ReadsTask : CommandText → Shelf → Shelf → Result Task Refusal → Type 0
ReadsTask command old new result = MatchResult result (λ task. Runs command old new (task_text task)) (CommandRefused command old new)
