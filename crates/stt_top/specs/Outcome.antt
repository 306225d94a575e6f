-- How the program ends, and its status (docs/formats.md, "Statuses").
use Rattle.std.specs.Prelude.{ℕ, Option, Some, None, Result, Ok, Err}
use Rattle.rv_types.specs.declared.End.{End}
use Rattle.rv_types.specs.declared.End.TheVariants as end
use Rattle.pair_run.specs.declared.answer.Differ.{Differ}
use Rattle.pair_run.specs.declared.answer.Differ.TheVariants as differ
use Rattle.run_inputs.specs.Refused.{status_of as refusal_status}
use Rattle.run_inputs.specs.declared.refusal.Refusal.{Refusal}
use Rattle.stt_top.specs.declared.outcome.Ended.{Ended}
use Rattle.stt_top.specs.declared.outcome.Ended.TheVariants.{Exit, Trap, Budget, Alike, Unlike}

-- how a run that ends in this way, or not at all, counts
abbrev pub ended_of : Option End → Ended
ended_of (Some (end.Exit value)) = Exit
ended_of (Some (end.Trap cause pc)) = Trap
ended_of None = Budget

-- how two runs that differ so count
abbrev pub compared_of : Differ → Ended
compared_of differ.Same = Alike
compared_of (differ.Cycle k) = Unlike
compared_of differ.End = Unlike

-- the status of each outcome
abbrev pub status_of : Result Ended Refusal → ℕ
status_of (Ok Exit) = 0
status_of (Ok Alike) = 0
status_of (Ok Trap) = 1
status_of (Ok Unlike) = 1
status_of (Ok Budget) = 3
status_of (Err refusal) = refusal_status refusal
