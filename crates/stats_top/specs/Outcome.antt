-- How the program ends, and its status (docs/formats.md, "Statuses").
use Rattle.std.specs.Prelude.{ℕ, Option, Some, None, Result, Ok, Err}
use Rattle.rv_types.specs.declared.End.{End}
use Rattle.rv_types.specs.declared.End.TheVariants.{Exit, Trap}
use Rattle.run_inputs.specs.Refused.{status_of as refusal_status}
use Rattle.run_inputs.specs.declared.refusal.Refusal.{Refusal}

-- the status of a run that ended so, or not within its budget
abbrev pub end_status : Option End → ℕ
end_status (Some (Exit value)) = 0
end_status (Some (Trap cause pc)) = 1
end_status None = 3

-- the status of each outcome
abbrev pub status_of : Result (Option End) Refusal → ℕ
status_of (Ok end) = end_status end
status_of (Err refusal) = refusal_status refusal
