-- Why no verdict is told, or not all of it: statuses and lines (docs/formats.md, "Statuses", "Notes").
use Rattle.std.specs.Prelude.{◌≡◌, ◌⊎◌, ℕ, List, ◌++◌, Result, Ok, Err, codes, decimal}
use Rattle.tool_io.specs.Outside.{Told, Wrote, WrotePrefix}
use Rattle.run_inputs.specs.Note.{note_line as refusal_line}
use Rattle.run_inputs.specs.Refused.{status_of as refusal_status}
use Rattle.secrets_top.specs.declared.ranges.RangeFault.{RangeFault}
use Rattle.secrets_top.specs.declared.ranges.RangeFault.TheVariants as fault
use Rattle.secrets_top.specs.declared.ranges.FaultyRange.{FaultyRange}
use Rattle.secrets_top.specs.declared.refusal.Unjudged.{Unjudged}
use Rattle.secrets_top.specs.declared.refusal.Unjudged.TheVariants.{Range, Refused}
use Rattle.secrets_top.specs.declared.verdict.Verdict.{Verdict}
use Rattle.secrets_top.specs.Verdict.{verdict_status}

-- the status of each outcome: a range that isn't accepted counts as wrong words
abbrev pub status_of : Result Verdict Unjudged → ℕ
status_of (Ok verdict) = verdict_status verdict
status_of (Err (Range faulty)) = 2
status_of (Err (Refused refusal)) = refusal_status refusal

-- the end of a range's line
abbrev pub fault_word : RangeFault → List ℕ
fault_word fault.Outside = codes " outside\n"
fault_word fault.Code = codes " code\n"

-- the line of a range: its number, and what is wrong with it
unfoldable pub range_line : FaultyRange → List ℕ
range_line faulty = codes "secret " ++ decimal faulty.number ++ fault_word faulty.fault

-- the line of each cause
abbrev pub note_line : Unjudged → List ℕ
note_line (Range faulty) = range_line faulty
note_line (Refused refusal) = refusal_line refusal

-- the note gets the line of a cause, all of it or, where it fails, a part; nothing else
abbrev pub Notes : Result Verdict Unjudged → Told → Told → Type 0
Notes (Ok verdict) old new = new ≡ old
Notes (Err cause) old new = Wrote (note_line cause) old new ⊎ WrotePrefix (note_line cause) old new
