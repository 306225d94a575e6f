-- What the path doesn't load leaves no mark in the trace (docs/theorems.md, "Noninterference"). Of a description whose
-- model doesn't protect nothing is said: under it wrong paths show what they load.
use Rattle.std.specs.Prelude.{◌≡◌, ℕ, ◌+◌, ◌≤◌, true, length, None}
use Rattle.rv_types.specs.Memory.{Code, Ram, Agree}
use Rattle.machine_desc.specs.declared.Desc.{Desc}
use Rattle.window_model.specs.Committed.{Aligned}
use Rattle.window_model.specs.Shape.{SameShape}
use Rattle.window_model.specs.State.{Machine}
use Rattle.window_model.specs.Taint.{protects}
use Rattle.window_model.specs.Fill.{fill, complete}
use Rattle.window_model.specs.Resolve.{resolve}
use Rattle.window_model.specs.Clear.{clear}
use Rattle.window_model.specs.Retire.{retire}
use Rattle.window_model.specs.Issue.{issue}
use Rattle.window_model.specs.Rename.{rename}
use Rattle.window_model.specs.Fetch.{fetch}
use Rattle.window_model.specs.Cycle.{cycle, trace}
use Rattle.window_model.specs.Path.{reads_of_trace}
use Rattle.committed_state.specs.Consistent.{ConsistentIn}
use Rattle.noninterference.specs.Alike.{Alike, TellsNothing}
use Rattle.noninterference.specs.Outcomes.{OutcomesAgree}
use Rattle.noninterference.specs.InStep.{InStepUpTo}
use Rattle.noninterference.specs.Together.{Together, TogetherIn, RetiresAlike, CyclesAlike}

-- under a model that protects, every memory that agrees on the bytes that the path loads gives one trace
abbrev pub Noninterference : Type 0
Noninterference = (d : Desc) (code : Code) (entry : ℕ) (m m2 : Ram) (n : ℕ) → protects d.stt_model ≡ true → Aligned code → Agree m m2 (reads_of_trace d code entry m n) →
    trace d code entry m2 n ≡ trace d code entry m n

-- ---- laws of each phase

-- Fill tells nothing of two machines that show the same
abbrev pub FillTellsNothing : Type 0
FillTellsNothing = (d : Desc) (x x2 : Machine) → Alike x x2 → TellsNothing (fill d x) (fill d x2)

-- Complete tells nothing of two machines that show the same
abbrev pub CompleteTellsNothing : Type 0
CompleteTellsNothing = (x x2 : Machine) → Alike x x2 → TellsNothing (complete x) (complete x2)

-- Resolve tells nothing of two machines that show the same, where the outcomes that may be looked at are equal
abbrev pub ResolveTellsNothing : Type 0
ResolveTellsNothing = (d : Desc) (x x2 : Machine) → Alike x x2 → OutcomesAgree d.stt_model x x2 → TellsNothing (resolve d x) (resolve d x2)

-- Clear tells nothing of two machines that show the same, where the outcomes that may be looked at are equal
abbrev pub ClearTellsNothing : Type 0
ClearTellsNothing = (d : Desc) (x x2 : Machine) → Alike x x2 → OutcomesAgree d.stt_model x x2 → TellsNothing (clear d x) (clear d x2)

-- Retire tells nothing of two machines that show the same, where the model protects and the path of both runs goes on
-- in step past the window
abbrev pub RetireTellsNothing : Type 0
RetireTellsNothing = (now : ℕ) (d : Desc) (code : Code) (total : ℕ) (x x2 : Machine) → protects d.stt_model ≡ true → Aligned code → x.end ≡ None → ConsistentIn now d code x → ConsistentIn now d code x2 → x.retired + length x.window ≤ total → Alike x x2 →
    InStepUpTo d.stt_model code total x x2 → RetiresAlike d.stt_model code total (retire d x) (retire d x2)

-- Issue tells nothing of two machines that show the same, where the outcomes that may be looked at are equal, and
-- memory lies in one place
abbrev pub IssueTellsNothing : Type 0
IssueTellsNothing = (now : ℕ) (d : Desc) (code : Code) (x x2 : Machine) → ConsistentIn now d code x → Alike x x2 → OutcomesAgree d.stt_model x x2 → SameShape x.ram x2.ram → TellsNothing (issue d x) (issue d x2)

-- Rename tells nothing of two machines that show the same
abbrev pub RenameTellsNothing : Type 0
RenameTellsNothing = (d : Desc) (x x2 : Machine) → Alike x x2 → TellsNothing (rename d x) (rename d x2)

-- Fetch tells nothing of two machines that show the same
abbrev pub FetchTellsNothing : Type 0
FetchTellsNothing = (d : Desc) (code : Code) (x x2 : Machine) → Alike x x2 → TellsNothing (fetch d code x) (fetch d code x2)

-- two runs that go on together under a model that protects have equal outcomes where they may be looked at
abbrev pub TogetherAgree : Type 0
TogetherAgree = (now : ℕ) (d : Desc) (code : Code) (total : ℕ) (x x2 : Machine) → protects d.stt_model ≡ true → Aligned code → x.retired + d.core_rob ≤ total → TogetherIn now d code total x x2 → OutcomesAgree d.stt_model x x2

-- a cycle keeps two runs together that go on so under a model that protects, with one row
abbrev pub CycleTellsNothing : Type 0
CycleTellsNothing = (d : Desc) (code : Code) (total : ℕ) (x x2 : Machine) → protects d.stt_model ≡ true → Aligned code → x.end ≡ None → Together d code total x x2 → (cycle d code x).machine.retired + d.core_rob ≤ total →
    CyclesAlike d code total x x2
