-- What shows an operand waits until it is visible: what a defence has to keep for the constant-time contract
-- (docs/theorems.md, "Constant time on the path").
use Rattle.std.specs.Prelude.{◌≡◌, ℕ, zero, suc, true, List, [], None}
use Rattle.rv_types.specs.Memory.{Code}
use Rattle.machine_desc.specs.declared.Desc.{Desc}
use Rattle.window_model.specs.Along.{Along}
use Rattle.window_model.specs.Cycle.{before_retire, begins_cycle, cycle}
use Rattle.window_model.specs.Fill.{complete, fill}
use Rattle.window_model.specs.Resolve.{may_resolve}
use Rattle.window_model.specs.Retire.{retire}
use Rattle.window_model.specs.State.{Machine}
use Rattle.window_model.specs.Taint.{visible}
use Rattle.window_model.specs.declared.Entry.{Entry}
use Rattle.secret_marks.specs.Shows.{decides_as}

-- an entry whose operand tells, now or soon, an address or the time of a division is visible
abbrev pub WaitsToIssue : Desc → List Entry → Entry → Type 0
WaitsToIssue d before e = decides_as e.item.kind d before e ≡ true → visible d.stt_model before ≡ true

-- an entry that may be resolved is visible
abbrev pub WaitsToResolve : Desc → List Entry → Entry → Type 0
WaitsToResolve d before e = may_resolve d before e ≡ true → visible d.stt_model before ≡ true

-- in the next cycle what shows is visible: what Resolve finds, and what Issue does
pub record CycleWaits (d : Desc) (x : Machine) : Type 0 where
  pub resolves : Along (WaitsToResolve d) [] (complete (fill d (begins_cycle x)).machine).machine.window
  pub issues : Along (WaitsToIssue d) [] (retire d (before_retire d (begins_cycle x)).machine).machine.window

-- in each of the next n cycles what shows is visible, until the run ends
abbrev pub RunWaits : Desc → Code → ℕ → Machine → Type 0
RunWaits d code zero x = Unit {0}
RunWaits d code (suc n) x = x.end ≡ None → CycleWaits d x × RunWaits d code n (cycle d code x).machine
