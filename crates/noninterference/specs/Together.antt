-- What holds of two runs between any two phases (docs/theorems.md, "Noninterference").
use Rattle.std.specs.Prelude.{◌≡◌, ℕ, ◌+◌, ◌≤◌, length, None}
use Rattle.rv_types.specs.Memory.{Code}
use Rattle.machine_desc.specs.declared.Desc.{Desc}
use Rattle.machine_desc.specs.declared.SttModel.{SttModel}
use Rattle.window_model.specs.State.{Machine}
use Rattle.window_model.specs.Retire.{Retired}
use Rattle.window_model.specs.Cycle.{cycle}
use Rattle.committed_state.specs.Consistent.{ConsistentIn}
use Rattle.committed_state.specs.Guarded.{AllGuarded}
use Rattle.noninterference.specs.Alike.{Alike}
use Rattle.noninterference.specs.InStep.{InStepUpTo}

-- what each run keeps for itself, as Issue of cycle `now` finds it
pub record OwnFacts (now : ℕ) (d : Desc) (code : Code) (x : Machine) : Type 0 where
  pub consistent : ConsistentIn now d code x
  pub guarded : AllGuarded d.stt_model x.window
  pub fits : length x.window ≤ d.core_rob

-- what holds of two runs that go on together, as Issue of cycle `now` finds them: they show the same, and their retired
-- states run the path in step
pub record TogetherIn (now : ℕ) (d : Desc) (code : Code) (total : ℕ) (x x2 : Machine) : Type 0 where
  pub alike : Alike x x2
  pub facts : OwnFacts now d code x
  pub facts2 : OwnFacts now d code x2
  pub in_step : InStepUpTo d.stt_model code total x x2

-- two runs that go on together, between two cycles: the next Issue is that of the next cycle
abbrev pub Together : Desc → Code → ℕ → Machine → Machine → Type 0
Together d code total x x2 = TogetherIn (x.cycle + 1) d code total x x2

-- what Retire leaves: the same events, output of one length, and machines that show the same and go on in step
pub record RetiresAlike (model : SttModel) (code : Code) (total : ℕ) (r r2 : Retired) : Type 0 where
  pub alike : Alike r.machine r2.machine
  pub events : r.events ≡ r2.events
  pub piece : length r.piece ≡ length r2.piece
  pub in_step : r.machine.end ≡ None → InStepUpTo model code total r.machine r2.machine

-- what a cycle leaves: one row, and machines that show the same and go on together
pub record CyclesAlike (d : Desc) (code : Code) (total : ℕ) (x x2 : Machine) : Type 0 where
  pub alike : Alike (cycle d code x).machine (cycle d code x2).machine
  pub row : (cycle d code x).row ≡ (cycle d code x2).row
  pub together : (cycle d code x).machine.end ≡ None → Together d code total (cycle d code x).machine (cycle d code x2).machine
