-- One more instruction retires, or the run ends, within every `bound d` cycles (docs/theorems.md, "Progress").
use Rattle.std.specs.Prelude.{◌≡◌, ℕ, ◌+◌, ◌*◌, ◌<◌, ◌≤◌, true, None}
use Rattle.rv_types.specs.Memory.{Code, Ram}
use Rattle.machine_desc.specs.declared.Desc.{Desc}
use Rattle.machine_desc.specs.Ranges.{IsDesc, bound}
use Rattle.window_model.specs.State.{Machine}
use Rattle.window_model.specs.Cycle.{cycle, at}
use Rattle.machine_facts.specs.Sized.{Sized}
use Rattle.machine_facts.specs.Timely.{Timely}
use Rattle.progress.specs.Measure.{measure}

-- memory takes an access at an address that is no multiple of its width only where the description says that it may
abbrev pub Allows : Desc → Ram → Type 0
Allows d ram = ram.misaligned ≡ true → d.ram_misaligned ≡ 1

-- in every state of a run the measure is at most the bound
abbrev pub MeasureIsBounded : Type 0
MeasureIsBounded = (d : Desc) (code : Code) (entry : ℕ) (ram : Ram) (k : ℕ) → IsDesc d → measure d (at d code entry ram k) ≤ bound d

-- the measure falls in a cycle in which nothing retires and the run doesn't end
abbrev pub MeasureFalls : Type 0
MeasureFalls = (d : Desc) (code : Code) (x : Machine) → IsDesc d → Allows d x.ram → Sized d x → Timely d x →
    let y = (cycle d code x).machine in
    y.end ≡ None → y.retired ≡ x.retired → measure d y < measure d x

-- where the run hasn't ended, more has retired after `bound d` further cycles
abbrev pub RetiresWithinBound : Type 0
RetiresWithinBound = (d : Desc) (code : Code) (entry : ℕ) (ram : Ram) (k : ℕ) → IsDesc d → Allows d ram →
    (at d code entry ram (k + bound d)).end ≡ None → (at d code entry ram k).retired < (at d code entry ram (k + bound d)).retired

-- after n times `bound d` cycles at least n have retired, where the run hasn't ended
abbrev pub RetiresInBudget : Type 0
RetiresInBudget = (d : Desc) (code : Code) (entry : ℕ) (ram : Ram) (n : ℕ) → IsDesc d → Allows d ram →
    (at d code entry ram (n * bound d)).end ≡ None → n ≤ (at d code entry ram (n * bound d)).retired
