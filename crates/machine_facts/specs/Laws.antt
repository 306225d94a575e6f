-- What the phases, a cycle and every run keep (docs/theorems.md, "What every state keeps").
use Rattle.std.specs.Prelude.{◌≡◌, ℕ, ◌+◌, ◌-◌, ◌^◌, ◌≤◌, length}
use Rattle.std.specs.List.{AllByRecursion as Each}
use Rattle.rv_types.specs.Memory.{Code, Ram}
use Rattle.rv_types.specs.Value.{div_time}
use Rattle.rv_types.specs.declared.Op.{Op}
use Rattle.rv_types.specs.declared.Op.TheVariants.{Divu}
use Rattle.machine_desc.specs.declared.Desc.{Desc}
use Rattle.machine_desc.specs.Ranges.{IsDesc}
use Rattle.window_model.specs.Shape.{SameShape}
use Rattle.window_model.specs.State.{Machine}
use Rattle.window_model.specs.Fill.{fill, complete}
use Rattle.window_model.specs.Resolve.{resolve}
use Rattle.window_model.specs.Clear.{clear}
use Rattle.window_model.specs.Retire.{retire}
use Rattle.window_model.specs.Cycle.{at, cycle}
use Rattle.machine_facts.specs.Sized.{Sized}
use Rattle.machine_facts.specs.Timely.{Timely, Counted, WaitsOrDone, longest_division}
use Rattle.machine_facts.specs.Checkpoints.{FitCheckpoints}

-- every state of a run has its sizes
abbrev pub StatesAreSized : Type 0
StatesAreSized = (d : Desc) (code : Code) (entry : ℕ) (ram : Ram) (k : ℕ) → IsDesc d → Sized d (at d code entry ram k)

-- in every state of a run serials rise, all that is under way ends soon, and fetching stops only for a reason
abbrev pub StatesAreTimely : Type 0
StatesAreTimely = (d : Desc) (code : Code) (entry : ℕ) (ram : Ram) (k : ℕ) → IsDesc d → Timely d (at d code entry ram k)

-- no division takes longer than the longest, and one takes as long
abbrev pub OneDivisionIsLongest : Type 0
OneDivisionIsLongest = ((op : Op) (a : ℕ) → div_time op a ≤ longest_division) × (div_time Divu (2 ^ 32 - 1) ≡ longest_division)

-- in every state of a run history and stack are as large as the description says
abbrev pub StatesFitCheckpoints : Type 0
StatesFitCheckpoints = (d : Desc) (code : Code) (entry : ℕ) (ram : Ram) (k : ℕ) → FitCheckpoints d (at d code entry ram k)

-- from a state between two cycles on, a store takes one cycle to execute, so none is busy in what Issue finds
abbrev pub NoStoreIsBusy : Type 0
NoStoreIsBusy = (d : Desc) (x : Machine) → Timely d x →
    let done = (complete (fill d (record x { cycle = x.cycle + 1 })).machine).machine in
    Each WaitsOrDone (retire d (clear d (resolve d done).machine).machine).machine.window

-- in every state of a run at most four instructions a cycle were renamed, and at most four retired
abbrev pub StatesAreCounted : Type 0
StatesAreCounted = (d : Desc) (code : Code) (entry : ℕ) (ram : Ram) (k : ℕ) → IsDesc d → Counted (at d code entry ram k)

-- no cycle has more than 232 events (docs/machine.md, "Events")
abbrev pub RowsAreShort : Type 0
RowsAreShort = (d : Desc) (code : Code) (x : Machine) → IsDesc d → Sized d x → length (cycle d code x).row.events ≤ 232

-- Retire leaves memory where it is
abbrev pub RetireKeepsShape : Type 0
RetireKeepsShape = (d : Desc) (x : Machine) → Sized d x → SameShape x.ram (retire d x).machine.ram

-- a cycle leaves memory where it is
abbrev pub CycleKeepsShape : Type 0
CycleKeepsShape = (d : Desc) (code : Code) (x : Machine) → IsDesc d → Sized d x → SameShape x.ram (cycle d code x).machine.ram

-- in every state of a run memory is where it was at first
abbrev pub StatesKeepShape : Type 0
StatesKeepShape = (d : Desc) (code : Code) (entry : ℕ) (ram : Ram) (k : ℕ) → IsDesc d → SameShape ram (at d code entry ram k).ram
