-- A cycle and a run keep serials, times and the reason why nothing is fetched.
use Rattle.std.proofs.Common.{ℕ, ◌+◌, refl}
use Rattle.rv_types.specs.Memory.{Code, Ram}
use Rattle.machine_desc.specs.declared.Desc.{Desc}
use Rattle.machine_desc.specs.Ranges.{IsDesc}
use Rattle.window_model.specs.State.{Machine, opening}
use Rattle.window_model.specs.Fill.{fill}
use Rattle.window_model.specs.Cycle.{cycle, at}
use Rattle.window_model.proofs.Walks.{completed_keep, run_keep}
use Rattle.machine_facts.specs.Sized.{Sized}
use Rattle.machine_facts.specs.Timely.{Timely}
use Rattle.machine_facts.proofs.SizedPhases.{sized_opening, sized_begin, sized_fill, sized_complete, sized_resolve, sized_issue, sized_rename, sized_fetch}
use Rattle.machine_facts.proofs.ClearPhases.{sized_clear, timely_clear}
use Rattle.machine_facts.proofs.SizedRetire.{sized_retire}
use Rattle.machine_facts.proofs.SizedRun.{sized_cycle}
use Rattle.machine_facts.proofs.TimelyPhases.{timely_opening, timely_begin, timely_fill, timely_complete, timely_resolve, timely_retire, timely_issue, timely_rename, timely_fetch}

-- a state with its sizes in which all ends soon: Issue keeps times of entries that are what their instructions say
record Both (d : Desc) (x : Machine) : Type 0 where
  sized : Sized d x
  timely : Timely d x

-- a cycle keeps that all that is under way ends in a later cycle
pub timely_cycle : (d : Desc) (code : Code) (x : Machine) → IsDesc d → Sized d x → Timely d x → Timely d (cycle d code x).machine
timely_cycle d code x i s h =
    let x1 : Machine = record x { cycle = x.cycle + 1 } in
    let arrived = timely_fill x.cycle x.cycle d x1 i refl (timely_begin d x i h) in
    (completed_keep d (Both d) code (λ x b. record { sized = sized_issue d x i b.sized; timely = timely_issue d x i b.sized.second_sets b.sized.parts b.timely })
    (λ x b. record { sized = sized_rename d x i b.sized; timely = timely_rename d x i b.timely })
    (λ x b. record { sized = sized_fetch d code x i b.sized; timely = timely_fetch d code x i b.timely })
    (λ x b. record { sized = sized_resolve d x i b.sized; timely = timely_resolve d x i b.timely })
    (λ x b. record { sized = sized_clear d x i b.sized; timely = timely_clear d x i b.timely })
    (λ x b. record { sized = sized_retire d x i b.sized; timely = timely_retire d x i b.timely }) x
    (record { sized = sized_complete d (fill d x1).machine i (sized_fill d x1 i (sized_begin d x i s)); timely = timely_complete x.cycle d (fill d x1).machine i refl arrived })).timely

-- in each state of a run all that is under way ends in a later cycle
pub timely_at : (d : Desc) (code : Code) (entry : ℕ) (ram : Ram) (k : ℕ) → IsDesc d → Timely d (at d code entry ram k)
timely_at d code entry ram k i =
    (run_keep d (Both d) code (λ x b. record { sized = sized_cycle d code x i b.sized; timely = timely_cycle d code x i b.sized b.timely }) k
    (opening d entry ram) (record { sized = sized_opening d entry ram i; timely = timely_opening d entry ram i })).timely
