-- Where nothing happens nothing changes, until something is due (docs/machine.md, "Cycles in which nothing happens").
use Rattle.std.specs.Prelude.{◌≡◌, ℕ, ◌+◌, ◌<◌, [], None}
use Rattle.rv_types.specs.Memory.{Code}
use Rattle.machine_desc.specs.declared.Desc.{Desc}
use Rattle.window_model.specs.State.{Machine}
use Rattle.window_model.specs.Cycle.{after_cycles, cycle, pieces, rows}
use Rattle.quiet_cycles.specs.Still.{NothingDueBefore, Still, StillUntil, at_cycle, empty_rows}

-- a cycle that has no event, and in which the run goes on, is still
abbrev pub EmptyRowStands : Type 0
EmptyRowStands = (d : Desc) (code : Code) (x : Machine) →
    (cycle d code x).row.events ≡ [] → (cycle d code x).machine.end ≡ None → Still d code x

-- after a still cycle all are, up to the one in which something is due
abbrev pub StandsUntilDue : Type 0
StandsUntilDue = (n : ℕ) (d : Desc) (code : Code) (x : Machine) →
    Still d code x → NothingDueBefore n (at_cycle (x.cycle + 1) x) → StillUntil n d code (at_cycle (x.cycle + 1) x)

-- after a cycle that has no event, and in which the run goes on, all are still up to the one in which something is due
abbrev pub StandsAfterEmptyRow : Type 0
StandsAfterEmptyRow = (n : ℕ) (d : Desc) (code : Code) (x : Machine) →
    let y = (cycle d code x).machine in
    (cycle d code x).row.events ≡ [] → y.end ≡ None → NothingDueBefore n y → StillUntil n d code y

-- the first of the still cycles is still, and those behind it are from the state that it leaves
abbrev pub StillGoesOn : Type 0
StillGoesOn = (n : ℕ) (d : Desc) (code : Code) (x : Machine) →
    StillUntil n d code x → x.cycle + 1 < n → Still d code x × StillUntil n d code (at_cycle (x.cycle + 1) x)

-- k still cycles at once: the state that they leave, their rows, and that nothing is put out
abbrev pub PassesOver : Type 0
PassesOver = (n k : ℕ) (d : Desc) (code : Code) (x : Machine) →
    x.end ≡ None → StillUntil n d code x → x.cycle + k < n →
    (after_cycles d code k x ≡ at_cycle (x.cycle + k) x) × (rows d code k x ≡ empty_rows (x.cycle + 1) k) × (pieces d code k x ≡ [])
