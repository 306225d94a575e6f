-- What is dropped from the parts of a core is what the machine drops (docs/machine.md, "Resolve").
use Rattle.std.specs.Prelude.{◌≡◌, ◌+◌, ◌-◌, length}
use Rattle.machine_desc.specs.declared.Desc.{Desc}
use Rattle.window_model.specs.Order.{Place}
use Rattle.window_model.specs.Resolve.{keep, squash}
use Rattle.window_model.specs.State.{Machine}
use Rattle.window_model.specs.Serials.{Rise, below}

-- an entry was resolved: the entries below the serial after its own are those that a squash leaves
abbrev pub LeavesTheOlder : Type 0
LeavesTheOlder = (d : Desc) (p : Place) (x : Machine) → Rise (keep p x).machine.window →
    below (p.entry.serial + 1) (keep p x).machine.window ≡ (squash d p x).machine.window

-- the entries that a squash drops are as many as are younger
abbrev pub DropsTheYounger : Type 0
DropsTheYounger = (p : Place) (x : Machine) → Rise (keep p x).machine.window →
    length (keep p x).machine.window - length (below (p.entry.serial + 1) (keep p x).machine.window) ≡ length p.younger
