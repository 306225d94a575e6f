-- Clear, step by step: the store that is found, what is left once it is cleared, and once the load that it violates
-- goes (docs/machine.md, "Clear").
use Rattle.std.specs.Prelude.{ℕ, List, [], ◌∷◌, Option, Some, None}
use Rattle.std.specs.Option.{option_and_then, option_map}
use Rattle.machine_desc.specs.declared.Desc.{Desc}
use Rattle.window_model.specs.declared.Entry.{Entry}
use Rattle.window_model.specs.declared.Event.{Event}
use Rattle.window_model.specs.declared.Event.TheVariants as event
use Rattle.window_model.specs.Clear.{clears, may_clear, violated_by}
use Rattle.window_model.specs.Dependence.{bit_index, bit_set}
use Rattle.window_model.specs.Order.{Place, first}
use Rattle.window_model.specs.State.{Machine}
use Rattle.core_parts.specs.Dropped.{count_from, cut_from}

-- the serial of the oldest store that may be cleared
abbrev pub clearing : Desc → Machine → Option ℕ
clearing d x = option_map (λ p. p.entry.serial) (first (may_clear d) x.window)

-- the machine with the store at a place cleared, if there is one
abbrev pub cleared_at : Option Place → Machine → Machine
cleared_at None x = x
cleared_at (Some p) x = (clears p x).machine

-- the machine with the oldest store cleared that may be, if there is one
abbrev pub with_cleared : Desc → Machine → Machine
with_cleared d x = cleared_at (first (may_clear d) x.window) x

-- the serial of the load that is violated, if one is, as the oldest store that may be cleared is cleared
abbrev pub violated_load : Desc → Machine → Option ℕ
violated_load d x = option_map (λ q. q.entry.serial) (option_and_then violated_by (first (may_clear d) x.window))

-- the machine without a load and all that is younger, with the load's bit set: fetching goes on at the load, with
-- history and stack as they were before it
abbrev pub anew : Desc → Entry → Machine → Machine
anew d load x =
    cut_from load.serial (Some load.item.pc) (record x { dependence = bit_set d load.item.pc x.dependence; checkpoint = load.item.checkpoint })

-- the events of a start anew from the violated load: the violation, its bit of dependence, and the squash
abbrev pub anew_events : Desc → Entry → Machine → List Event
anew_events d load x =
    event.Vio load.serial ∷ event.Dp (bit_index d load.item.pc) 1 ∷ event.Sq (count_from load.serial x) ∷ []

-- the number of events of a start anew
abbrev pub most_anew : ℕ
most_anew = 3
