-- In how many cycles the next instruction retires at the latest (docs/theorems.md, "Progress").
use Rattle.std.specs.Prelude.{ℕ, ◌+◌, ◌-◌, max, List, [], ◌∷◌}
use Rattle.rv_types.specs.declared.Kind.{Kind}
use Rattle.rv_types.specs.declared.Kind.TheVariants.{Div, Load}
use Rattle.machine_desc.specs.declared.Desc.{Desc}
use Rattle.machine_desc.specs.Ranges.{bound}
use Rattle.window_model.specs.declared.Entry.{Entry}
use Rattle.window_model.specs.declared.Item.{Item}
use Rattle.window_model.specs.declared.Miss.{Miss}
use Rattle.window_model.specs.declared.Progress.{Progress}
use Rattle.window_model.specs.declared.Progress.TheVariants.{Waiting, Busy, Done}
use Rattle.window_model.specs.State.{Machine}
use Rattle.machine_facts.specs.Timely.{latency}

-- the cycle in which the last of these miss registers is freed
abbrev pub last_due : List Miss → ℕ
last_due [] = 0
last_due (m ∷ ms) = max m.due (last_due ms)

-- the cycles until a waiting entry issues, if it is the oldest: a load has a register once all are free, a division the
-- divider
abbrev pub wait : Kind → ℕ → List Miss → ℕ → ℕ
wait Load cycle misses free_from = max 1 (last_due misses - cycle)
wait Div cycle misses free_from = max 1 (free_from - cycle)
wait _ cycle misses free_from = 1

-- the cycles until an entry is done, if it is the oldest; one that is done retires in the next cycle
abbrev pub takes : Progress → Kind → Desc → ℕ → List Miss → ℕ → ℕ
takes Done k d cycle misses free_from = 1
takes (Busy due) k d cycle misses free_from = due - cycle
takes Waiting k d cycle misses free_from = wait k cycle misses free_from + latency k d

-- the cycles until an item is renamed and retires, where no entry is in flight: the bound where nothing is fetched yet,
-- and a cycle less where something is
abbrev pub until_renamed : Desc → List Item → ℕ
until_renamed d [] = bound d
until_renamed d (i ∷ is) = bound d - 1

-- the cycles that the oldest entry takes, or where there is none the first item
abbrev pub time_left : Desc → ℕ → List Miss → ℕ → List Item → List Entry → ℕ
time_left d cycle misses free_from queue [] = until_renamed d queue
time_left d cycle misses free_from queue (e ∷ es) = takes e.state e.item.kind d cycle misses free_from

-- at most this many cycles until the next retirement or the end of the run
abbrev pub measure : Desc → Machine → ℕ
measure d x = time_left d x.cycle x.misses x.divider.free_from x.queue x.window
