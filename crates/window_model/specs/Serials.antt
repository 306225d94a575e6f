-- Serials (docs/machine.md, "Entries"): they rise with age, by one but for gaps that squashes leave.
use Rattle.std.specs.Prelude.{ℕ, ◌<◌, List, nat_lt}
use Rattle.std.specs.List.{AllPairs, filter}
use Rattle.window_model.specs.declared.Entry.{Entry}

-- serials rise from the oldest entry on
abbrev pub Rise : List Entry → Type 0
Rise window = AllPairs (λ a b. a.serial < b.serial) window

-- the entries with a serial below this one
abbrev pub below : ℕ → List Entry → List Entry
below serial window = filter (λ e. nat_lt e.serial serial) window
