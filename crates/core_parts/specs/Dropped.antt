-- What is left of a core's machine once the youngest entries are gone (docs/machine.md, "Resolve" and "Clear").
use Rattle.std.specs.Prelude.{◌≡◌, ℕ, ◌<◌, ◌+◌, ◌-◌, List, [], length, slice_get, Option, Some}
use Rattle.window_model.specs.declared.Entry.{Entry}
use Rattle.window_model.specs.Resolve.{freed_from}
use Rattle.window_model.specs.State.{Machine}
use Rattle.rob_ring.specs.Ring.{below}
use Rattle.visibility.specs.Point.{NotPast, Point}

-- there is an entry below this serial that the point of a model that protects isn't past
pub record StopsBelow (first : ℕ) (p : Point) (window : List Entry) : Type 0 where
  pub position : ℕ
  pub entry : Entry
  pub here : slice_get window position ≡ Some entry
  pub older : entry.serial < first
  pub not_past : NotPast p entry.serial

-- the entries from a serial on, and all fetched items, are gone, and fetching goes on at an address, or nowhere
abbrev pub cut_from : ℕ → Option ℕ → Machine → Machine
cut_from first next x = record x { window = below first x.window; queue = []; fetch_pc = next; divider = freed_from first x.divider }

-- how many entries from a serial on, and fetched items, are dropped
abbrev pub count_from : ℕ → Machine → ℕ
count_from first x = length x.window - length (below first x.window) + length x.queue
