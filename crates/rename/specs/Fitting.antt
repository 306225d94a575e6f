-- Which item fits, and how the parts tell it (docs/machine.md, "Rename").
use Rattle.std.specs.Prelude.{◌≡◌, if◌then◌else◌, List, drop, length, slice_get, Option, Some, None, count_by}
use Rattle.machine_desc.specs.declared.Desc.{Desc}
use Rattle.window_model.specs.declared.Entry.{Entry}
use Rattle.window_model.specs.declared.Item.{Item}
use Rattle.window_model.specs.Rename.{fits, rename_one}
use Rattle.window_model.specs.Order.{is_waiting}
use Rattle.window_model.specs.State.{Machine}
use Rattle.stations.specs.Stations.{Stations}
use Rattle.lsq.specs.Queues.{Queues}
use Rattle.queue_laws.specs.Window.{StandFor}

-- the item, if there is one and it can go into the window
abbrev pub fitting : Desc → List Entry → Option Item → Option Item
fitting d window None = None
fitting d window (Some item) = if fits d window item then Some item else None

-- the oldest item that is fetched, if there is one and it can go into the window
abbrev pub next_item : Desc → Machine → Option Item
next_item d x = fitting d x.window (slice_get x.queue 0)

-- the machine once this item, the oldest that is fetched, is in the window
abbrev pub with_oldest : Desc → Item → Machine → Machine
with_oldest d item x = (rename_one d item (drop 1 x.queue) x).machine

-- stations and queues, with the description's room, hold as many as the window has
pub record Counted (d : Desc) (window : List Entry) (stations : Stations) (queues : Queues) : Type 0 where
  pub waiting : length stations.held ≡ count_by (λ e. is_waiting e.state) window
  pub places : stations.room ≡ d.core_stations
  pub accesses : StandFor queues window
  pub loads : queues.max_loads ≡ d.core_loads
  pub stores : queues.max_stores ≡ d.core_stores
