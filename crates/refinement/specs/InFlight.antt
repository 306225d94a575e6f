-- What is in flight, in all parts of a core that hold something of it (docs/architecture.md, "How the parts refine the
-- window").
use Rattle.std.specs.Prelude.{ℕ, Bool, List}
use Rattle.window_model.specs.declared.Entry.{Entry}
use Rattle.rob_ring.specs.declared.beside.Sources.{Sources}
use Rattle.rename_taint.specs.declared.Write.{Write}
use Rattle.stations.specs.Stations.{Station}
use Rattle.lsq.specs.Queues.{Queues}
use Rattle.visibility.specs.Point.{Point}
use Rattle.refinement.specs.Waiters.{Hold}

-- what the parts hold of the entries in flight, all lists oldest first
pub record InFlight : Type 0 where
  -- the version of the machine
  pub version : ℕ
  -- whether the results of loads are held back until they are visible
  pub holds : Bool
  -- whether loads may pass stores of unknown address, so that the queues track what they read and who is cleared
  pub tracked : Bool
  -- the serial that the next entry gets
  pub next : ℕ
  -- the entries
  pub window : List Entry
  -- at each entry's position the youngest roots of its sources, and their writers
  pub sources : List Sources
  -- the rename table's writes
  pub writes : List Write
  -- the stations of the entries that wait
  pub held : List Station
  -- the loads and stores
  pub queues : Queues
  -- how far entries are visible
  pub point : Point

-- what holds results back: whether they are, and up to which serial entries are visible
abbrev pub hold_in : InFlight → Hold
hold_in p = record { holds = p.holds; point = p.point.serial }
