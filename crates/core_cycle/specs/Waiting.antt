-- What the stations of a core hold between two cycles (docs/architecture.md, "How the parts refine the window").
use Rattle.std.specs.Prelude.{◌≡◌, List}
use Rattle.machine_desc.specs.declared.Desc.{Desc}
use Rattle.window_model.specs.declared.Entry.{Entry}
use Rattle.stations.specs.Stations.{Stations}
use Rattle.visibility.specs.Point.{HasAdvanced, Point}
use Rattle.refinement.specs.Telling.{hold_of}
use Rattle.core_parts.specs.Lent.{HoldsWaiting}

-- the entries that wait, where results are held back by a point of the description's model that has moved over the
-- window
pub record HoldsByPoint (d : Desc) (s : Stations) (window : List Entry) : Type 0 where
  pub point : Point
  pub advanced : HasAdvanced point window
  pub model : point.model ≡ d.stt_model
  pub waiting : HoldsWaiting d.version (hold_of d point) s window
