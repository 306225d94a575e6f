-- What is looked at, when it stands for a machine between two cycles, and an entry at its station
-- (docs/architecture.md, "How the parts refine the window").
use Rattle.std.specs.Prelude.{◌≡◌, ℕ, ◌<◌, ◌≤◌, Bool, true, false, List, length, Option, Some, None, slice_get}
use Rattle.std.specs.Option.{option_map}
use Rattle.machine_desc.specs.declared.Desc.{Desc}
use Rattle.window_model.specs.declared.Entry.{Entry}
use Rattle.window_model.specs.Order.{before_at, is_waiting}
use Rattle.window_model.specs.Serials.{Rise}
use Rattle.window_model.specs.State.{Machine}
use Rattle.rob_ring.specs.declared.ring.Found.{Found}
use Rattle.refinement.specs.Stations.{station_of}
use Rattle.core_parts.specs.Lent.{ShowsOlder, TellsPart, TellsReady, TellsVisible}
use Rattle.core_cycle.specs.Waiting.{HoldsByPoint}
use Rattle.slot_reasons.specs.Kept.{has_operands, is_asked, serial_kept}
use Rattle.kept_entry.specs.declared.seen.Seen.{Seen}

-- the window that is looked at, oldest entry first
abbrev pub window_of : Seen → List Entry
window_of s = s.rob.now.entries

-- the parts tell of a window, under a description, what those of a core do between two cycles, and serials rise
pub record StandsFor (d : Desc) (window : List Entry) (s : Seen) : Type 0 where
  pub rise : Rise window
  pub waiting : HoldsByPoint d s.stations.now window
  pub ready : TellsReady d s.stations.now window
  pub parts : TellsPart d s.stations.now window
  pub visible : TellsVisible d.stt_model s.point.now window
  pub older : ShowsOlder s.point.now window

-- they do so of the window that is looked at
abbrev pub Stands : Seen → Type 0
Stands s = StandsFor s.desc.now (window_of s) s

-- ---- an entry at its station

-- at this position of the window stands this entry, which waits at this station, the one with its serial
pub record WaitsAt (s : Seen) (k position : ℕ) (e : Entry) : Type 0 where
  pub at : slice_get (window_of s) position ≡ Some e
  pub waits : is_waiting e.state ≡ true
  pub station : station_of position (window_of s) ≡ k
  pub serial : option_map (λ s. s.serial) (slice_get s.stations.now.held k) ≡ Some e.serial

-- the entry in its place waits at this station of what is looked at
pub record StandsAt (s : Seen) (station : ℕ) (found : Found) : Type 0 where
  pub stands : Stands s
  pub within : station < length s.stations.now.held
  pub here : WaitsAt s station found.position found.entry.now

-- whether the writers of all sources of the entry that waits at this station are Done
pub record TellsWhole (s : Seen) (station : ℕ) (whole : Bool) : Type 0 where
  pub position : ℕ
  pub entry : Entry
  pub here : WaitsAt s station position entry
  pub tells : whole ≡ has_operands (before_at (window_of s) position) entry

-- whether the defence may keep the entry that waits at this station
pub record TellsAsked (s : Seen) (station : ℕ) (asked : Bool) : Type 0 where
  pub position : ℕ
  pub entry : Entry
  pub here : WaitsAt s station position entry
  pub tells : asked ≡ is_asked s.desc.now (before_at (window_of s) position) entry

-- what is told of the entry that waits at this station is its serial, if the defence keeps it
pub record KeptAt (s : Seen) (station : ℕ) (told : Option ℕ) : Type 0 where
  pub position : ℕ
  pub entry : Entry
  pub here : WaitsAt s station position entry
  pub tells : told ≡ serial_kept s.desc.now (before_at (window_of s) position) entry

-- ---- the stations that are asked

-- the defence keeps no entry that waits at the stations from one on and before another
abbrev pub PassesTo : Seen → ℕ → ℕ → Type 0
PassesTo s from to = (k : ℕ) → from ≤ k → k < to → TellsAsked s k false

-- i is a station from one on, and before it none has an entry that the defence may keep
pub record IsNextAsked (s : Seen) (from i : ℕ) : Type 0 where
  pub low : from ≤ i
  pub within : i < length s.stations.now.held
  pub before : PassesTo s from i

-- the next station that is looked at, from one on, None where none is left whose entry the defence may keep
abbrev pub NextAsked : Seen → ℕ → Option ℕ → Type 0
NextAsked s from None = PassesTo s from (length s.stations.now.held)
NextAsked s from (Some i) = IsNextAsked s from i

-- the window that is looked at is the machine's
abbrev pub LooksAt : Seen → Machine → Type 0
LooksAt s x = x.window ≡ window_of s
