-- How entries go on, and what becomes of the stations then (docs/architecture.md, "How the parts refine the window").
use Rattle.std.specs.Prelude.{◌≡◌, ℕ, ◌≤◌, false, not, ◌&&◌, List, [], ◌∷◌, ◌++◌, map, take, Option, if◌then◌else◌}
use Rattle.std.specs.List.{count_by, filter, remove}
use Rattle.window_model.specs.declared.Entry.{Entry}
use Rattle.window_model.specs.Order.{is_done, is_waiting}
use Rattle.stations.specs.Stations.{Station, left_wanting, struck}
use Rattle.refinement.specs.Waiters.{Hold, gives_at, wants_of}

-- a station more, in some place, where the entry waits
abbrev pub stations_with_entry : ℕ → ℕ → List (Option ℕ) → Entry → List Station → List Station
stations_with_entry version place awaits e held =
    if is_waiting e.state then held ++ record { serial = e.serial; awaits = awaits; place = place; wants = wants_of version e } ∷ [] else held

-- an entry that goes on in its place: the same instruction, with the same serial
pub record GoesOn (e e2 : Entry) : Type 0 where
  pub serial : e2.serial ≡ e.serial
  pub item : e2.item ≡ e.item

-- an entry that waits issues, or a part of it: then it executes, or waits still; it is marked as resolved and as
-- cleared or not as it was
pub record Issues (e e2 : Entry) : Type 0 where
  pub on : GoesOn e e2
  pub undone : is_done e2.state ≡ false
  pub resolved : e2.resolved ≡ e.resolved
  pub cleared : e2.cleared ≡ e.cleared

-- the position among the stations of the entry at a position of the window: how many older ones wait
abbrev pub station_of : ℕ → List Entry → ℕ
station_of i window = count_by (λ e. is_waiting e.state) (take i window)

-- the station at a position is freed where its entry no longer waits, else it waits for what the entry then wants
abbrev pub left_held : ℕ → ℕ → Entry → List Station → List Station
left_held version k e held = if is_waiting e.state then left_wanting k (wants_of version e) held else remove held k

-- ---- values that are given

-- the stations, of which none awaits one of these serials any more
abbrev pub struck_each : List ℕ → List Station → List Station
struck_each [] held = held
struck_each (serial ∷ serials) held = struck_each serials (map (struck serial) held)

-- the stations once an entry is Done: none awaits it any more, unless its value is held back
abbrev pub struck_if_given : Hold → Entry → List Station → List Station
struck_if_given h e held = if gives_at h e then map (struck e.serial) held else held

-- the serials of the entries that give their values by the second, and didn't by the first
abbrev pub serials_let_go : Hold → Hold → List Entry → List ℕ
serials_let_go old new window = map (λ e. e.serial) (filter (λ e. not (gives_at old e) && gives_at new e) window)

-- the stations once the point has moved: none awaits an entry that then gives its value
abbrev pub struck_by_move : Hold → Hold → List Entry → List Station → List Station
struck_by_move old new window held = struck_each (serials_let_go old new window) held

-- the point moves on, and holds what it held
pub record MovesOn (old new : Hold) : Type 0 where
  pub holds : new.holds ≡ old.holds
  pub on : old.point ≤ new.point
