-- What the parts that a core lends tell of its machine (docs/architecture.md, "How the parts refine the window").
use Rattle.std.specs.Prelude.{◌≡◌, ℕ, ◌<◌, ◌≤◌, nat_le, true, List, [], ◌∷◌, map, reverse, slice_get, Option, Some, if◌then◌else◌}
use Rattle.std.specs.Option.{option_map}
use Rattle.machine_desc.specs.declared.Desc.{Desc}
use Rattle.machine_desc.specs.declared.SttModel.{SttModel}
use Rattle.window_model.specs.declared.Entry.{Entry}
use Rattle.window_model.specs.Order.{before_at, is_store, is_waiting, sources, writer}
use Rattle.window_model.specs.Ready.{all_known, ready}
use Rattle.window_model.specs.Taint.{visible}
use Rattle.rename_taint.specs.declared.Write.{Write}
use Rattle.rename_taint.specs.Writes.{root_of, source_of}
use Rattle.stations.specs.Stations.{Stations, awaits_none, ready_part}
use Rattle.stations.specs.declared.wants.Part.{Part}
use Rattle.lsq.specs.declared.store.Store.{Store}
use Rattle.visibility.specs.Point.{Point}
use Rattle.refinement.specs.Roots.{base_root, source_roots, root_in_flight, youngest_root}
use Rattle.refinement.specs.Stations.{station_of}
use Rattle.refinement.specs.Telling.{own_of, source_by}
use Rattle.refinement.specs.Waiters.{Hold, oldest_of, waiter_in, waiters_from}

-- the table names the writer that each register has for an entry behind the window
abbrev pub NamesWriters : List Write → List Entry → Type 0
NamesWriters writes window = (r : ℕ) → source_of writes r ≡ source_by (writer (reverse window) r)

-- the table has for each register the youngest root of its value for an entry behind the window; for one without maybe
-- a root that has retired
abbrev pub NamesRoots : ℕ → List Write → List Entry → Type 0
NamesRoots next writes window = (r : ℕ) → root_in_flight (oldest_of next window) (root_of writes r) ≡ youngest_root (reverse window) r

-- the youngest roots of the addresses of a window's stores, where the older entries are `before`
abbrev pub address_roots : List Entry → List Entry → List (Option ℕ)
address_roots before [] = []
address_roots before (e ∷ es) =
    if is_store e.item.kind then base_root (source_roots before e) ∷ address_roots (e ∷ before) es else address_roots (e ∷ before) es

-- the queue's stores have these roots; one without maybe one that has retired
abbrev pub HasAddressRoots : ℕ → List Store → List Entry → Type 0
HasAddressRoots next stores window = map (λ s. root_in_flight (oldest_of next window) s.root) stores ≡ address_roots [] window

-- the stations hold the entries that wait, what they want in this version of the machine, and what their sources await
-- where results are held back so
abbrev pub HoldsWaiting : ℕ → Hold → Stations → List Entry → Type 0
HoldsWaiting version hold s window = map waiter_in s.held ≡ waiters_from version hold [] window

-- a station awaits nothing exactly where its entry is ready
abbrev pub TellsReady : Desc → Stations → List Entry → Type 0
TellsReady d s window = (i : ℕ) (e : Entry) → slice_get window i ≡ Some e → is_waiting e.state ≡ true →
    option_map awaits_none (slice_get s.held (station_of i window)) ≡ Some (ready d (before_at window i) e)

-- a station awaits the source of a part of its entry no more exactly where that source is there
abbrev pub TellsPart : Desc → Stations → List Entry → Type 0
TellsPart d s window = (part : Part) (i : ℕ) (e : Entry) → slice_get window i ≡ Some e → is_waiting e.state ≡ true →
    option_map (ready_part part) (slice_get s.held (station_of i window)) ≡ Some (all_known d (before_at window i) (own_of part (sources e)))

-- entries up to the point are visible, and no others
abbrev pub TellsVisible : SttModel → Point → List Entry → Type 0
TellsVisible model p window = (i : ℕ) (e : Entry) → slice_get window i ≡ Some e → nat_le e.serial p.serial ≡ visible model (before_at window i)

-- a serial below that of the oldest entry is visible
abbrev pub ShowsOlder : Point → List Entry → Type 0
ShowsOlder p window = (s : ℕ) (e : Entry) → slice_get window 0 ≡ Some e → s < e.serial → s ≤ p.serial

-- the pair has for each source of the entry at a position its youngest root; for one without maybe one that has retired
abbrev pub HasRoots : ℕ → List Entry → ℕ → List (Option ℕ) → Type 0
HasRoots next window i pair = (e : Entry) → slice_get window i ≡ Some e → map (root_in_flight (oldest_of next window)) pair ≡ source_roots (before_at window i) e
