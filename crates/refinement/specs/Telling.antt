-- What parts that refine the window tell of it (docs/machine.md, "Writers and roots").
use Rattle.std.specs.Prelude.{◌≡◌, ℕ, ◌+◌, ◌<◌, ◌≤◌, Bool, true, false, ◌||◌, nat_le, List, [], length, map, reverse, slice_get, slice_set, take, Option, Some, None, if◌then◌else◌}
use Rattle.std.specs.List.{All, count_by, list_any}
use Rattle.std.specs.Option.{option_map}
use Rattle.rv_types.specs.Regs.{two}
use Rattle.machine_desc.specs.declared.Desc.{Desc}
use Rattle.window_model.specs.declared.Entry.{Entry}
use Rattle.window_model.specs.Order.{base_of, before_at, is_waiting, others_of, sources, writer}
use Rattle.window_model.specs.Ready.{all_known, gives, holds, ready}
use Rattle.window_model.specs.Taint.{visible, tainted, any_tainted, address_tainted}
use Rattle.rob_ring.specs.Ring.{below}
use Rattle.rob_ring.specs.declared.beside.Sources.{Sources}
use Rattle.rename_taint.specs.declared.Source.{Source}
use Rattle.rename_taint.specs.declared.Source.TheVariants as source
use Rattle.rename_taint.specs.Writes.{source_of, root_of}
use Rattle.stations.specs.Stations.{awaits_none, is_able, ready_part}
use Rattle.stations.specs.declared.wants.Part.{Part}
use Rattle.stations.specs.declared.wants.Part.TheVariants as part
use Rattle.stations.specs.declared.wants.Wants.{Wants}
use Rattle.stations.specs.declared.wants.Wants.TheVariants as wants
use Rattle.lsq.specs.Queues.{older}
use Rattle.queue_laws.specs.Window.{StandFor, Tracks, hides, tainted_stores}
use Rattle.visibility.specs.Point.{Point, HasAdvanced, is_hidden}
use Rattle.refinement.specs.InFlight.{InFlight, hold_in}
use Rattle.refinement.specs.Refines.{Refines}
use Rattle.refinement.specs.Roots.{youngest_root, root_in_flight}
use Rattle.refinement.specs.Waiters.{Hold, awaited_serial, awaited_of, awaits_of, gives_at, oldest_of, waiter_in, waiter_of, waiters_from, wants_of}
use Rattle.refinement.specs.Writers.{in_flight, writer_of}
use Rattle.refinement.specs.Stations.{station_of}

-- ---- room

-- sources for each entry, no more writes than entries, and as many stations as entries wait
pub record HasRoom (p : InFlight) : Type 0 where
  pub sources : length p.sources ≡ length p.window
  pub writes : length p.writes ≤ length p.window
  pub held : length p.held ≡ count_by (λ e. is_waiting e.state) p.window

-- the parts have room where the window has
abbrev pub CountsRoom : Type 0
CountsRoom = (p : InFlight) → Refines p → HasRoom p

-- what is held is older than the next entry
pub record HoldsOlder (p : InFlight) : Type 0 where
  pub writes : All (λ w. w.serial < p.next) p.writes
  pub held : All (λ s. s.serial < p.next) p.held

-- what is added for the next entry is the youngest of its part
abbrev pub HoldsOlderOnes : Type 0
HoldsOlderOnes = (p : InFlight) → Refines p → HoldsOlder p

-- ---- writers

-- where the value of this writer is
abbrev pub source_by : Option Entry → Source
source_by None = source.Committed
source_by (Some e) = source.Entry e.serial

-- the table names each register's writer
abbrev pub NamesWriter : Type 0
NamesWriter = (p : InFlight) (r : ℕ) → Refines p → source_of p.writes r ≡ source_by (writer (reverse p.window) r)

-- a serial that it names is that of an entry in the window
abbrev pub NamesEntry : Type 0
NamesEntry = (p : InFlight) (r s : ℕ) → Refines p → source_of p.writes r ≡ source.Entry s → length (below s p.window) < length p.window

-- the entry of a source, by the position of the serial
abbrev pub entry_of : List Entry → Source → Option Entry
entry_of window source.Committed = None
entry_of window (source.Entry s) = slice_get window (length (below s window))

-- by the serial that the table names the writer is found
abbrev pub FindsWriter : Type 0
FindsWriter = (p : InFlight) (r : ℕ) → Refines p → entry_of p.window (source_of p.writes r) ≡ writer (reverse p.window) r

-- what a source of the next entry awaits is found by the serial that the table names
abbrev pub FindsAwaited : Type 0
FindsAwaited = (p : InFlight) (r : ℕ) → Refines p → awaited_of (hold_in p) (entry_of p.window (source_of p.writes r)) ≡ awaited_serial (hold_in p) (reverse p.window) (Some r)

-- by the serials at an entry's position its sources' writers are found
abbrev pub TellsWriters : Type 0
TellsWriters = (p : InFlight) (i : ℕ) (e : Entry) (x : Sources) → Refines p → slice_get p.window i ≡ Some e → slice_get p.sources i ≡ Some x →
    map (in_flight p.window) x.writers ≡ map (writer_of (before_at p.window i)) (two (sources e))

-- ---- stations

-- the stations are those of the entries that wait
abbrev pub HoldsWaiters : Type 0
HoldsWaiters = (p : InFlight) → Refines p → map waiter_in p.held ≡ waiters_from p.version (hold_in p) [] p.window

-- an entry's station is where the older ones that wait are counted, with what its sources await
pub record StationFor (p : InFlight) (i : ℕ) (e : Entry) : Type 0 where
  pub within : station_of i p.window < length p.held
  pub is : option_map waiter_in (slice_get p.held (station_of i p.window)) ≡ Some (waiter_of p.version (awaits_of (hold_in p) (before_at p.window i) e) e)

-- an entry that waits has its station
abbrev pub HasStation : Type 0
HasStation = (p : InFlight) (i : ℕ) (e : Entry) → Refines p → slice_get p.window i ≡ Some e → is_waiting e.state ≡ true → StationFor p i e

-- a walk from the oldest entry on counts the stations
abbrev pub CountsStations : Type 0
CountsStations = (window : List Entry) (i : ℕ) (e : Entry) → slice_get window i ≡ Some e →
    station_of (i + 1) window ≡ (if is_waiting e.state then station_of i window + 1 else station_of i window)

-- what becomes of an entry changes no older one's station
abbrev pub StationsOlder : Type 0
StationsOlder = (window : List Entry) (i m : ℕ) (e : Entry) → i ≤ m → station_of i (slice_set window m e) ≡ station_of i window

-- an entry that no longer waits moves each younger one's station by one
abbrev pub StationsYounger : Type 0
StationsYounger = (window : List Entry) (i m : ℕ) (e e2 : Entry) → m < i → slice_get window m ≡ Some e → is_waiting e.state ≡ true → is_waiting e2.state ≡ false →
    station_of i (slice_set window m e2) + 1 ≡ station_of i window

-- ---- once the point has moved

-- the point has moved over the window, and results are held back by it as the description says
pub record MovedBy (d : Desc) (p : InFlight) : Type 0 where
  pub advanced : HasAdvanced p.point p.window
  pub model : p.point.model ≡ d.stt_model
  pub holds : p.holds ≡ holds d.stt_defence

-- what results are held back by under a description, up to a point
abbrev pub hold_of : Desc → Point → Hold
hold_of d point = record { holds = holds d.stt_defence; point = point.serial }

-- each entry gives its value where it does by the machine's definition
abbrev pub TellsGiven : Type 0
TellsGiven = (d : Desc) (p : InFlight) (i : ℕ) (e : Entry) → MovedBy d p → slice_get p.window i ≡ Some e →
    gives_at (hold_in p) e ≡ gives d (before_at p.window i) e

-- a station awaits nothing exactly where its entry is ready
abbrev pub TellsReady : Type 0
TellsReady = (d : Desc) (p : InFlight) (i : ℕ) (e : Entry) → Refines p → MovedBy d p → slice_get p.window i ≡ Some e → is_waiting e.state ≡ true →
    option_map awaits_none (slice_get p.held (station_of i p.window)) ≡ Some (ready d (before_at p.window i) e)

-- the source of a part of a store, by its sources
abbrev pub own_of : Part → List ℕ → List ℕ
own_of part.Address rs = base_of rs
own_of part.Data rs = others_of rs

-- what an entry that waits wants is there
abbrev pub has_sources : Wants → Desc → List Entry → Entry → Bool
has_sources wants.Whole d before e = ready d before e
has_sources wants.Either d before e = all_known d before (base_of (sources e)) || all_known d before (others_of (sources e))
has_sources wants.Address d before e = all_known d before (base_of (sources e))
has_sources wants.Data d before e = all_known d before (others_of (sources e))

-- a station is able exactly where what its entry wants is there
abbrev pub TellsAble : Type 0
TellsAble = (d : Desc) (p : InFlight) (i : ℕ) (e : Entry) → Refines p → MovedBy d p → slice_get p.window i ≡ Some e → is_waiting e.state ≡ true →
    option_map is_able (slice_get p.held (station_of i p.window)) ≡ Some (has_sources (wants_of p.version e) d (before_at p.window i) e)

-- a part of a store is ready exactly where the part's own source is
abbrev pub TellsPart : Type 0
TellsPart = (part : Part) (d : Desc) (p : InFlight) (i : ℕ) (e : Entry) → Refines p → MovedBy d p → slice_get p.window i ≡ Some e → is_waiting e.state ≡ true →
    option_map (ready_part part) (slice_get p.held (station_of i p.window)) ≡ Some (all_known d (before_at p.window i) (own_of part (sources e)))

-- a point that has advanced tells which entries are visible
abbrev pub TellsVisible : Type 0
TellsVisible = (point : Point) (window : List Entry) (i : ℕ) (e : Entry) → HasAdvanced point window → slice_get window i ≡ Some e →
    nat_le e.serial point.serial ≡ visible point.model (before_at window i)

-- ---- roots

-- the table names each register's youngest root, or one that has retired where it has none
abbrev pub NamesRoot : Type 0
NamesRoot = (p : InFlight) (r : ℕ) → Refines p → root_in_flight (oldest_of p.next p.window) (root_of p.writes r) ≡ youngest_root (reverse p.window) r

-- once the point has advanced the root that the table names tells what is tainted
abbrev pub TellsTaint : Type 0
TellsTaint = (p : InFlight) (r : ℕ) → Refines p → HasAdvanced p.point p.window →
    is_hidden p.point.serial (root_of p.writes r) ≡ tainted p.point.model (reverse p.window) r

-- by an entry's roots it is told whether an operand is, and whether its base register is
pub record OperandsTold (point : Point) (before : List Entry) (e : Entry) (roots : List (Option ℕ)) : Type 0 where
  pub any : list_any (is_hidden point.serial) roots ≡ any_tainted point.model before e
  pub base : list_any (is_hidden point.serial) (take 1 roots) ≡ address_tainted point.model before e

-- the roots at an entry's position tell which of its operands are tainted
abbrev pub TellsOperands : Type 0
TellsOperands = (p : InFlight) (i : ℕ) (e : Entry) (x : Sources) → Refines p → HasAdvanced p.point p.window →
    slice_get p.window i ≡ Some e → slice_get p.sources i ≡ Some x → OperandsTold p.point (before_at p.window i) e x.roots

-- ---- the queues

-- the queues hold the window's loads and stores, as `queue_laws` asks
abbrev pub QueuesStand : Type 0
QueuesStand = (p : InFlight) → Refines p → StandFor p.queues p.window

-- the queues track what loads have read and which stores are cleared, where loads may pass stores
abbrev pub QueuesTrack : Type 0
QueuesTrack = (p : InFlight) → Refines p → p.tracked ≡ true → Tracks p.queues p.window

-- once the point has advanced the root of each older store tells whether its address is tainted
abbrev pub TellsEachStore : Type 0
TellsEachStore = (p : InFlight) (i : ℕ) (e : Entry) → Refines p → HasAdvanced p.point p.window → slice_get p.window i ≡ Some e →
    map (λ s. hides (λ root. nat_le root p.point.serial) s.root) (older e.serial p.queues.stores) ≡ tainted_stores p.point.model (before_at p.window i)
