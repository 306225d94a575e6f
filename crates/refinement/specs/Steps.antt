-- What becomes of the parts in each step of a cycle, and that they go on to refine the window (docs/architecture.md,
-- "How the parts refine the window").
use Rattle.std.specs.Prelude.{◌≡◌, ℕ, ◌+◌, ◌<◌, nat_lt, true, false, List, [], ◌∷◌, ◌++◌, length, map, reverse, take, drop, slice_get, slice_set, Option, Some, None}
use Rattle.std.specs.List.{filter}
use Rattle.std.specs.Option.{option_to_list}
use Rattle.rv_types.specs.Regs.{two}
use Rattle.rv_types.specs.declared.Width.{Width}
use Rattle.rv_types.specs.declared.Kind.{Kind}
use Rattle.rv_types.specs.declared.Kind.TheVariants.{Load, Store}
use Rattle.machine_desc.specs.declared.Desc.{Desc}
use Rattle.window_model.specs.declared.Entry.{Entry}
use Rattle.window_model.specs.declared.Progress.TheVariants.{Done}
use Rattle.window_model.specs.Clear.{cleared_one}
use Rattle.machine_desc.specs.Questions.{loads_pass}
use Rattle.window_model.specs.Order.{has_address, has_data, is_store, is_waiting, sources}
use Rattle.window_model.specs.Ready.{holds}
use Rattle.window_model.specs.Taint.{settled}
use Rattle.rob_ring.specs.Ring.{below}
use Rattle.rob_ring.specs.declared.beside.Sources.{Sources}
use Rattle.rename_taint.specs.Writes.{before_serial, root_at, without_retired}
use Rattle.lsq.specs.Queues as queues
use Rattle.lsq.specs.Queues.{Queues, cut_at, without}
use Rattle.refinement.specs.Noted.{PartsGoOn, TracksOn, cleared_in, queues_with_parts, noted_load}
use Rattle.visibility.specs.Point.{NotPast, first_point, moved_over}
use Rattle.refinement.specs.Waiters.{awaits_of, gives_at, write_of}
use Rattle.refinement.specs.Roots.{base_root}
use Rattle.refinement.specs.Stations.{Issues, left_held, stations_with_entry, station_of, struck_by_move, struck_if_given}
use Rattle.refinement.specs.Writers.{writer_serial}
use Rattle.refinement.specs.InFlight.{InFlight, hold_in}
use Rattle.refinement.specs.Refines.{Refines}

-- ---- before the first cycle

-- nothing is in flight, and nothing held
abbrev pub empty : Desc → InFlight
empty d = record { version = d.version; holds = holds d.stt_defence; tracked = loads_pass d; next = 0; window = []; sources = []; writes = []; held = []; queues = queues.empty d; point = first_point d.stt_model }

abbrev pub OpensEmpty : Type 0
OpensEmpty = (d : Desc) → Refines (empty d)

-- ---- an entry is renamed

-- the queues with a load or store more, with the youngest root of its address
abbrev pub queues_with_entry : Kind → ℕ → Option ℕ → Queues → Queues
queues_with_entry Load serial root q = record q { loads = q.loads ++ record { serial = serial; access = None } ∷ [] }
queues_with_entry Store serial root q = record q { stores = q.stores ++ record { serial = serial; root = root; span = None; stored = None; cleared = false } ∷ [] }
queues_with_entry _ serial root q = q

-- an entry is renamed, with what the table names for its sources, what they await, and a place for its station
abbrev pub with_entry : ℕ → Sources → List (Option ℕ) → Entry → InFlight → InFlight
with_entry place s awaits e p = record p {
  next = p.next + 1;
  window = p.window ++ e ∷ [];
  sources = p.sources ++ s ∷ [];
  writes = p.writes ++ option_to_list (write_of e s.roots);
  held = stations_with_entry p.version place awaits e p.held;
  queues = queues_with_entry e.item.kind e.serial (base_root s.roots) p.queues;
}

-- an entry with the next serial that isn't resolved, of which no part has issued, and which isn't cleared if it is a
-- store that loads may pass
pub record Fresh (p : InFlight) (e : Entry) : Type 0 where
  pub serial : e.serial ≡ p.next
  pub unresolved : e.resolved ≡ false
  pub address : has_address e ≡ false
  pub stored : has_data e ≡ false
  pub unissued : e.issued ≡ None
  pub uncleared : p.tracked ≡ true → is_store e.item.kind ≡ true → e.cleared ≡ false

abbrev pub RenamesIn : Type 0
RenamesIn = (p : InFlight) (e : Entry) (s : Sources) (awaits : List (Option ℕ)) (place : ℕ) → Refines p → Fresh p e → s.roots ≡ map (root_at p.writes) (two (sources e)) →
    s.writers ≡ map (writer_serial p.writes) (two (sources e)) → awaits ≡ awaits_of (hold_in p) (reverse p.window) e → Refines (with_entry place s awaits e p)

-- ---- the entry at a position goes on

-- an entry issues, or a part of it: its station is freed or waits for what is left, and a store's parts that have
-- issued are noted, with the width of its access; so is what a load reads, where loads may pass stores
abbrev pub with_issued : ℕ → Width → Entry → InFlight → InFlight
with_issued i w e p = record p {
  window = slice_set p.window i e;
  held = left_held p.version (station_of i p.window) e p.held;
  queues = noted_load p.tracked w e (queues_with_parts w e p.queues);
}

abbrev pub IssuesAt : Type 0
IssuesAt = (p : InFlight) (i : ℕ) (e e2 : Entry) (w : Width) → Refines p → slice_get p.window i ≡ Some e → is_waiting e.state ≡ true →
    Issues e e2 → (is_store e.item.kind ≡ true → PartsGoOn w e e2) → (p.tracked ≡ true → TracksOn w e e2) → Refines (with_issued i w e2 p)

-- an entry becomes Done: no station awaits it any more, unless its value is held back
abbrev pub with_done : ℕ → Entry → InFlight → InFlight
with_done i e p =
    let done = record e { state = Done } in
    record p { window = slice_set p.window i done; held = struck_if_given (hold_in p) done p.held }

abbrev pub CompletesAt : Type 0
CompletesAt = (p : InFlight) (i : ℕ) (e : Entry) → Refines p → slice_get p.window i ≡ Some e → is_waiting e.state ≡ false → Refines (with_done i e p)

-- an entry is marked as resolved
abbrev pub with_resolved : ℕ → Entry → InFlight → InFlight
with_resolved i e p = record p { window = slice_set p.window i (record e { resolved = true }) }

abbrev pub ResolvesAt : Type 0
ResolvesAt = (p : InFlight) (i : ℕ) (e : Entry) → Refines p → slice_get p.window i ≡ Some e → is_waiting e.state ≡ false → Refines (with_resolved i e p)

-- an entry is cleared, in the window and in the queue of stores; only a store is
abbrev pub with_cleared : ℕ → Entry → InFlight → InFlight
with_cleared i e p = record p { window = slice_set p.window i (cleared_one e); queues = cleared_in e.serial p.queues }

abbrev pub ClearsAt : Type 0
ClearsAt = (p : InFlight) (i : ℕ) (e : Entry) → Refines p → slice_get p.window i ≡ Some e → Refines (with_cleared i e p)

-- ---- entries go

-- the entries from a serial on are dropped from all parts
abbrev pub below_serial : ℕ → InFlight → InFlight
below_serial first p = record p {
  window = below first p.window;
  sources = take (length (below first p.window)) p.sources;
  writes = before_serial first p.writes;
  held = filter (λ s. nat_lt s.serial first) p.held;
  queues = cut_at first p.queues;
}

-- an older entry stays, and the point isn't past it
abbrev pub DropsFrom : Type 0
DropsFrom = (p : InFlight) (first i : ℕ) (e : Entry) → Refines p → slice_get p.window i ≡ Some e → e.serial < first → NotPast p.point e.serial →
    Refines (below_serial first p)

-- the oldest entry, which gives its value, leaves all parts
abbrev pub without_head : Entry → InFlight → InFlight
without_head head p = record p {
  window = drop 1 p.window;
  sources = drop 1 p.sources;
  writes = without_retired head.serial p.writes;
  queues = without head.serial p.queues;
}

abbrev pub RetiresHead : Type 0
RetiresHead = (p : InFlight) (head : Entry) → Refines p → slice_get p.window 0 ≡ Some head → gives_at (hold_in p) head ≡ true → Refines (without_head head p)

-- ---- the point moves

-- the point moves over the window; no station awaits an entry that then gives its value
abbrev pub with_moved : InFlight → InFlight
with_moved p =
    let moved = moved_over p.window p.point in
    record p { point = moved; held = struck_by_move (hold_in p) (hold_in (record p { point = moved })) p.window p.held }

abbrev pub PointMoves : Type 0
PointMoves = (p : InFlight) → Refines p → Refines (with_moved p)

-- the point stops at a branch or JALR that isn't resolved, and at a store that isn't cleared
abbrev pub PointStops : Type 0
PointStops = (p : InFlight) (i : ℕ) (e : Entry) → Refines p → slice_get p.window i ≡ Some e → settled e ≡ false → NotPast p.point e.serial
