-- The parts once an entry has come in.
use Rattle.std.proofs.Common.{◌≡◌, ℕ, ◌+◌, Bool, true, false, not, ◌&&◌, List, [], ◌∷◌, ◌++◌, Option, Some, refl, ap, ap₂, sym, ◌∙◌, subst, arith}
use Rattle.std.specs.Prelude.{◌<◌, drop, length, map, reverse, slice_get}
use Rattle.std.specs.Option.{option_to_list}
use Rattle.circular_buffer.specs.Buffer.{Buffer, buffer}
use Rattle.rv_types.specs.Regs.{two}
use Rattle.rv_types.specs.declared.Kind.{Kind}
use Rattle.rv_types.specs.declared.Kind.TheVariants.{Load, Store}
use Rattle.window_model.specs.declared.Entry.{Entry}
use Rattle.window_model.specs.declared.Item.{Item}
use Rattle.machine_desc.specs.Questions.{loads_pass}
use Rattle.window_model.specs.Order.{is_load, is_store, sources}
use Rattle.window_model.specs.Rename.{at_once, entry_of_item}
use Rattle.machine_facts.proofs.SizedPhases.{rename_item}
use Rattle.rob_ring.specs.Ring.{Ring}
use Rattle.rob_ring.specs.declared.beside.Sources.{Sources}
use Rattle.rename_taint.specs.declared.Write.{Write}
use Rattle.rename_taint.specs.Writes.{root_at}
use Rattle.stations.specs.Stations.{Stations}
use Rattle.lsq.specs.Queues.{Queues}
use Rattle.fetch_unit.specs.Unit.{FetchUnit}
use Rattle.queue_laws.proofs.Keeping.{room_is}
use Rattle.refinement.proofs.Queues.{queues_stand}
use Rattle.refinement.proofs.Room.{counts_held, counts_writes}
use Rattle.refinement.proofs.Steps.{refines_renamed}
use Rattle.refinement.specs.Roots.{base_root}
use Rattle.refinement.specs.Stations.{stations_with_entry}
use Rattle.refinement.specs.Steps.{Fresh, queues_with_entry}
use Rattle.refinement.specs.Telling.{hold_of}
use Rattle.refinement.specs.Waiters.{awaits_of, write_of}
use Rattle.core_parts.proofs.Lending.{each_has_sources}
use Rattle.core_parts.specs.Described.{Described}
use Rattle.core_parts.specs.Held.{Held, Sizes, Whole, described_of, in_flight, machine_of, sizes}
use Rattle.rename.specs.Entering.{awaited_of_writer, with_station, with_write, write_by}
use Rattle.rename.proofs.Awaiting.{awaits_are, writers_at}
use Rattle.rename.specs.Fitting.{Counted, fitting, next_item, with_oldest}
use Rattle.rename.proofs.Fitting.{fits_all, fitting_is, load_room, station_room, store_room}

-- ---- what they tell of room

pub counted : (h : Held) → Whole h → Counted h.desc h.rob.entries h.stations h.queues
counted h w = record {
  waiting = counts_held (in_flight h) w.refines;
  places = ap (λ (s : Sizes). s.places) w.made;
  accesses = queues_stand (in_flight h) w.refines;
  loads = ap (λ (s : Sizes). s.loads) w.made;
  stores = ap (λ (s : Sizes). s.stores) w.made;
}

-- there is room for an entry in each part that is to hold it
pub record HasRoomFor (h : Held) (e : Entry) : Type 0 where
  pub entry : length h.rob.entries < h.rob.room
  pub sources : length h.sources.items < h.sources.capacity
  pub write : length h.writes < h.table_room
  pub station : at_once e.item.kind ≡ false → length h.stations.held < h.stations.room
  pub load : is_load e.item.kind ≡ true → length h.queues.loads < h.queues.max_loads
  pub store : is_store e.item.kind ≡ true → length h.queues.stores < h.queues.max_stores

pub room_for : (h : Held) (item : Item) → Whole h → fitting h.desc h.rob.entries (slice_get h.fetch_unit.queue 0) ≡ Some item → HasRoomFor h (entry_of_item h.desc h.next_serial item)
room_for h item w q =
    let f = fits_all h.desc h.rob.entries item (fitting_is h.desc h.rob.entries (slice_get h.fetch_unit.queue 0) item q).1 in
    let c = counts_writes (in_flight h) w.refines in
    let n = each_has_sources h w in
    let u = counts_held (in_flight h) w.refines in
    let k = room_is h.queues h.rob.entries (queues_stand (in_flight h) w.refines) in
    let a = ap (λ (s : Sizes). s.entries) w.made in
    let b = ap (λ (s : Sizes). s.sources) w.made in
    let g = ap (λ (s : Sizes). s.writes) w.made in
    let p = ap (λ (s : Sizes). s.places) w.made in
    let m = ap (λ (s : Sizes). s.loads) w.made in
    let t = ap (λ (s : Sizes). s.stores) w.made in
    record {
      entry = omega (arith, f.entries, a);
      sources = omega (arith, f.entries, n, b);
      write = omega (arith, f.entries, c, g);
      station = λ waits. let l = station_room (at_once item.kind) _ _ f.station waits in omega (arith, l, u, p);
      load = λ is. let l = load_room item.kind h.desc h.rob.entries f.kind is in omega (arith, l, k.0, m);
      store = λ is. let l = store_room item.kind h.desc h.rob.entries f.kind is in omega (arith, l, k.1, t);
    }

-- ---- one entry that comes in

-- the youngest roots of an entry's sources, as the table names them
abbrev pub roots_at : List Write → Entry → List (Option ℕ)
roots_at writes e = map (root_at writes) (two (sources e))

-- the youngest roots and the writers of an entry's sources, as the table names them
abbrev pub sources_at : List Write → Entry → Sources
sources_at writes e = record { roots = roots_at writes e; writers = writers_at writes e }

-- an entry has come in, with the next serial
pub record Entered (e : Entry) (h : Held) (rob : Ring) (beside : Buffer Sources) (writes : List Write) (room : ℕ) (stations : Stations) (q : Queues) (fetch_unit : FetchUnit) : Type 0 where
  pub window : rob ≡ record (h.rob) { entries = h.rob.entries ++ e ∷ [] }
  pub sources : beside ≡ buffer (h.sources.items ++ sources_at h.writes e ∷ []) h.sources.capacity
  pub table : writes ≡ h.writes ++ option_to_list (write_of e (roots_at h.writes e))
  pub same_room : room ≡ h.table_room
  pub places : (place : ℕ) × (stations ≡ record (h.stations) { held = stations_with_entry h.desc.version place (awaits_of (hold_of h.desc h.point) (reverse h.rob.entries) e) e h.stations.held })
  pub loads_and_stores : q ≡ queues_with_entry e.item.kind e.serial (base_root (roots_at h.writes e)) h.queues
  pub fetched : fetch_unit ≡ record (h.fetch_unit) { queue = drop 1 h.fetch_unit.queue }

-- what the phase makes of each part is that
pub entered_by : (h : Held) (item : Item) (s : Sources) (awaits : List (Option ℕ)) (rob : Ring) (beside : Buffer Sources) (writes : List Write) (room : ℕ) (stations : Stations) (q : Queues) (fetch_unit : FetchUnit) →
    Whole h → s.writers ≡ writers_at h.writes (entry_of_item h.desc h.next_serial item) → s.roots ≡ roots_at h.writes (entry_of_item h.desc h.next_serial item) →
    awaits ≡ map (awaited_of_writer (hold_of h.desc h.point) h.rob.entries) s.writers → rob ≡ record (h.rob) { entries = h.rob.entries ++ entry_of_item h.desc h.next_serial item ∷ [] } →
    beside ≡ buffer (h.sources.items ++ s ∷ []) h.sources.capacity → writes ≡ with_write (write_by h.next_serial item s.roots) h.writes → room ≡ h.table_room →
    (place : ℕ) × (stations ≡ with_station h.desc.version place awaits (entry_of_item h.desc h.next_serial item) h.stations) → q ≡ queues_with_entry item.kind h.next_serial (base_root s.roots) h.queues →
    fetch_unit ≡ record (h.fetch_unit) { queue = drop 1 h.fetch_unit.queue } → Entered (entry_of_item h.desc h.next_serial item) h rob beside writes room stations q fetch_unit
entered_by h item s awaits rob beside writes room stations q fetch_unit w are_writers are_roots are_awaits come pushed written same placed added taken =
    let e = entry_of_item h.desc h.next_serial item in
    let awaited = are_awaits ∙ ap (map (awaited_of_writer (hold_of h.desc h.point) h.rob.entries)) are_writers ∙ awaits_are (in_flight h) e w.refines in
    record {
      window = come;
      sources = pushed ∙ ap₂ (λ rs ws. buffer (h.sources.items ++ record { roots = rs; writers = ws } ∷ []) h.sources.capacity) are_roots are_writers;
      table = written ∙ ap (λ rs. with_write (write_by h.next_serial item rs) h.writes) are_roots;
      same_room = same;
      places = (placed.0, placed.1 ∙ ap (λ awaits. with_station h.desc.version placed.0 awaits e h.stations) awaited);
      loads_and_stores = added ∙ ap (λ rs. queues_with_entry item.kind h.next_serial (base_root rs) h.queues) are_roots;
      fetched = taken;
    }

-- the parts once an entry has come in
abbrev entered : ℕ → Entry → Held → Held
entered place e h = record h {
  rob = record (h.rob) { entries = h.rob.entries ++ e ∷ [] };
  sources = buffer (h.sources.items ++ sources_at h.writes e ∷ []) h.sources.capacity;
  writes = h.writes ++ option_to_list (write_of e (roots_at h.writes e));
  stations = record (h.stations) { held = stations_with_entry h.desc.version place (awaits_of (hold_of h.desc h.point) (reverse h.rob.entries) e) e h.stations.held };
  queues = queues_with_entry e.item.kind e.serial (base_root (roots_at h.writes e)) h.queues;
  fetch_unit = record (h.fetch_unit) { queue = drop 1 h.fetch_unit.queue };
  next_serial = h.next_serial + 1;
}

-- an entry that comes in leaves the room of the queues as it is
keeps_loads : (k : Kind) (serial : ℕ) (root : Option ℕ) (q : Queues) → (queues_with_entry k serial root q).max_loads ≡ q.max_loads
keeps_loads Load serial root q = refl
keeps_loads Store serial root q = refl
keeps_loads _ serial root q = refl

keeps_stores : (k : Kind) (serial : ℕ) (root : Option ℕ) (q : Queues) → (queues_with_entry k serial root q).max_stores ≡ q.max_stores
keeps_stores Load serial root q = refl
keeps_stores Store serial root q = refl
keeps_stores _ serial root q = refl

entered_sizes : (h : Held) (place : ℕ) (e : Entry) → sizes (entered place e h) ≡ sizes h
entered_sizes h place e =
    let a = keeps_loads e.item.kind e.serial (base_root (roots_at h.writes e)) h.queues in
    let b = keeps_stores e.item.kind e.serial (base_root (roots_at h.writes e)) h.queues in
    cc

pub first_rest : (q : List Item) (item : Item) → slice_get q 0 ≡ Some item → q ≡ item ∷ drop 1 q
first_rest [] item h = absurd (cc)
first_rest (x ∷ q) item h = cc

-- a store that loads may pass isn't cleared
starts_uncleared : (loads_pass store : Bool) → loads_pass ≡ true → store ≡ true → not (loads_pass && store) ≡ false
starts_uncleared true true p s = refl
starts_uncleared true false p s = absurd (cc)
starts_uncleared false store p s = absurd (cc)

fresh : (h : Held) (item : Item) → Fresh (in_flight h) (entry_of_item h.desc h.next_serial item)
fresh h item = record {
  serial = refl;
  unresolved = refl;
  address = refl;
  stored = refl;
  unissued = refl;
  uncleared = starts_uncleared (loads_pass h.desc) (is_store item.kind);
}

entered_whole : (h : Held) (item : Item) (place : ℕ) → Whole h → fitting h.desc h.rob.entries (slice_get h.fetch_unit.queue 0) ≡ Some item → Whole (entered place (entry_of_item h.desc h.next_serial item) h)
entered_whole h item place w q =
    let e = entry_of_item h.desc h.next_serial item in
    let found = fitting_is h.desc h.rob.entries (slice_get h.fetch_unit.queue 0) item q in
    record {
      sized = rename_item h.desc (machine_of h) item (drop 1 h.fetch_unit.queue) (first_rest h.fetch_unit.queue item found.0) found.1 w.sized;
      refines = refines_renamed (in_flight h) e (sources_at h.writes e) (awaits_of (hold_of h.desc h.point) (reverse h.rob.entries) e) place w.refines (fresh h item) refl refl refl;
      made = entered_sizes h place e ∙ w.made;
    }

one_item : (o : Option Item) (a b : Item) → o ≡ Some a → o ≡ Some b → a ≡ b
one_item o a b p q = cc

module _ (h : Held) (item : Item) (rob : Ring) (beside : Buffer Sources) (writes : List Write) (room : ℕ) (stations : Stations) (q : Queues) (fetch_unit : FetchUnit) (next : ℕ) (w : Whole h)
    (g : Entered (entry_of_item h.desc h.next_serial item) h rob beside writes room stations q fetch_unit) (n : next ≡ h.next_serial + 1) where
  are : record h { rob = rob; sources = beside; writes = writes; table_room = room; stations = stations; queues = q; fetch_unit = fetch_unit; next_serial = next } ≡ entered g.places.0 (entry_of_item h.desc h.next_serial item) h
  are =
      let e1 = g.window in
      let e2 = g.sources in
      let e4 = g.table in
      let e5 = g.same_room in
      let e6 = g.places.1 in
      let e7 = g.loads_and_stores in
      let e8 = g.fetched in
      cc

  pub enter_whole : fitting h.desc h.rob.entries (slice_get h.fetch_unit.queue 0) ≡ Some item →
      Whole (record h { rob = rob; sources = beside; writes = writes; table_room = room; stations = stations; queues = q; fetch_unit = fetch_unit; next_serial = next })
  enter_whole f = subst Whole (sym are) (entered_whole h item g.places.0 w f)

  pub enter_shown : fitting h.desc h.rob.entries (slice_get h.fetch_unit.queue 0) ≡ Some item → (v : Described) → described_of h ≡ v → (i : Item) → next_item v.desc v.machine ≡ Some i →
      described_of (record h { rob = rob; sources = beside; writes = writes; table_room = room; stations = stations; queues = q; fetch_unit = fetch_unit; next_serial = next })
      ≡ record v { machine = with_oldest v.desc i v.machine }
  enter_shown f v s i k =
      let told : next_item h.desc (machine_of h) ≡ Some i = ap (λ (v : Described). next_item v.desc v.machine) s ∙ k in
      ap described_of are ∙ ap (λ (v : Described). record v { machine = with_oldest v.desc item v.machine }) s
      ∙ ap (λ i. record v { machine = with_oldest v.desc i v.machine }) (one_item _ item i f told)
