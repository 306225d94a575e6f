-- What an entry in flight leaves in the parts of a core, its footprint: a function of the entry and the older ones
-- (docs/architecture.md, "How the parts refine the window"). `before` is always a list of the older entries, youngest
-- first.
use Rattle.std.specs.Prelude.{ℕ, Bool, true, not, ◌&&◌, ◌||◌, List, [], ◌∷◌, is_some, map, Option, Some, None, if◌then◌else◌}
use Rattle.std.specs.List.{cons_option}
use Rattle.std.specs.Option.{option_map}
use Rattle.window_model.specs.declared.Entry.{Entry}
use Rattle.window_model.specs.Order.{has_address, has_data, is_load, is_store}
use Rattle.window_model.specs.Retire.{stored_of}
use Rattle.rename_taint.specs.declared.Write.{Write}
use Rattle.rob_ring.specs.declared.beside.Sources.{Sources}
use Rattle.lsq.specs.declared.load.Load.{Load}
use Rattle.lsq.specs.declared.store.Span.{Span}
use Rattle.lsq.specs.declared.store.Store.{Store}
use Rattle.queue_laws.specs.Window.{Area, ShownLoad, area_in, area_of, reading_of, shown_reader}
use Rattle.refinement.specs.Roots.{base_root, source_roots, root_in_flight}
use Rattle.refinement.specs.Waiters.{Hold, Waiter, awaits_of, waiter_footprint, write_of}
use Rattle.refinement.specs.Writers.{source_writers}

-- ---- what an entry looks back on

-- what an entry's sources find among the older ones: their youngest roots, the serials of their writers, and those that
-- they await
pub record Found : Type 0 where
  pub roots : List (Option ℕ)
  pub writers : List (Option ℕ)
  pub awaits : List (Option ℕ)

-- an entry looks back on the older ones, where results are so held back
abbrev pub look_back : Hold → List Entry → Entry → Found
look_back h before e = record { roots = source_roots before e; writers = source_writers before e; awaits = awaits_of h before e }

-- ---- what an entry leaves in the parts

-- a store: its serial, the root of its address, where it writes, from which cycle on that is known, and what it writes,
-- each once that part has issued, whether it has its outcome once one has, and, where loads may pass stores, whether it
-- is cleared
pub record StoreFootprint : Type 0 where
  pub serial : ℕ
  pub root : Option ℕ
  pub span : Option Area
  pub known_from : Option ℕ
  pub stored : Option ℕ
  pub computed : Bool
  pub cleared : Bool

-- what an entry leaves in the parts: its sources, what it writes, its station if it waits, and what a load or store is
-- noted with
pub record Footprint : Type 0 where
  pub serial : ℕ
  pub sources : Sources
  pub write : Option Write
  pub waiter : Option Waiter
  pub load : Option ShownLoad
  pub store : Option StoreFootprint

-- the version of the machine, what holds results back, and whether what loads read and who is cleared is tracked
pub record Terms : Type 0 where
  pub version : ℕ
  pub hold : Hold
  pub tracked : Bool

-- what the queue holds of a load
abbrev pub load_footprint : Terms → Entry → ShownLoad
load_footprint t e = record { serial = e.serial; reading = if t.tracked then (shown_reader e).reading else None }

-- what the queue holds of a store, by the root of its address
abbrev pub store_footprint : Terms → Option ℕ → Entry → StoreFootprint
store_footprint t root e = record {
  serial = e.serial;
  root = root;
  span = if has_address e then Some (area_in e) else None;
  known_from = e.addr_due;
  stored = if has_data e then Some (stored_of e.outcome) else None;
  computed = not (has_address e || has_data e) || is_some e.outcome;
  cleared = t.tracked && e.cleared;
}

-- an entry's footprint by what it finds among the older ones
abbrev pub footprint_by : Terms → Found → Entry → Footprint
footprint_by t l e = record {
  serial = e.serial;
  sources = record { roots = l.roots; writers = l.writers };
  write = write_of e l.roots;
  waiter = waiter_footprint t.version l.awaits e;
  load = if is_load e.item.kind then Some (load_footprint t e) else None;
  store = if is_store e.item.kind then Some (store_footprint t (base_root l.roots) e) else None;
}

-- an entry's footprint, by the older ones
abbrev pub footprint_of : Terms → List Entry → Entry → Footprint
footprint_of t before e = footprint_by t (look_back t.hold before e) e

-- what one of the parts holds: a field of the footprints, of the entries that have it
abbrev pub column : {X : Type 0} → (Footprint → Option X) → List Footprint → List X
column field [] = []
column field (k ∷ ks) = cons_option (field k) (column field ks)

-- ---- what a part shows of its items: roots and writers only where they haven't retired

-- sources, with the roots and writers that haven't retired
abbrev pub unretired_sources : ℕ → Sources → Sources
unretired_sources oldest s = record { roots = map (root_in_flight oldest) s.roots; writers = map (root_in_flight oldest) s.writers }

-- a write of the table, with its root if that hasn't retired
abbrev pub unretired_write : ℕ → Write → Write
unretired_write oldest w = record w { root = root_in_flight oldest w.root }

-- a load in the queue
abbrev pub load_in : Terms → Load → ShownLoad
load_in t l = record { serial = l.serial; reading = if t.tracked then option_map reading_of l.access else None }

-- a store in the queue, none of which a part has issued without its outcome
abbrev pub store_in : Terms → ℕ → Store → StoreFootprint
store_in t oldest s = record {
  serial = s.serial;
  root = root_in_flight oldest s.root;
  span = option_map area_of s.span;
  known_from = option_map (λ (k : Span). k.known_from) s.span;
  stored = s.stored;
  computed = true;
  cleared = t.tracked && s.cleared;
}
