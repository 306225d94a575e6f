-- The queues that stand for a window's loads and stores (docs/machine.md, "State" and "Entries").
use Rattle.std.specs.Prelude.{◌≡◌, ◌≢◌, ◌<◌, ◌≤◌, ◌&&◌, ◌||◌, ℕ, Bool, true, false, not, if◌then◌else◌, List, [], ◌∷◌, is_some, map, Option, Some, None, All}
use Rattle.std.specs.List.{filter, list_all}
use Rattle.std.specs.Option.{option_map}
use Rattle.rv_types.specs.Value.{bytes_in}
use Rattle.rv_types.specs.declared.Cause.{Cause}
use Rattle.machine_desc.specs.declared.SttModel.{SttModel}
use Rattle.window_model.specs.declared.Entry.{Entry}
use Rattle.window_model.specs.Order.{fault_of, has_address, has_data, is_load, is_store}
use Rattle.window_model.specs.Retire.{addr_of, stored_of, byte_count}
use Rattle.window_model.specs.Taint.{address_tainted}
use Rattle.lsq.specs.declared.clearing.StoreInfo.{StoreInfo}
use Rattle.lsq.specs.declared.load.IssuedLoad.{IssuedLoad}
use Rattle.lsq.specs.declared.load.Load.{Load}
use Rattle.lsq.specs.declared.store.Span.{Span}
use Rattle.lsq.specs.declared.store.Store.{Store}
use Rattle.lsq.specs.Queues.{Queues}

-- ---- what queue and window both show of a store

-- where a store writes: its address, and how many bytes
pub record Area : Type 0 where
  pub addr : ℕ
  pub bytes : ℕ
  pub fault : Option Cause

-- a store: its serial, where it writes, from which cycle on that is known, and what it writes, each once that part has
-- issued, and whether it has its outcome once one has
pub record Shown : Type 0 where
  pub serial : ℕ
  pub span : Option Area
  pub known_from : Option ℕ
  pub stored : Option ℕ
  pub computed : Bool

-- what a store of the queue writes on
abbrev pub area_of : Span → Area
area_of k = record { addr = k.addr; bytes = bytes_in k.width; fault = k.fault }

-- what is looked at of a store of the queue, none of which lacks its outcome once a part of it has issued
abbrev pub shown_store : Store → Shown
shown_store s = record {
  serial = s.serial;
  span = option_map area_of s.span;
  known_from = option_map (λ (k : Span). k.known_from) s.span;
  stored = s.stored;
  computed = true;
}

-- what a store of the window writes on
abbrev pub area_in : Entry → Area
area_in e = record { addr = addr_of e.outcome; bytes = byte_count e; fault = fault_of e.outcome }

-- what is looked at of a store of the window
abbrev pub shown_entry : Entry → Shown
shown_entry e = record {
  serial = e.serial;
  span = if has_address e then Some (area_in e) else None;
  known_from = e.addr_due;
  stored = if has_data e then Some (stored_of e.outcome) else None;
  computed = not (has_address e || has_data e) || is_some e.outcome;
}

-- ---- queues and window

-- the entries' stores, in their order
abbrev pub stores_in : List Entry → List Shown
stores_in es = map shown_entry (filter (λ e. is_store e.item.kind) es)

-- the loads that are held have these serials
abbrev pub serials_of : List Load → List ℕ
serials_of loads = map (λ l. l.serial) loads

-- the serials of the entries' loads, in their order
abbrev pub loads_in : List Entry → List ℕ
loads_in es = map (λ e. e.serial) (filter (λ e. is_load e.item.kind) es)

-- the stores are those of the entries: of each is known exactly what its parts that have issued tell. Of their roots
-- it says nothing
abbrev pub StoresStandFor : List Store → List Entry → Type 0
StoresStandFor stores es = map shown_store stores ≡ stores_in es

-- the queues hold the window's loads and stores, by age
pub record StandFor (q : Queues) (window : List Entry) : Type 0 where
  pub loads : serials_of q.loads ≡ loads_in window
  pub stores : StoresStandFor q.stores window

-- ---- what is held besides where loads may pass stores

-- what a load reads, and in which cycle it issued
pub record Reading : Type 0 where
  pub area : Area
  pub cycle : ℕ

-- a load: its serial, and what it reads once it has issued
pub record ShownLoad : Type 0 where
  pub serial : ℕ
  pub reading : Option Reading

-- what is noted of a load in the queue
abbrev pub reading_of : IssuedLoad → Reading
reading_of a = record { area = record { addr = a.addr; bytes = bytes_in a.width; fault = a.fault }; cycle = a.cycle }

-- a load in the queue, with what is noted of it
abbrev pub shown_load : Load → ShownLoad
shown_load l = record { serial = l.serial; reading = option_map reading_of l.access }

-- what is tracked of a load in the window
abbrev pub shown_reader : Entry → ShownLoad
shown_reader e = record { serial = e.serial; reading = option_map (λ cycle. record { area = area_in e; cycle = cycle }) e.issued }

-- the entries' loads, in their order
abbrev pub readers_in : List Entry → List ShownLoad
readers_in es = map shown_reader (filter (λ e. is_load e.item.kind) es)

-- a store: its serial, from which cycle on its address is known, and whether it is cleared
pub record ShownClearing : Type 0 where
  pub serial : ℕ
  pub known_from : Option ℕ
  pub cleared : Bool

-- what is tracked of a store in the queue
abbrev pub shown_cleared : Store → ShownClearing
shown_cleared s = record { serial = s.serial; known_from = option_map (λ (k : Span). k.known_from) s.span; cleared = s.cleared }

-- what is tracked of a store in the window
abbrev pub shown_clearing : Entry → ShownClearing
shown_clearing e = record { serial = e.serial; known_from = e.addr_due; cleared = e.cleared }

-- the entries' stores, in their order
abbrev pub clearings_in : List Entry → List ShownClearing
clearings_in es = map shown_clearing (filter (λ e. is_store e.item.kind) es)

-- the queues hold what each load reads and when it issued, and of each store when its address became known, and whether
-- it is cleared
pub record Tracks (q : Queues) (window : List Entry) : Type 0 where
  pub loads : map shown_load q.loads ≡ readers_in window
  pub stores : map shown_cleared q.stores ≡ clearings_in window

-- what is told of a store in its place, but for its root
pub record StoreSeen : Type 0 where
  pub serial : ℕ
  pub known : Bool
  pub cleared : Bool

-- what is told of a store in the queue
abbrev pub store_seen : StoreInfo → StoreSeen
store_seen i = record { serial = i.serial; known = i.known; cleared = i.cleared }

-- what is told of a store in the window
abbrev pub seen_in_window : Entry → StoreSeen
seen_in_window e = record { serial = e.serial; known = has_address e; cleared = e.cleared }

-- both parts of each store among these entries have issued
abbrev pub all_complete : List Entry → Bool
all_complete es = list_all (λ e. not (is_store e.item.kind) || has_address e && has_data e) es

-- ---- serials

-- every entry of the list is older than this serial
abbrev pub Older : ℕ → List Entry → Type 0
Older serial es = All (λ e. e.serial < serial) es

-- no entry of the list is older than this serial
abbrev pub NotOlder : ℕ → List Entry → Type 0
NotOlder serial es = All (λ e. serial ≤ e.serial) es

-- no entry of the list has this serial
abbrev pub Others : ℕ → List Entry → Type 0
Others serial es = All (λ e. e.serial ≢ serial) es

-- ---- roots

-- there is a root, and it isn't visible
abbrev pub hides : (ℕ → Bool) → Option ℕ → Bool
hides visible None = false
hides visible (Some root) = not (visible root)

-- whether the address of each store among these entries is tainted, youngest first
abbrev pub tainted_stores : SttModel → List Entry → List Bool
tainted_stores model [] = []
tainted_stores model (e ∷ before) = if is_store e.item.kind then address_tainted model before e ∷ tainted_stores model before else tainted_stores model before
