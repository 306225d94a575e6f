-- What queues that stand for a window tell of it.
use Rattle.std.specs.Prelude.{◌≡◌, ℕ, ◌≤◌, Bool, true, not, ◌&&◌, ◌||◌, List, ◌∷◌, ◌++◌, length, map, reverse, Option, is_some, slice_get}
use Rattle.std.specs.List.{count_by, filter, list_any, list_all}
use Rattle.std.specs.Option.{option_map}
use Rattle.rv_types.specs.Memory.{Ram, range}
use Rattle.rv_types.specs.declared.Cause.{Cause}
use Rattle.machine_desc.specs.declared.SttModel.{SttModel}
use Rattle.window_model.specs.declared.Entry.{Entry}
use Rattle.window_model.specs.Order.{first, is_load, is_store}
use Rattle.window_model.specs.Serials.{Rise}
use Rattle.window_model.specs.Access.{all_covered, any_store_hidden, load_bytes}
use Rattle.window_model.specs.Clear.{is_violated}
use Rattle.window_model.specs.MayIssue.{stores_let}
use Rattle.lsq.specs.declared.store.Store.{Store}
use Rattle.lsq.specs.Queues.{Queues, is_known, older, youngest_root}
use Rattle.lsq.specs.Clearing.{info_of, violated_by}
use Rattle.lsq.specs.Merging.{all_forwarded, merged_bytes}
use Rattle.lsq.specs.Pending.{bytes_asked, lacks_address, lacks_data_for}
use Rattle.queue_laws.specs.Window.{NotOlder, Older, StandFor, StoresStandFor, Tracks, all_complete, hides, tainted_stores, seen_in_window, store_seen}

-- as many loads and stores are held as the window has
abbrev pub RoomAsCounted : Type 0
RoomAsCounted = (q : Queues) (window : List Entry) → StandFor q window →
    (length q.loads ≡ count_by (λ e. is_load e.item.kind) window) × (length q.stores ≡ count_by (λ e. is_store e.item.kind) window)

-- the stores older than a serial are those that an entry with it looks back on
abbrev pub HoldsOlder : Type 0
HoldsOlder = (q : Queues) (old rest : List Entry) (serial : ℕ) → StandFor q (old ++ rest) → Older serial old → NotOlder serial rest →
    StoresStandFor (older serial q.stores) (reverse old)

-- older stores are all known where both parts of each have issued
abbrev pub KnownAsComplete : Type 0
KnownAsComplete = (stores : List Store) (before : List Entry) → StoresStandFor stores before → list_all is_known stores ≡ all_complete before

-- older stores let a load go where the queue says so: the address of each is known, or the load passes those of which
-- it isn't; none that the load meets lacks its data; and the youngest root of the addresses of those that lack it is
-- visible, if each store's root isn't where its own address is tainted, and what is older than a visible load is
-- visible
abbrev pub LetsAsAsked : Type 0
LetsAsAsked = (model : SttModel) (passes : Bool) (visible : ℕ → Bool) → ((a b : ℕ) → a ≤ b → visible b ≡ true → visible a ≡ true) →
    (stores : List Store) (before : List Entry) (fault : Option Cause) (a n : ℕ) → StoresStandFor stores before →
    map (λ s. hides visible s.root) stores ≡ tainted_stores model before →
    stores_let model passes (bytes_asked fault a n) before ≡ ((passes || not (list_any lacks_address stores))
    && not (list_any (lacks_data_for (bytes_asked fault a n)) stores)
    && not (hides visible (youngest_root (filter (λ s. not (is_some s.stored)) stores))))

-- a load that older stores let go finds its bytes
abbrev pub BytesAsLoaded : Type 0
BytesAsLoaded = (model : SttModel) (passes : Bool) (ram : Ram) (stores : List Store) (before : List Entry) (a n : ℕ) →
    StoresStandFor stores before → stores_let model passes (range a n) before ≡ true →
    merged_bytes ram stores a n ≡ load_bytes ram before a n

-- a load that older stores let go is told whether they cover all its bytes
abbrev pub CoveredAsAsked : Type 0
CoveredAsAsked = (model : SttModel) (passes : Bool) (stores : List Store) (before : List Entry) (a n : ℕ) →
    StoresStandFor stores before → stores_let model passes (range a n) before ≡ true →
    all_forwarded stores a n ≡ all_covered before a n

-- the youngest root isn't visible where some older store has a tainted address, if each store's root isn't where its
-- own address is tainted, and what is older than a visible load is visible
abbrev pub HiddenAsTainted : Type 0
HiddenAsTainted = (model : SttModel) (visible : ℕ → Bool) → ((a b : ℕ) → a ≤ b → visible b ≡ true → visible a ≡ true) →
    (stores : List Store) (before : List Entry) → map (λ s. hides visible s.root) stores ≡ tainted_stores model before →
    hides visible (youngest_root stores) ≡ any_store_hidden model before

-- ---- where loads may pass stores

-- the queue's oldest load that is violated by a store is the one that the machine finds among the younger entries
abbrev pub Violates : Type 0
Violates = (q : Queues) (before younger : List Entry) (store : Entry) → StandFor q (before ++ store ∷ younger) → Tracks q (before ++ store ∷ younger) →
    Rise (before ++ store ∷ younger) → is_store store.item.kind ≡ true →
    violated_by store.serial q.stores q.loads ≡ option_map (λ p. p.entry.serial) (first (λ between e. is_violated store e) younger)

-- what the queue tells of the store at a place is so of the window's
abbrev pub TellsInPlace : Type 0
TellsInPlace = (q : Queues) (window : List Entry) (place : ℕ) → Tracks q window →
    option_map store_seen (option_map info_of (slice_get q.stores place))
    ≡ option_map seen_in_window (slice_get (filter (λ e. is_store e.item.kind) window) place)
