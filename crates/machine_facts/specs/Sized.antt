-- What each phase keeps, whatever the others do: how much each part holds, and what the entries are
-- (docs/theorems.md, "What every state keeps").
use Rattle.std.specs.Prelude.{◌≡◌, ℕ, ◌≤◌, Bool, true, not, ◌&&◌, length, Option, None, Some, is_some}
use Rattle.std.specs.Prelude.{count_by}
use Rattle.std.specs.List.{AllByRecursion as Each}
use Rattle.rv_types.specs.Memory.{Ram, store_fault}
use Rattle.rv_types.specs.Kind.{kind_of}
use Rattle.rv_types.specs.declared.Kind.{Kind}
use Rattle.rv_types.specs.declared.Kind.TheVariants.{Stop}
use Rattle.machine_desc.specs.declared.Desc.{Desc}
use Rattle.window_model.specs.declared.Entry.{Entry}
use Rattle.window_model.specs.declared.Item.{Item}
use Rattle.window_model.specs.declared.Outcome.{Outcome}
use Rattle.window_model.specs.State.{Machine}
use Rattle.window_model.specs.Order.{is_waiting, is_load, is_store, has_address, has_data}
use Rattle.window_model.specs.Retire.{byte_count}
use Rattle.window_model.specs.Rename.{CallAlone}
pub use Rattle.window_model.specs.Rename.{calls}

-- an entry that waits for its issue
abbrev pub awaits : Entry → Bool
awaits e = is_waiting e.state

-- the entry is a load
abbrev pub loads : Entry → Bool
loads e = is_load e.item.kind

-- the entry is a store
abbrev pub stores : Entry → Bool
stores e = is_store e.item.kind

-- a kind that is an item's is that of its instruction, or a stop
abbrev pub FitsKind : Kind → Item → Type 0
FitsKind (Stop cause) i = Unit {0}
FitsKind k i = k ≡ kind_of i.instr

abbrev pub HasKind : Item → Type 0
HasKind i = FitsKind i.kind i

-- the outcome of a store has the fault that its address has in memory
abbrev pub FaultIs : Ram → ℕ → Option Outcome → Type 0
FaultIs ram width None = Unit {0}
FaultIs ram width (Some o) = o.fault ≡ store_fault ram o.addr width

-- a store whose address part has issued is refused by its outcome exactly where memory would refuse it
abbrev pub FitsMemory : Ram → Entry → Type 0
FitsMemory ram e = is_store e.item.kind ≡ true → has_address e ≡ true → FaultIs ram (byte_count e) e.outcome

-- a store whose address part has issued has an outcome
abbrev pub HasOutcome : Entry → Type 0
HasOutcome e = is_store e.item.kind ≡ true → has_address e ≡ true → is_some e.outcome ≡ true

-- a store that waits lacks a part, and one that doesn't has both
abbrev pub HasParts : Entry → Type 0
HasParts e = is_store e.item.kind ≡ true → (has_address e && has_data e) ≡ not (awaits e)

-- in version 1 both parts of a store go in one cycle
abbrev pub Together : Desc → Entry → Type 0
Together d e = d.version ≡ 1 → is_store e.item.kind ≡ true → has_address e ≡ has_data e

-- the state has its sizes: it holds at most what the description says, and each entry is what its instruction says
pub record Sized (d : Desc) (x : Machine) : Type 0 where
  pub entries : length x.window ≤ d.core_rob
  pub loads_fit : count_by loads x.window ≤ d.core_loads
  pub stores_fit : count_by stores x.window ≤ d.core_stores
  pub waiting_fit : count_by awaits x.window ≤ d.core_stations
  -- a call is the only entry
  pub call_alone : CallAlone x.window
  pub queue : length x.queue ≤ d.core_queue
  pub counters : length x.counters ≡ d.predictor_counters
  pub targets : length x.targets ≡ d.predictor_btb
  pub dependence : length x.dependence ≡ d.predictor_depend
  pub sets : length x.cache ≡ d.cache_sets
  pub ways : Each (λ lines. length lines ≤ d.cache_ways) x.cache
  pub second_sets : length x.second ≡ d.cache_second_sets
  pub second_ways : Each (λ lines. length lines ≤ d.cache_second_ways) x.second
  pub misses : length x.misses ≤ d.cache_mshrs
  pub registers : length x.regs ≡ 32
  pub kinds : Each (λ e. HasKind e.item) x.window
  pub item_kinds : Each HasKind x.queue
  pub memory : Each (FitsMemory x.ram) x.window
  pub outcomes : Each HasOutcome x.window
  pub parts : Each HasParts x.window
  pub together : Each (Together d) x.window
