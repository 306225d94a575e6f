-- The parts of a state, each with what is kept of it.
use Rattle.std.proofs.Common.{◌≡◌, ℕ, ◌≤◌, List, [], ◌∷◌, length, Option}
use Rattle.std.specs.Prelude.{count_by}
use Rattle.std.specs.List.{AllByRecursion as Each}
use Rattle.rv_types.specs.Memory.{Ram}
use Rattle.machine_desc.specs.declared.Desc.{Desc}
use Rattle.window_model.specs.declared.Entry.{Entry}
use Rattle.window_model.specs.declared.Item.{Item}
use Rattle.window_model.specs.State.{Machine}
use Rattle.window_model.specs.declared.Target.{Target}
use Rattle.window_model.proofs.Lists.{each_then}
use Rattle.machine_facts.specs.Sized.{Sized, HasKind, FitsMemory, HasOutcome, HasParts, Together, awaits, loads, stores, calls}

-- the window holds at most what the description gives room for
pub record WindowFits (d : Desc) (w : List Entry) : Type 0 where
  pub entries : length w ≤ d.core_rob
  pub loads_fit : count_by loads w ≤ d.core_loads
  pub stores_fit : count_by stores w ≤ d.core_stores
  pub waiting_fit : count_by awaits w ≤ d.core_stations
  pub call_alone : 1 ≤ count_by calls w → length w ≤ 1

-- an entry is what its instruction says
pub record IsEntry (d : Desc) (ram : Ram) (e : Entry) : Type 0 where
  pub kind : HasKind e.item
  pub memory : FitsMemory ram e
  pub outcome : HasOutcome e
  pub parts : HasParts e
  pub together : Together d e

pub record QueueFits (d : Desc) (q : List Item) : Type 0 where
  pub queue : length q ≤ d.core_queue
  pub item_kinds : Each HasKind q

pub record PredictorFits (d : Desc) (c : List ℕ) (t : List (Option Target)) : Type 0 where
  pub counters : length c ≡ d.predictor_counters
  pub targets : length t ≡ d.predictor_btb

-- a level of the cache has `count` sets, and each set at most `most` lines
pub record LevelFits (count most : ℕ) (level : List (List ℕ)) : Type 0 where
  pub sets : length level ≡ count
  pub ways : Each (λ lines. length lines ≤ most) level

-- the cache has the sets of the description, each with at most its ways
abbrev pub CacheFits : Desc → List (List ℕ) → Type 0
CacheFits d cache = LevelFits d.cache_sets d.cache_ways cache

-- the second level has the sets of the description, each with at most its ways
abbrev pub SecondFits : Desc → List (List ℕ) → Type 0
SecondFits d second = LevelFits d.cache_second_sets d.cache_second_ways second

-- what is kept of a whole state, part by part
pub record Fits (d : Desc) (x : Machine) : Type 0 where
  pub window : WindowFits d x.window
  pub entries : Each (IsEntry d x.ram) x.window
  pub queue : QueueFits d x.queue
  pub predictor : PredictorFits d x.counters x.targets
  pub cache : CacheFits d x.cache
  pub second : SecondFits d x.second
  pub misses : length x.misses ≤ d.cache_mshrs
  pub dependence : length x.dependence ≡ d.predictor_depend
  pub registers : length x.regs ≡ 32

each_entry : (d : Desc) (ram : Ram) (w : List Entry) → Each (λ (e : Entry). HasKind e.item) w → Each (FitsMemory ram) w → Each HasOutcome w → Each HasParts w → Each (Together d) w → Each (IsEntry d ram) w
each_entry d ram [] k m o p t = tt
each_entry d ram (e ∷ w) k m o p t = (record { kind = k.0; memory = m.0; outcome = o.0; parts = p.0; together = t.0 }, each_entry d ram w k.1 m.1 o.1 p.1 t.1)

-- a state that has its sizes fits the description part by part
pub parts : (d : Desc) (x : Machine) → Sized d x → Fits d x
parts d x s = record {
  window = record { entries = s.entries; loads_fit = s.loads_fit; stores_fit = s.stores_fit; waiting_fit = s.waiting_fit; call_alone = s.call_alone };
  entries = each_entry d x.ram x.window s.kinds s.memory s.outcomes s.parts s.together;
  queue = record { queue = s.queue; item_kinds = s.item_kinds };
  predictor = record { counters = s.counters; targets = s.targets };
  cache = record { sets = s.sets; ways = s.ways };
  second = record { sets = s.second_sets; ways = s.second_ways };
  misses = s.misses;
  dependence = s.dependence;
  registers = s.registers;
}

-- a machine whose window, queue and tables have their sizes has its sizes
pub whole : (d : Desc) (x : Machine) → Fits d x → Sized d x
whole d x f = record {
  entries = f.window.entries;
  loads_fit = f.window.loads_fit;
  stores_fit = f.window.stores_fit;
  waiting_fit = f.window.waiting_fit;
  call_alone = f.window.call_alone;
  queue = f.queue.queue;
  counters = f.predictor.counters;
  targets = f.predictor.targets;
  sets = f.cache.sets;
  ways = f.cache.ways;
  second_sets = f.second.sets;
  second_ways = f.second.ways;
  misses = f.misses;
  dependence = f.dependence;
  registers = f.registers;
  kinds = each_then (IsEntry d x.ram) (λ (e : Entry). HasKind e.item) (λ e h. h.kind) x.window f.entries;
  item_kinds = f.queue.item_kinds;
  memory = each_then (IsEntry d x.ram) (FitsMemory x.ram) (λ e h. h.memory) x.window f.entries;
  outcomes = each_then (IsEntry d x.ram) HasOutcome (λ e h. h.outcome) x.window f.entries;
  parts = each_then (IsEntry d x.ram) HasParts (λ e h. h.parts) x.window f.entries;
  together = each_then (IsEntry d x.ram) (Together d) (λ e h. h.together) x.window f.entries;
}
