-- What every description has, a description by a number for each key, and the longest time between two retirements.
use Rattle.std.specs.Prelude.{◌+◌, ◌*◌, ◌^◌, ◌<◌, ◌≤◌, ℕ, IsTrue}
use Rattle.machine_desc.specs.declared.Desc.{Desc}
use Rattle.machine_desc.specs.declared.SttModel.{SttModel}
use Rattle.machine_desc.specs.declared.Defence.{Defence}
use Rattle.machine_desc.specs.declared.keys.Key.{Key}
use Rattle.machine_desc.specs.declared.keys.Key.TheVariants.{CoreFetchWidth, CoreRetireWidth, CoreRob, CoreStations, CoreLoads, CoreStores, CoreQueue, UnitsAlus, UnitsMulLatency, PredictorCounters, PredictorBtb, PredictorDepend, PredictorHistory, PredictorReturns, CacheSets, CacheWays, CacheLine, CacheHitLatency, CacheMissLatency, CacheMshrs, CacheSecondSets, CacheSecondWays, CacheSecondLatency, CachePrefetch, RamBase, RamSize, RamMisaligned, SttModel as ModelKey, SttDefence as DefenceKey}
use Rattle.machine_desc.specs.Version.{IsKnown, knows_model, knows_defence, comes_between}
use Rattle.machine_desc.specs.Allowed.{MayBe, AreDesc}

-- what is asked of a description's version, numbers, model and defence
abbrev pub IsDesc : Desc → Type 0
IsDesc d = AreDesc
    d.version d.core_fetch_width d.core_retire_width d.core_rob d.core_stations d.core_loads d.core_stores
    d.core_queue d.units_alus d.units_mul_latency d.predictor_counters d.predictor_btb d.predictor_depend
    d.predictor_history d.predictor_returns d.cache_sets d.cache_ways d.cache_line d.cache_hit_latency
    d.cache_miss_latency d.cache_mshrs d.cache_second_sets d.cache_second_ways d.cache_second_latency
    d.cache_prefetch d.ram_base d.ram_size d.ram_misaligned d.stt_model d.stt_defence

-- the number that a description has at a key, and none at a key of names
abbrev pub key_number : Desc → Key → ℕ
key_number d CoreFetchWidth = d.core_fetch_width
key_number d CoreRetireWidth = d.core_retire_width
key_number d CoreRob = d.core_rob
key_number d CoreStations = d.core_stations
key_number d CoreLoads = d.core_loads
key_number d CoreStores = d.core_stores
key_number d CoreQueue = d.core_queue
key_number d UnitsAlus = d.units_alus
key_number d UnitsMulLatency = d.units_mul_latency
key_number d PredictorCounters = d.predictor_counters
key_number d PredictorBtb = d.predictor_btb
key_number d PredictorDepend = d.predictor_depend
key_number d PredictorHistory = d.predictor_history
key_number d PredictorReturns = d.predictor_returns
key_number d CacheSets = d.cache_sets
key_number d CacheWays = d.cache_ways
key_number d CacheLine = d.cache_line
key_number d CacheHitLatency = d.cache_hit_latency
key_number d CacheMissLatency = d.cache_miss_latency
key_number d CacheMshrs = d.cache_mshrs
key_number d CacheSecondSets = d.cache_second_sets
key_number d CacheSecondWays = d.cache_second_ways
key_number d CacheSecondLatency = d.cache_second_latency
key_number d CachePrefetch = d.cache_prefetch
key_number d RamBase = d.ram_base
key_number d RamSize = d.ram_size
key_number d RamMisaligned = d.ram_misaligned
key_number d ModelKey = 0
key_number d DefenceKey = 0

-- a number for each key may be the description's of this version, model and defence
abbrev pub MayBeAll : ℕ → (Key → ℕ) → SttModel → Defence → Type 0
MayBeAll v n m t = AreDesc
    v (n CoreFetchWidth) (n CoreRetireWidth) (n CoreRob) (n CoreStations) (n CoreLoads) (n CoreStores)
    (n CoreQueue) (n UnitsAlus) (n UnitsMulLatency) (n PredictorCounters) (n PredictorBtb) (n PredictorDepend)
    (n PredictorHistory) (n PredictorReturns) (n CacheSets) (n CacheWays) (n CacheLine) (n CacheHitLatency)
    (n CacheMissLatency) (n CacheMshrs) (n CacheSecondSets) (n CacheSecondWays) (n CacheSecondLatency)
    (n CachePrefetch) (n RamBase) (n RamSize) (n RamMisaligned) m t

-- the description of these numbers
abbrev pub desc_of_numbers : (v : ℕ) (n : Key → ℕ) (m : SttModel) (t : Defence) → MayBeAll v n m t → Desc
desc_of_numbers v n m t stands = record {
  version = v;
  core_fetch_width = n CoreFetchWidth;
  core_retire_width = n CoreRetireWidth;
  core_rob = n CoreRob;
  core_stations = n CoreStations;
  core_loads = n CoreLoads;
  core_stores = n CoreStores;
  core_queue = n CoreQueue;
  units_alus = n UnitsAlus;
  units_mul_latency = n UnitsMulLatency;
  predictor_counters = n PredictorCounters;
  predictor_btb = n PredictorBtb;
  predictor_depend = n PredictorDepend;
  predictor_history = n PredictorHistory;
  predictor_returns = n PredictorReturns;
  cache_sets = n CacheSets;
  cache_ways = n CacheWays;
  cache_line = n CacheLine;
  cache_hit_latency = n CacheHitLatency;
  cache_miss_latency = n CacheMissLatency;
  cache_mshrs = n CacheMshrs;
  cache_second_sets = n CacheSecondSets;
  cache_second_ways = n CacheSecondWays;
  cache_second_latency = n CacheSecondLatency;
  cache_prefetch = n CachePrefetch;
  ram_base = n RamBase;
  ram_size = n RamSize;
  ram_misaligned = n RamMisaligned;
  stt_model = m;
  stt_defence = t;
  stands = stands;
}

-- what the table of keys and the rules on several keys ask of a number for each key
pub record Meets (v : ℕ) (n : Key → ℕ) (m : SttModel) (t : Defence) : Type 0 where
  pub version : IsKnown v
  pub each : (key : Key) → MayBe v key (n key)
  pub latencies : n CacheHitLatency < n CacheMissLatency
  pub ends : n RamBase + n RamSize ≤ 2 ^ 32
  pub registers : 2 * n RamMisaligned ≤ n CacheMshrs
  pub second : IsTrue (comes_between (n CacheSecondSets) (n CacheHitLatency) (n CacheSecondLatency) (n CacheMissLatency))
  pub model : IsTrue (knows_model v m)
  pub defence : IsTrue (knows_defence v t)

-- numbers that meet it may be a description's
abbrev pub all_may_be : {v : ℕ} {n : Key → ℕ} {m : SttModel} {t : Defence} → Meets v n m t → MayBeAll v n m t
all_may_be h = record {
  version = h.version;
  fetch_width = h.each CoreFetchWidth;
  retire_width = h.each CoreRetireWidth;
  rob = h.each CoreRob;
  stations = h.each CoreStations;
  loads = h.each CoreLoads;
  stores = h.each CoreStores;
  queue = h.each CoreQueue;
  alus = h.each UnitsAlus;
  mul_latency = h.each UnitsMulLatency;
  counters = h.each PredictorCounters;
  btb = h.each PredictorBtb;
  depend = h.each PredictorDepend;
  history = h.each PredictorHistory;
  returns = h.each PredictorReturns;
  sets = h.each CacheSets;
  ways = h.each CacheWays;
  line = h.each CacheLine;
  hit_latency = h.each CacheHitLatency;
  miss_latency = (h.each CacheMissLatency, h.latencies);
  mshrs = h.each CacheMshrs;
  second_sets = h.each CacheSecondSets;
  second_ways = h.each CacheSecondWays;
  second_latency = (h.each CacheSecondLatency, h.second);
  prefetch = h.each CachePrefetch;
  ram_base = h.each RamBase;
  ram_size = (h.each RamSize, h.ends);
  misaligned = (h.each RamMisaligned, h.registers);
  model = h.model;
  defence = h.defence;
}

-- the most cycles from one retirement to the next: within so many one more instruction retires, or the run ends
abbrev pub bound : Desc → ℕ
bound d = 96 + 2 * d.cache_miss_latency + d.cache_hit_latency + d.units_mul_latency
