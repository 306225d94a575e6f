-- What is asked of a description's version, numbers, model and defence.
use Rattle.std.specs.Prelude.{◌≡◌, ◌+◌, ◌*◌, ◌%◌, ◌^◌, ◌<◌, ◌≤◌, ℕ, IsTrue}
use Rattle.std.specs.Int.{IsPowerOfTwo}
use Rattle.machine_desc.specs.declared.SttModel.{SttModel}
use Rattle.machine_desc.specs.declared.Defence.{Defence}
use Rattle.machine_desc.specs.declared.keys.Key.{Key}
use Rattle.machine_desc.specs.declared.keys.Key.TheVariants.{CoreFetchWidth, CoreRetireWidth, CoreRob, CoreStations, CoreLoads, CoreStores, CoreQueue, UnitsAlus, UnitsMulLatency, PredictorCounters, PredictorBtb, PredictorDepend, PredictorHistory, PredictorReturns, CacheSets, CacheWays, CacheLine, CacheHitLatency, CacheMissLatency, CacheMshrs, CacheSecondSets, CacheSecondWays, CacheSecondLatency, CachePrefetch, RamBase, RamSize, RamMisaligned}
use Rattle.machine_desc.specs.declared.keys.Values.{Values}
use Rattle.machine_desc.specs.declared.keys.Values.TheVariants.{Numbers, Optional, Models, Defences}
use Rattle.machine_desc.specs.declared.keys.Shape.{Shape}
use Rattle.machine_desc.specs.declared.keys.Shape.TheVariants.{Any, PowerOfTwo, ZeroOrPowerOfTwo, MultipleOf16}
use Rattle.machine_desc.specs.Power.{IsZeroOrPower}
use Rattle.machine_desc.specs.Version.{IsKnown, knows_model, knows_defence, comes_between}
use Rattle.machine_desc.specs.Table.{values_of}

-- what a shape asks of a number
abbrev pub HasShape : Shape → ℕ → Type 0
HasShape Any n = Unit {0}
HasShape PowerOfTwo n = IsPowerOfTwo n
HasShape ZeroOrPowerOfTwo n = IsZeroOrPower n
HasShape MultipleOf16 n = n % 16 ≡ 0

-- a number is one of these values
abbrev pub Fits : Values → ℕ → Type 0
Fits (Numbers least most shape) n = (least ≤ n) × (n ≤ most) × HasShape shape n
Fits (Optional least most shape) n = (least ≤ n) × (n ≤ most) × HasShape shape n
Fits (Models off) n = Unit {0}
Fits (Defences every) n = Unit {0}

-- a number is one of those that the table of keys gives its key in a version
abbrev pub MayBe : ℕ → Key → ℕ → Type 0
MayBe version key n = Fits (values_of version key) n

-- the version is 1 or 2; every number is in the range of its key and of the shape of its key; the version knows the
-- model and the defence; a miss takes longer than a hit; RAM ends at or below 2^32; an access that may lie in two lines
-- has two miss registers; a line of the second level, where there is one, comes later than a hit and sooner than from
-- memory
pub record AreDesc
    (v core_fetch_width core_retire_width core_rob core_stations core_loads core_stores core_queue
    units_alus units_mul_latency predictor_counters predictor_btb predictor_depend predictor_history
    predictor_returns cache_sets cache_ways cache_line cache_hit_latency cache_miss_latency cache_mshrs
    cache_second_sets cache_second_ways cache_second_latency cache_prefetch base size ram_misaligned : ℕ)
    (stt_model : SttModel) (stt_defence : Defence) : Type 0 where
  pub version : IsKnown v
  pub fetch_width : MayBe v CoreFetchWidth core_fetch_width
  pub retire_width : MayBe v CoreRetireWidth core_retire_width
  pub rob : MayBe v CoreRob core_rob
  pub stations : MayBe v CoreStations core_stations
  pub loads : MayBe v CoreLoads core_loads
  pub stores : MayBe v CoreStores core_stores
  pub queue : MayBe v CoreQueue core_queue
  pub alus : MayBe v UnitsAlus units_alus
  pub mul_latency : MayBe v UnitsMulLatency units_mul_latency
  pub counters : MayBe v PredictorCounters predictor_counters
  pub btb : MayBe v PredictorBtb predictor_btb
  pub depend : MayBe v PredictorDepend predictor_depend
  pub history : MayBe v PredictorHistory predictor_history
  pub returns : MayBe v PredictorReturns predictor_returns
  pub sets : MayBe v CacheSets cache_sets
  pub ways : MayBe v CacheWays cache_ways
  pub line : MayBe v CacheLine cache_line
  pub hit_latency : MayBe v CacheHitLatency cache_hit_latency
  pub miss_latency : MayBe v CacheMissLatency cache_miss_latency × (cache_hit_latency < cache_miss_latency)
  pub mshrs : MayBe v CacheMshrs cache_mshrs
  pub second_sets : MayBe v CacheSecondSets cache_second_sets
  pub second_ways : MayBe v CacheSecondWays cache_second_ways
  pub second_latency : MayBe v CacheSecondLatency cache_second_latency
      × IsTrue (comes_between cache_second_sets cache_hit_latency cache_second_latency cache_miss_latency)
  pub prefetch : MayBe v CachePrefetch cache_prefetch
  pub ram_base : MayBe v RamBase base
  pub ram_size : MayBe v RamSize size × (base + size ≤ 2 ^ 32)
  pub misaligned : MayBe v RamMisaligned ram_misaligned × (2 * ram_misaligned ≤ cache_mshrs)
  pub model : IsTrue (knows_model v stt_model)
  pub defence : IsTrue (knows_defence v stt_defence)
