-- Beside Allowed.antt: a description keeps what is asked of it in one way.
use Rattle.std.specs.Prelude.{◌%◌, ℕ, Bool, true, IsTrue}
use Rattle.std.specs.Coded.{le_prop}
use mathlib.Core.HLevel.{hedberg}
use mathlib.Core.Bool.{Bool-discrete}
use native.Mathlib.Decide.{ℕ_discrete}
use Rattle.machine_desc.specs.declared.SttModel.{SttModel}
use Rattle.machine_desc.specs.declared.Defence.{Defence}
use Rattle.machine_desc.specs.declared.keys.Key.{Key}
use Rattle.machine_desc.specs.declared.keys.Key.TheVariants.{CoreFetchWidth, CoreRetireWidth, CoreRob, CoreStations, CoreLoads, CoreStores, CoreQueue, UnitsAlus, UnitsMulLatency, PredictorCounters, PredictorBtb, PredictorDepend, PredictorHistory, PredictorReturns, CacheSets, CacheWays, CacheLine, CacheHitLatency, CacheMissLatency, CacheMshrs, CacheSecondSets, CacheSecondWays, CacheSecondLatency, CachePrefetch, RamBase, RamSize, RamMisaligned}
use Rattle.machine_desc.specs.declared.keys.Values.{Values}
use Rattle.machine_desc.specs.declared.keys.Values.TheVariants.{Numbers, Optional, Models, Defences}
use Rattle.machine_desc.specs.declared.keys.Shape.{Shape}
use Rattle.machine_desc.specs.declared.keys.Shape.TheVariants.{Any, PowerOfTwo, ZeroOrPowerOfTwo, MultipleOf16}
use Rattle.machine_desc.specs.inner.Power.{power_prop, zero_or_power_prop}
use Rattle.machine_desc.specs.Version.{IsKnown}
use Rattle.machine_desc.specs.Table.{values_of}
use Rattle.machine_desc.specs.Allowed.{HasShape, Fits, MayBe, AreDesc}

shape_prop : (shape : Shape) (n : ℕ) → IsProp (HasShape shape n)
shape_prop Any n x y = λ i. tt
shape_prop PowerOfTwo n x y = power_prop n x y
shape_prop ZeroOrPowerOfTwo n x y = zero_or_power_prop n x y
shape_prop MultipleOf16 n x y = hedberg ℕ_discrete (n % 16) 0 x y

fits_prop : (values : Values) (n : ℕ) → IsProp (Fits values n)
fits_prop (Numbers least most shape) n x y = λ i. (le_prop x.0 y.0 i, le_prop x.1 y.1 i, shape_prop shape n x.2 y.2 i)
fits_prop (Optional least most shape) n x y = λ i. (le_prop x.0 y.0 i, le_prop x.1 y.1 i, shape_prop shape n x.2 y.2 i)
fits_prop (Models off) n x y = λ i. tt
fits_prop (Defences every) n x y = λ i. tt

-- any two proofs that a number is one of its key's values are one
may_be : (version : ℕ) (key : Key) (n : ℕ) → IsProp (MayBe version key n)
may_be version key n = fits_prop (values_of version key) n

known : (version : ℕ) → IsProp (IsKnown version)
known version x y = λ i. (le_prop x.0 y.0 i, le_prop x.1 y.1 i)

tested : (b : Bool) → IsProp (IsTrue b)
tested b x y = hedberg Bool-discrete b true x y

-- any two proofs that these are a description's are one
pub are_desc_prop :
    {version core_fetch_width core_retire_width core_rob core_stations core_loads core_stores core_queue
    units_alus units_mul_latency predictor_counters predictor_btb predictor_depend predictor_history
    predictor_returns cache_sets cache_ways cache_line cache_hit_latency cache_miss_latency cache_mshrs
    cache_second_sets cache_second_ways cache_second_latency cache_prefetch ram_base ram_size ram_misaligned : ℕ}
    {stt_model : SttModel} {stt_defence : Defence} →
    IsProp (AreDesc
    version core_fetch_width core_retire_width core_rob core_stations core_loads core_stores core_queue
    units_alus units_mul_latency predictor_counters predictor_btb predictor_depend predictor_history
    predictor_returns cache_sets cache_ways cache_line cache_hit_latency cache_miss_latency cache_mshrs
    cache_second_sets cache_second_ways cache_second_latency cache_prefetch ram_base ram_size ram_misaligned stt_model stt_defence)
are_desc_prop {version} x y =
    λ i. record {
      version = known version x.version y.version i;
      fetch_width = may_be version CoreFetchWidth _ x.fetch_width y.fetch_width i;
      retire_width = may_be version CoreRetireWidth _ x.retire_width y.retire_width i;
      rob = may_be version CoreRob _ x.rob y.rob i;
      stations = may_be version CoreStations _ x.stations y.stations i;
      loads = may_be version CoreLoads _ x.loads y.loads i;
      stores = may_be version CoreStores _ x.stores y.stores i;
      queue = may_be version CoreQueue _ x.queue y.queue i;
      alus = may_be version UnitsAlus _ x.alus y.alus i;
      mul_latency = may_be version UnitsMulLatency _ x.mul_latency y.mul_latency i;
      counters = may_be version PredictorCounters _ x.counters y.counters i;
      btb = may_be version PredictorBtb _ x.btb y.btb i;
      depend = may_be version PredictorDepend _ x.depend y.depend i;
      history = may_be version PredictorHistory _ x.history y.history i;
      returns = may_be version PredictorReturns _ x.returns y.returns i;
      sets = may_be version CacheSets _ x.sets y.sets i;
      ways = may_be version CacheWays _ x.ways y.ways i;
      line = may_be version CacheLine _ x.line y.line i;
      hit_latency = may_be version CacheHitLatency _ x.hit_latency y.hit_latency i;
      miss_latency = (may_be version CacheMissLatency _ x.miss_latency.0 y.miss_latency.0 i, le_prop x.miss_latency.1 y.miss_latency.1 i);
      mshrs = may_be version CacheMshrs _ x.mshrs y.mshrs i;
      second_sets = may_be version CacheSecondSets _ x.second_sets y.second_sets i;
      second_ways = may_be version CacheSecondWays _ x.second_ways y.second_ways i;
      second_latency = (may_be version CacheSecondLatency _ x.second_latency.0 y.second_latency.0 i, tested _ x.second_latency.1 y.second_latency.1 i);
      prefetch = may_be version CachePrefetch _ x.prefetch y.prefetch i;
      ram_base = may_be version RamBase _ x.ram_base y.ram_base i;
      ram_size = (may_be version RamSize _ x.ram_size.0 y.ram_size.0 i, le_prop x.ram_size.1 y.ram_size.1 i);
      misaligned = (may_be version RamMisaligned _ x.misaligned.0 y.misaligned.0 i, le_prop x.misaligned.1 y.misaligned.1 i);
      model = tested _ x.model y.model i;
      defence = tested _ x.defence y.defence i;
    }
