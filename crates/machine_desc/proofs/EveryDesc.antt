-- Whatever is asked of a description holds of every value of the type.
use Rattle.std.proofs.Common.{◌≡◌, ◌<◌, ◌⊎◌, inl, inr, ℕ, Bool, true, false, IsTrue, refl, eqb-true, ltb-true}
use Rattle.std.specs.Prelude.{◌==◌, ◌&&◌, ◌||◌, nat_lt}
use Rattle.machine_desc.specs.declared.Desc.{Desc}
use Rattle.machine_desc.specs.declared.keys.Key.{Key}
use Rattle.machine_desc.specs.declared.keys.Key.TheVariants.{CoreFetchWidth, CoreRetireWidth, CoreRob, CoreStations, CoreLoads, CoreStores, CoreQueue, UnitsAlus, UnitsMulLatency, PredictorCounters, PredictorBtb, PredictorDepend, PredictorHistory, PredictorReturns, CacheSets, CacheWays, CacheLine, CacheHitLatency, CacheMissLatency, CacheMshrs, CacheSecondSets, CacheSecondWays, CacheSecondLatency, CachePrefetch, RamBase, RamSize, RamMisaligned, SttModel as ModelKey, SttDefence as DefenceKey}
use Rattle.machine_desc.specs.Version.{comes_between}
use Rattle.machine_desc.specs.Allowed.{MayBe}
use Rattle.machine_desc.specs.Ranges.{IsDesc, key_number}

-- every value of the type of descriptions meets all its ranges
pub every_desc : (d : Desc) → IsDesc d
every_desc d = d.stands

-- each number of a description is one of its key's
pub each_is : (d : Desc) (key : Key) → MayBe d.version key (key_number d key)
each_is d CoreFetchWidth = d.stands.fetch_width
each_is d CoreRetireWidth = d.stands.retire_width
each_is d CoreRob = d.stands.rob
each_is d CoreStations = d.stands.stations
each_is d CoreLoads = d.stands.loads
each_is d CoreStores = d.stands.stores
each_is d CoreQueue = d.stands.queue
each_is d UnitsAlus = d.stands.alus
each_is d UnitsMulLatency = d.stands.mul_latency
each_is d PredictorCounters = d.stands.counters
each_is d PredictorBtb = d.stands.btb
each_is d PredictorDepend = d.stands.depend
each_is d PredictorHistory = d.stands.history
each_is d PredictorReturns = d.stands.returns
each_is d CacheSets = d.stands.sets
each_is d CacheWays = d.stands.ways
each_is d CacheLine = d.stands.line
each_is d CacheHitLatency = d.stands.hit_latency
each_is d CacheMissLatency = d.stands.miss_latency.0
each_is d CacheMshrs = d.stands.mshrs
each_is d CacheSecondSets = d.stands.second_sets
each_is d CacheSecondWays = d.stands.second_ways
each_is d CacheSecondLatency = d.stands.second_latency.0
each_is d CachePrefetch = d.stands.prefetch
each_is d RamBase = d.stands.ram_base
each_is d RamSize = d.stands.ram_size.0
each_is d RamMisaligned = d.stands.misaligned.0
each_is d ModelKey = tt
each_is d DefenceKey = tt

by_tests : (sets hit second miss : ℕ) (none low high : Bool) → (sets == 0) ≡ none → nat_lt hit second ≡ low → nat_lt second miss ≡ high
    → IsTrue (none || low && high) → (sets ≡ 0) ⊎ (hit < second) × (second < miss)
by_tests sets hit second miss true low high n l u h = inl (eqb-true sets 0 n)
by_tests sets hit second miss false true true n l u h = inr (ltb-true hit second l, ltb-true second miss u)
by_tests sets hit second miss false true false n l u h = absurd (cc)
by_tests sets hit second miss false false high n l u h = absurd (cc)

-- there is no second level, or a line of it comes later than a hit and sooner than from memory
pub none_or_between : (sets hit second miss : ℕ) → IsTrue (comes_between sets hit second miss) → (sets ≡ 0) ⊎ (hit < second) × (second < miss)
none_or_between sets hit second miss h = by_tests sets hit second miss _ _ _ refl refl refl h
