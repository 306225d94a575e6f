-- The example of docs/formats.md, "Machine descriptions".
use Rattle.std.proofs.Common.{ℕ, refl, inl, lit<, lit≤}
use Rattle.machine_desc.specs.declared.Desc.{Desc}
use Rattle.machine_desc.specs.declared.SttModel.TheVariants.{Spectre}
use Rattle.machine_desc.specs.declared.Defence.TheVariants.{Stt}
use Rattle.machine_desc.specs.declared.keys.Key.{Key}
use Rattle.machine_desc.specs.declared.keys.Key.TheVariants.{CoreFetchWidth, CoreRetireWidth, CoreRob, CoreStations, CoreLoads, CoreStores, CoreQueue, UnitsAlus, UnitsMulLatency, PredictorCounters, PredictorBtb, CacheSets, CacheWays, CacheLine, CacheHitLatency, CacheMissLatency, CacheMshrs, RamBase, RamSize, PredictorDepend, CacheSecondSets, SttModel as ModelKey, SttDefence as DefenceKey}
use Rattle.machine_desc.specs.Table.{row}
use Rattle.machine_desc.specs.Allowed.{MayBe}
use Rattle.machine_desc.specs.Ranges.{desc_of_numbers, all_may_be}
use Rattle.machine_desc.specs.Clean.{least_of}

-- the numbers of the example; those of the keys that it leaves out are their least
abbrev pub example_number : Key → ℕ
example_number CoreFetchWidth = 2
example_number CoreRetireWidth = 2
example_number CoreRob = 16
example_number CoreStations = 8
example_number CoreLoads = 4
example_number CoreStores = 4
example_number CoreQueue = 8
example_number UnitsAlus = 2
example_number UnitsMulLatency = 3
example_number PredictorCounters = 16
example_number PredictorBtb = 4
example_number CacheSets = 2
example_number CacheWays = 2
example_number CacheLine = 16
example_number CacheHitLatency = 2
example_number CacheMissLatency = 10
example_number CacheMshrs = 2
example_number RamBase = 65536
example_number RamSize = 65536
example_number key = least_of (row 1 key).values

-- each is what its key asks for
abbrev pub each_is_asked : (key : Key) → MayBe 1 key (example_number key)
each_is_asked PredictorCounters = (lit≤ tt, lit≤ tt, (4, refl))
each_is_asked PredictorBtb = (lit≤ tt, lit≤ tt, (2, refl))
each_is_asked CacheSets = (lit≤ tt, lit≤ tt, (1, refl))
each_is_asked CacheLine = (lit≤ tt, lit≤ tt, (4, refl))
each_is_asked RamBase = (lit≤ tt, lit≤ tt, refl)
each_is_asked RamSize = (lit≤ tt, lit≤ tt, refl)
each_is_asked PredictorDepend = (lit≤ tt, lit≤ tt, inl refl)
each_is_asked CacheSecondSets = (lit≤ tt, lit≤ tt, inl refl)
each_is_asked ModelKey = tt
each_is_asked DefenceKey = tt
each_is_asked _ = (lit≤ tt, lit≤ tt, tt)

-- the description of the example
abbrev pub example : Desc
example = desc_of_numbers 1 example_number Spectre Stt (all_may_be (record {
  version = (lit≤ tt, lit≤ tt);
  each = each_is_asked;
  latencies = lit< tt;
  ends = lit≤ tt;
  registers = lit≤ tt;
  second = refl;
  model = refl;
  defence = refl;
}))
