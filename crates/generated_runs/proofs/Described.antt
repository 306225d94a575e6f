-- The description that has these numbers.
use Rattle.std.proofs.Common.{ℕ, Bool, IsTrue, List, get_or}
use Rattle.machine_desc.specs.declared.Desc.{Desc}
use Rattle.machine_desc.specs.declared.SttModel.{SttModel}
use Rattle.machine_desc.specs.declared.Defence.{Defence}
use Rattle.machine_desc.specs.declared.keys.Key.{Key}
use Rattle.machine_desc.specs.declared.keys.Key.TheVariants.{CoreFetchWidth, CoreRetireWidth, CoreRob, CoreStations, CoreLoads, CoreStores, CoreQueue, UnitsAlus, UnitsMulLatency, PredictorCounters, PredictorBtb, CacheSets, CacheWays, CacheLine, CacheHitLatency, CacheMissLatency, CacheMshrs, RamBase, RamSize, RamMisaligned, PredictorDepend, PredictorHistory, PredictorReturns, CacheSecondSets, CacheSecondWays, CacheSecondLatency, CachePrefetch}
use Rattle.machine_desc.specs.Table.{values_of}
use Rattle.machine_desc.specs.Clean.{least_of}
use Rattle.machine_desc.proofs.Tested.{all_pass, tested}

-- what a run's description holds: its version, its numbers in the order of their keys, its model and its defence
pub record Numbers : Type 0 where
  pub version : ℕ
  pub numbers : List ℕ
  pub model : SttModel
  pub defence : Defence

-- the number of a key, by its place
abbrev pub number_at : Numbers → ℕ → ℕ
number_at c k = get_or c.numbers k 0

-- the number of a key; one that no run names has the least of its numbers
abbrev pub run_number : Numbers → Key → ℕ
run_number c CoreFetchWidth = number_at c 0
run_number c CoreRetireWidth = number_at c 1
run_number c CoreRob = number_at c 2
run_number c CoreStations = number_at c 3
run_number c CoreLoads = number_at c 4
run_number c CoreStores = number_at c 5
run_number c CoreQueue = number_at c 6
run_number c UnitsAlus = number_at c 7
run_number c UnitsMulLatency = number_at c 8
run_number c PredictorCounters = number_at c 9
run_number c PredictorBtb = number_at c 10
run_number c CacheSets = number_at c 11
run_number c CacheWays = number_at c 12
run_number c CacheLine = number_at c 13
run_number c CacheHitLatency = number_at c 14
run_number c CacheMissLatency = number_at c 15
run_number c CacheMshrs = number_at c 16
run_number c RamBase = number_at c 17
run_number c RamSize = number_at c 18
run_number c RamMisaligned = number_at c 19
run_number c PredictorDepend = number_at c 20
run_number c PredictorHistory = number_at c 21
run_number c PredictorReturns = number_at c 22
run_number c CacheSecondSets = number_at c 23
run_number c CacheSecondWays = number_at c 24
run_number c CacheSecondLatency = number_at c 25
run_number c CachePrefetch = number_at c 26
run_number c key = least_of (values_of c.version key)

-- these numbers, this model and this defence are all that is asked of a description
abbrev pub may_be_described : Numbers → Bool
may_be_described c = all_pass c.version (run_number c) c.model c.defence

-- the description of these numbers
abbrev pub described : (c : Numbers) → IsTrue (may_be_described c) → Desc
described c h = tested c.version (run_number c) c.model c.defence h
