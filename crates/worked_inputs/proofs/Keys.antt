-- The keys of a description, one by one: the least and the most of each, shapes, and what stands for one that is left
-- out (docs/formats.md, "Keys" and "Keys that may be left out").
use Rattle.std.proofs.Common.{◌≡◌, List, [], ◌∷◌, Option, Some, None, Result, Ok, Err, refl}
use Rattle.std.specs.Prelude.{Bool, true, false, ℕ, ℤ, pos, negsuc, zero, suc, ◌++◌, ◌+◌, ◌==◌, ◌&&◌, codes}
use Rattle.std.specs.Fmt.{digits, signed_decimal}
use Rattle.std.specs.Str.{bytes_eq}
use lib.Count.{ones}
use Prim.Native.String.{String}
use Rattle.toml.specs.Data.{Members, integer, no_members}
use Rattle.machine_desc.specs.declared.fault.DescFault.{DescFault}
use Rattle.machine_desc.specs.declared.keys.Key.{Key}
use Rattle.machine_desc.specs.declared.keys.Key.TheVariants.{CoreFetchWidth, CoreRetireWidth, CoreRob, CoreStations, CoreLoads, CoreStores, CoreQueue, UnitsAlus, UnitsMulLatency, PredictorCounters, PredictorBtb, CacheSets, CacheWays, CacheLine, CacheHitLatency, CacheMissLatency, CacheMshrs, RamBase, RamSize, RamMisaligned, PredictorDepend, PredictorHistory, PredictorReturns, CacheSecondSets, CacheSecondWays, CacheSecondLatency, CachePrefetch}
use Rattle.machine_desc.specs.Description.{key_fault, number as number_of_key}
use Rattle.run_inputs.specs.Note.{description_fault}
use Rattle.worked_inputs.proofs.Tables.{all, is_text}
use Rattle.worked_inputs.proofs.Documents.{with_key}

-- a document that has nothing but this number
abbrev only : String → String → ℤ → Members
only section name z = with_key section name (integer z) no_members

-- what is told of a fault of a key, and nothing where there is none
abbrev line_of : Option DescFault → List ℕ
line_of None = []
line_of (Some fault) = description_fault fault

abbrev fault_at : ℕ → Key → Members → List ℕ
fault_at version key document = line_of (key_fault version document key)

-- an answer is this number
abbrev is_number : ℕ → Result ℕ DescFault → Bool
is_number n (Ok m) = m == n
is_number n (Err fault) = false

-- a number is accepted, as it is
abbrev takes : ℕ → Key → String → String → ℕ → Bool
takes version key section name n =
    let document = only section name (pos n) in
    is_text (fault_at version key document) "" && is_number n (number_of_key version document key)

-- a number is refused with this number of a fault, the key's name, and the rest of the line
abbrev refuses : String → List ℕ → ℕ → Key → String → String → ℤ → Bool
refuses fault rest version key section name z =
    bytes_eq (fault_at version key (only section name z)) (codes fault ++ codes " " ++ codes section ++ codes "." ++ codes name ++ rest)

-- a number is refused as outside the range
abbrev is_outside : ℕ → Key → String → String → ℤ → Bool
is_outside version key section name z = refuses "K5" (codes " " ++ signed_decimal z) version key section name z

-- the whole number before one
abbrev before : ℕ → ℤ
before zero = negsuc 0
before (suc n) = pos n

-- the range of a key in a version: the least and the most are taken, and the numbers before and behind are not
abbrev spans : ℕ → Key → String → String → ℕ → ℕ → Bool
spans version key section name least most =
    takes version key section name least && takes version key section name most
    && is_outside version key section name (before least) && is_outside version key section name (pos (most + 1))

-- a number of the range that has another shape
abbrev has_no_shape : Key → String → String → ℕ → Bool
has_no_shape key section name n = refuses "K6" [] 2 key section name (pos n)

-- the number that stands for a key that is left out
abbrev left_out : ℕ → Key → ℕ → Bool
left_out version key n = is_text (fault_at version key no_members) "" && is_number n (number_of_key version no_members key)

-- the keys that have to be there, in version 1
ranges_of_version_1 : all (
    spans 1 CoreFetchWidth "core" "fetch_width" 1 4 ∷
    spans 1 CoreRetireWidth "core" "retire_width" 1 4 ∷
    spans 1 CoreRob "core" "rob" 4 64 ∷
    spans 1 CoreStations "core" "stations" 2 32 ∷
    spans 1 CoreLoads "core" "loads" 1 16 ∷
    spans 1 CoreStores "core" "stores" 1 16 ∷
    spans 1 CoreQueue "core" "queue" 1 16 ∷
    spans 1 UnitsAlus "units" "alus" 1 4 ∷
    spans 1 UnitsMulLatency "units" "mul_latency" 1 8 ∷
    spans 1 PredictorCounters "predictor" "counters" 2 4096 ∷
    spans 1 PredictorBtb "predictor" "btb" 1 256 ∷
    spans 1 CacheSets "cache" "sets" 1 256 ∷
    spans 1 CacheWays "cache" "ways" 1 8 ∷
    spans 1 CacheLine "cache" "line" 4 64 ∷
    spans 1 CacheHitLatency "cache" "hit_latency" 1 8 ∷
    spans 1 CacheMissLatency "cache" "miss_latency" 2 200 ∷
    spans 1 CacheMshrs "cache" "mshrs" 1 8 ∷
    spans 1 RamBase "ram" "base" 0 4294963200 ∷
    spans 1 RamSize "ram" "size" 4096 16777216 ∷
    []) ≡ true
unfolding key_fault digits ones
ranges_of_version_1 = refl

-- the keys that have to be there, in version 2, where five go further
ranges_of_version_2 : all (
    spans 2 CoreFetchWidth "core" "fetch_width" 1 4 ∷
    spans 2 CoreRetireWidth "core" "retire_width" 1 4 ∷
    spans 2 CoreRob "core" "rob" 4 192 ∷
    spans 2 CoreStations "core" "stations" 2 96 ∷
    spans 2 CoreLoads "core" "loads" 1 64 ∷
    spans 2 CoreStores "core" "stores" 1 48 ∷
    spans 2 CoreQueue "core" "queue" 1 32 ∷
    spans 2 UnitsAlus "units" "alus" 1 4 ∷
    spans 2 UnitsMulLatency "units" "mul_latency" 1 8 ∷
    spans 2 PredictorCounters "predictor" "counters" 2 4096 ∷
    spans 2 PredictorBtb "predictor" "btb" 1 256 ∷
    spans 2 CacheSets "cache" "sets" 1 256 ∷
    spans 2 CacheWays "cache" "ways" 1 8 ∷
    spans 2 CacheLine "cache" "line" 4 64 ∷
    spans 2 CacheHitLatency "cache" "hit_latency" 1 8 ∷
    spans 2 CacheMissLatency "cache" "miss_latency" 2 200 ∷
    spans 2 CacheMshrs "cache" "mshrs" 1 8 ∷
    spans 2 RamBase "ram" "base" 0 4294963200 ∷
    spans 2 RamSize "ram" "size" 4096 16777216 ∷
    []) ≡ true
unfolding key_fault digits ones
ranges_of_version_2 = refl

-- the keys that may be left out, in version 2
ranges_of_keys_left_out : all (
    spans 2 RamMisaligned "ram" "misaligned" 0 1 ∷
    spans 2 PredictorDepend "predictor" "depend" 0 1024 ∷
    spans 2 PredictorHistory "predictor" "history" 0 12 ∷
    spans 2 PredictorReturns "predictor" "returns" 0 16 ∷
    spans 2 CacheSecondSets "cache" "second_sets" 0 1024 ∷
    spans 2 CacheSecondWays "cache" "second_ways" 1 8 ∷
    spans 2 CacheSecondLatency "cache" "second_latency" 2 100 ∷
    spans 2 CachePrefetch "cache" "prefetch" 0 1 ∷
    []) ≡ true
unfolding key_fault digits ones
ranges_of_keys_left_out = refl

-- powers of two alone
powers_of_two : all (
    takes 2 PredictorCounters "predictor" "counters" 4 ∷
    has_no_shape PredictorCounters "predictor" "counters" 3 ∷
    has_no_shape PredictorCounters "predictor" "counters" 6 ∷
    has_no_shape PredictorCounters "predictor" "counters" 4095 ∷
    takes 2 PredictorBtb "predictor" "btb" 2 ∷
    has_no_shape PredictorBtb "predictor" "btb" 3 ∷
    has_no_shape PredictorBtb "predictor" "btb" 255 ∷
    takes 2 CacheSets "cache" "sets" 128 ∷
    has_no_shape CacheSets "cache" "sets" 3 ∷
    has_no_shape CacheSets "cache" "sets" 192 ∷
    takes 2 CacheLine "cache" "line" 8 ∷
    has_no_shape CacheLine "cache" "line" 6 ∷
    has_no_shape CacheLine "cache" "line" 48 ∷
    []) ≡ true
unfolding key_fault digits ones
powers_of_two = refl

-- zero or a power of two alone
zero_or_powers_of_two : all (
    takes 2 PredictorDepend "predictor" "depend" 1 ∷
    takes 2 PredictorDepend "predictor" "depend" 2 ∷
    has_no_shape PredictorDepend "predictor" "depend" 3 ∷
    has_no_shape PredictorDepend "predictor" "depend" 12 ∷
    has_no_shape PredictorDepend "predictor" "depend" 1023 ∷
    takes 2 CacheSecondSets "cache" "second_sets" 1 ∷
    takes 2 CacheSecondSets "cache" "second_sets" 512 ∷
    has_no_shape CacheSecondSets "cache" "second_sets" 3 ∷
    has_no_shape CacheSecondSets "cache" "second_sets" 1000 ∷
    []) ≡ true
unfolding key_fault digits ones
zero_or_powers_of_two = refl

-- multiples of 16 alone
multiples_of_16 : all (
    takes 2 RamBase "ram" "base" 16 ∷
    has_no_shape RamBase "ram" "base" 1 ∷
    has_no_shape RamBase "ram" "base" 8 ∷
    has_no_shape RamBase "ram" "base" 4294963192 ∷
    takes 2 RamSize "ram" "size" 4112 ∷
    has_no_shape RamSize "ram" "size" 4097 ∷
    has_no_shape RamSize "ram" "size" 4104 ∷
    []) ≡ true
unfolding key_fault digits ones
multiples_of_16 = refl

-- any number of their ranges
any_shape : all (
    takes 2 CoreFetchWidth "core" "fetch_width" 3 ∷
    takes 2 CoreRetireWidth "core" "retire_width" 3 ∷
    takes 2 CoreRob "core" "rob" 5 ∷
    takes 2 CoreStations "core" "stations" 3 ∷
    takes 2 CoreLoads "core" "loads" 3 ∷
    takes 2 CoreStores "core" "stores" 3 ∷
    takes 2 CoreQueue "core" "queue" 3 ∷
    takes 2 UnitsAlus "units" "alus" 3 ∷
    takes 2 UnitsMulLatency "units" "mul_latency" 3 ∷
    takes 2 CacheWays "cache" "ways" 3 ∷
    takes 2 CacheHitLatency "cache" "hit_latency" 3 ∷
    takes 2 CacheMissLatency "cache" "miss_latency" 3 ∷
    takes 2 CacheMshrs "cache" "mshrs" 3 ∷
    takes 2 PredictorHistory "predictor" "history" 3 ∷
    takes 2 PredictorReturns "predictor" "returns" 3 ∷
    takes 2 CacheSecondWays "cache" "second_ways" 3 ∷
    takes 2 CacheSecondLatency "cache" "second_latency" 3 ∷
    []) ≡ true
unfolding key_fault digits ones
any_shape = refl

-- what stands for a number that is left out, in both versions
numbers_left_out : all (
    left_out 1 RamMisaligned 0 ∷
    left_out 2 RamMisaligned 0 ∷
    left_out 1 PredictorDepend 0 ∷
    left_out 2 PredictorDepend 0 ∷
    left_out 1 PredictorHistory 0 ∷
    left_out 2 PredictorHistory 0 ∷
    left_out 1 PredictorReturns 0 ∷
    left_out 2 PredictorReturns 0 ∷
    left_out 1 CacheSecondSets 0 ∷
    left_out 2 CacheSecondSets 0 ∷
    left_out 1 CacheSecondWays 1 ∷
    left_out 2 CacheSecondWays 1 ∷
    left_out 1 CacheSecondLatency 2 ∷
    left_out 2 CacheSecondLatency 2 ∷
    left_out 1 CachePrefetch 0 ∷
    left_out 2 CachePrefetch 0 ∷
    []) ≡ true
unfolding key_fault digits ones
numbers_left_out = refl
