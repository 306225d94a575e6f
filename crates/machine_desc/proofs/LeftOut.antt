-- The facts that pin the keys that may be left out: the ends of their ranges, which versions know them, and what they
-- are then.
use Rattle.std.proofs.Common.{◌≡◌, ℕ, true, false, List, map, Option, Some, None, Result, Ok, refl}
use Rattle.std.specs.Prelude.{pos, codes}
use Rattle.std.specs.List.{list_all, list_any}
use lib.Count.{ones}
use Rattle.toml.specs.Data.{no_members, string}
use Rattle.machine_desc.specs.declared.keys.Key.TheVariants.{RamMisaligned, PredictorDepend, PredictorHistory, PredictorReturns, CacheSecondSets, CacheSecondWays, CacheSecondLatency, CachePrefetch, SttModel as ModelKey, SttDefence as DefenceKey}
use Rattle.machine_desc.specs.declared.keys.Section.TheVariants.{Cache, Ram, Stt}
use Rattle.machine_desc.specs.declared.keys.Key.{Key}
use Rattle.machine_desc.specs.declared.fault.DescFault.{DescFault}
use Rattle.machine_desc.specs.declared.fault.DescFault.TheVariants.{Kind, Range, Shape as WrongShape}
use Rattle.machine_desc.specs.declared.fault.Subject.TheVariants.{Key as OfKey}
use Rattle.machine_desc.specs.Version.{comes_between}
use Rattle.machine_desc.specs.Table.{values_of, row, optional_numbers, keys, is_known, some_key}
use Rattle.machine_desc.specs.Description.{fault_of, setting_in, key_fault, number}
use Rattle.machine_desc.specs.Clean.{least_of}
use Rattle.machine_desc.proofs.Versions.{told}

misaligned : (told 2 RamMisaligned 0 ≡ None) × (told 2 RamMisaligned 1 ≡ None) × (told 2 RamMisaligned 2 ≡ Some (Range RamMisaligned (pos 2)))
misaligned = (refl, refl, refl)

depend : (told 2 PredictorDepend 0 ≡ None) × (told 2 PredictorDepend 1 ≡ None) × (told 2 PredictorDepend 12 ≡ Some (WrongShape PredictorDepend))
    × (told 2 PredictorDepend 1024 ≡ None) × (told 2 PredictorDepend 2048 ≡ Some (Range PredictorDepend (pos 2048)))
unfolding ones
depend = (refl, refl, refl, refl, refl)

history : (told 2 PredictorHistory 0 ≡ None) × (told 2 PredictorHistory 12 ≡ None) × (told 2 PredictorHistory 13 ≡ Some (Range PredictorHistory (pos 13)))
history = (refl, refl, refl)

returns : (told 2 PredictorReturns 0 ≡ None) × (told 2 PredictorReturns 16 ≡ None) × (told 2 PredictorReturns 17 ≡ Some (Range PredictorReturns (pos 17)))
returns = (refl, refl, refl)

second_sets : (told 2 CacheSecondSets 0 ≡ None) × (told 2 CacheSecondSets 1 ≡ None) × (told 2 CacheSecondSets 3 ≡ Some (WrongShape CacheSecondSets))
    × (told 2 CacheSecondSets 1024 ≡ None) × (told 2 CacheSecondSets 2048 ≡ Some (Range CacheSecondSets (pos 2048)))
unfolding ones
second_sets = (refl, refl, refl, refl, refl)

second_ways : (told 2 CacheSecondWays 0 ≡ Some (Range CacheSecondWays (pos 0))) × (told 2 CacheSecondWays 1 ≡ None)
    × (told 2 CacheSecondWays 8 ≡ None) × (told 2 CacheSecondWays 9 ≡ Some (Range CacheSecondWays (pos 9)))
second_ways = (refl, refl, refl, refl)

second_latency : (told 2 CacheSecondLatency 1 ≡ Some (Range CacheSecondLatency (pos 1))) × (told 2 CacheSecondLatency 2 ≡ None)
    × (told 2 CacheSecondLatency 100 ≡ None) × (told 2 CacheSecondLatency 101 ≡ Some (Range CacheSecondLatency (pos 101)))
second_latency = (refl, refl, refl, refl)

prefetch : (told 2 CachePrefetch 0 ≡ None) × (told 2 CachePrefetch 1 ≡ None) × (told 2 CachePrefetch 2 ≡ Some (Range CachePrefetch (pos 2)))
prefetch = (refl, refl, refl)

-- ---- version 1 knows none of them, version 2 each; no other table has a key of theirs

unknown_in_1 : list_any (is_known 1) optional_numbers ≡ false
unknown_in_1 = refl

known_in_2 : list_all (is_known 2) optional_numbers ≡ true
known_in_2 = refl

by_table : (some_key 1 keys Ram (codes "misaligned") ≡ false) × (some_key 2 keys Ram (codes "misaligned") ≡ true)
    × (some_key 2 keys Cache (codes "misaligned") ≡ false) × (some_key 1 keys Cache (codes "sets") ≡ true)
by_table = (refl, refl, refl, refl)

-- ---- nor does version 1 know the third model, or a defence by name

-- the fault of a text as a key's value in a version
abbrev named : ℕ → Key → List ℕ → Option DescFault
named version key text = fault_of (setting_in key (values_of version key) (Some (string text)))

third_model : (named 1 ModelKey (codes "off") ≡ Some (Kind (OfKey ModelKey))) × (named 2 ModelKey (codes "off") ≡ None)
    × (named 1 ModelKey (codes "futuristic") ≡ None) × (named 2 ModelKey (codes "none") ≡ Some (Kind (OfKey ModelKey)))
third_model = (refl, refl, refl, refl)

defences : (some_key 1 keys Stt (codes "defence") ≡ false) × (some_key 2 keys Stt (codes "defence") ≡ true)
    × (named 2 DefenceKey (codes "stt") ≡ None) × (named 2 DefenceKey (codes "hold") ≡ None) × (named 2 DefenceKey (codes "delay") ≡ None)
    × (named 2 DefenceKey (codes "off") ≡ Some (Kind (OfKey DefenceKey))) × (key_fault 2 no_members DefenceKey ≡ None)
unfolding key_fault
defences = (refl, refl, refl, refl, refl, refl, refl)

-- ---- left out they have no fault, and in both versions the least of their numbers

abbrev left_out_in : ℕ → List (Result ℕ DescFault)
left_out_in version = map (number version no_members) optional_numbers

abbrev leasts : List (Result ℕ DescFault)
leasts = map (λ key. Ok (least_of (row 1 key).values)) optional_numbers

left_out : (left_out_in 1 ≡ leasts) × (left_out_in 2 ≡ leasts) × (key_fault 2 no_members CacheSecondWays ≡ None)
unfolding key_fault
left_out = (refl, refl, refl)

-- ---- a second level of 3 to 9 cycles comes between a hit of 2 and a miss of 10; where there is none nothing is asked

between : (comes_between 4 2 2 10 ≡ false) × (comes_between 4 2 3 10 ≡ true) × (comes_between 4 2 9 10 ≡ true) × (comes_between 4 2 10 10 ≡ false)
    × (comes_between 0 2 2 10 ≡ true)
between = (refl, refl, refl, refl, refl)
