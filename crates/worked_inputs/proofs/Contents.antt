-- Which number of a description is which key's, and what stands for keys that are left out (docs/formats.md, "Machine
-- descriptions").
use Rattle.std.proofs.Common.{◌≡◌, IsTrue, [], ◌∷◌, Ok, refl}
use Rattle.std.specs.Prelude.{ℕ, ◌++◌, map}
use lib.Count.{ones}
use Rattle.toml.specs.Data.{Members, no_members}
use Rattle.machine_desc.specs.declared.Desc.{Desc}
use Rattle.machine_desc.specs.declared.SttModel.TheVariants.{Spectre, Off}
use Rattle.machine_desc.specs.declared.Defence.TheVariants.{Stt, Hold}
use Rattle.machine_desc.specs.Description.{document_fault, end_fault, key_fault, keys_fault, latency_fault, registers_fault, second_fault, sections_fault, top_fault}
use Rattle.machine_desc.specs.Description.{Setting, OneNumber, OneModel, OneDefence, Contents, contents, document_contents}
use Rattle.machine_desc.specs.declared.keys.Key.{Key}
use Rattle.machine_desc.specs.declared.keys.Key.TheVariants.{CoreFetchWidth, CoreRetireWidth, CoreRob, CoreStations, CoreLoads, CoreStores, CoreQueue, UnitsAlus, UnitsMulLatency, PredictorCounters, PredictorBtb, CacheSets, CacheWays, CacheLine, CacheHitLatency, CacheMissLatency, CacheMshrs, RamBase, RamSize, RamMisaligned, PredictorDepend, PredictorHistory, PredictorReturns, CacheSecondSets, CacheSecondWays, CacheSecondLatency, CachePrefetch, SttModel as ModelKey, SttDefence as DefenceKey}
use Rattle.machine_desc.specs.Table.{row, keys, optional_numbers}
use Rattle.machine_desc.specs.Clean.{least_of}
use Rattle.machine_desc.specs.Example.{example}
use Rattle.machine_desc.proofs.Tested.{all_pass, tested}
use Rattle.worked_inputs.proofs.Documents.{number, text, with_top, with_key, table_of, example_1, example_2}

-- the contents of the example: those of its keys, and for each one that is left out the least that it may have
abbrev example_contents : ℕ → Contents
example_contents version = record {
  version = version;
  settings =
      map OneNumber (2 ∷ 2 ∷ 16 ∷ 8 ∷ 4 ∷ 4 ∷ 8 ∷ 2 ∷ 3 ∷ 16 ∷ 4 ∷ 2 ∷ 2 ∷ 16 ∷ 2 ∷ 10 ∷ 2 ∷ 65536 ∷ 65536 ∷ []) ++ OneModel Spectre ∷
      map (λ key. OneNumber (least_of (row version key).values)) optional_numbers ++ OneDefence Stt ∷ [];
}

left_out_in_1 : document_contents example_1 ≡ Ok (example_contents 1)
unfolding document_fault end_fault key_fault keys_fault latency_fault registers_fault second_fault sections_fault top_fault ones
left_out_in_1 = refl

left_out_in_2 : document_contents example_2 ≡ Ok (example_contents 2)
unfolding document_fault end_fault key_fault keys_fault latency_fault registers_fault second_fault sections_fault top_fault ones
left_out_in_2 = refl

example_in_place : contents example ≡ example_contents 1
example_in_place = refl

-- every key with a number of its own, but that the second level's ways and the prefetch are both 1
abbrev every_key : Members
every_key =
    table_of "cache" (("hit_latency", 7) ∷ ("line", 16) ∷ ("miss_latency", 90) ∷ ("mshrs", 8) ∷ ("prefetch", 1) ∷ ("second_latency", 60) ∷ ("second_sets", 512) ∷ ("second_ways", 1) ∷ ("sets", 128) ∷ ("ways", 6) ∷ []) (
    table_of "core" (("fetch_width", 2) ∷ ("loads", 40) ∷ ("queue", 20) ∷ ("retire_width", 3) ∷ ("rob", 100) ∷ ("stations", 50) ∷ ("stores", 30) ∷ []) (
    table_of "predictor" (("btb", 64) ∷ ("counters", 2048) ∷ ("depend", 256) ∷ ("history", 12) ∷ ("returns", 13) ∷ []) (
    table_of "ram" (("base", 4096) ∷ ("misaligned", 0) ∷ ("size", 8192) ∷ []) (
    with_key "stt" "model" (text "off") (
    with_key "stt" "defence" (text "hold") (
    table_of "units" (("alus", 4) ∷ ("mul_latency", 5) ∷ []) (
    with_top "version" (number 2) no_members)))))))

-- the numbers of every_key
abbrev distinct_number : Key → ℕ
distinct_number CoreFetchWidth = 2
distinct_number CoreRetireWidth = 3
distinct_number CoreRob = 100
distinct_number CoreStations = 50
distinct_number CoreLoads = 40
distinct_number CoreStores = 30
distinct_number CoreQueue = 20
distinct_number UnitsAlus = 4
distinct_number UnitsMulLatency = 5
distinct_number PredictorCounters = 2048
distinct_number PredictorBtb = 64
distinct_number PredictorDepend = 256
distinct_number PredictorHistory = 12
distinct_number PredictorReturns = 13
distinct_number CacheSets = 128
distinct_number CacheWays = 6
distinct_number CacheLine = 16
distinct_number CacheHitLatency = 7
distinct_number CacheMissLatency = 90
distinct_number CacheMshrs = 8
distinct_number CacheSecondSets = 512
distinct_number CacheSecondWays = 1
distinct_number CacheSecondLatency = 60
distinct_number CachePrefetch = 1
distinct_number RamBase = 4096
distinct_number RamSize = 8192
distinct_number RamMisaligned = 0
distinct_number key = least_of (row 2 key).values

-- what every_key sets each key to
abbrev distinct_setting : Key → Setting
distinct_setting ModelKey = OneModel Off
distinct_setting DefenceKey = OneDefence Hold
distinct_setting key = OneNumber (distinct_number key)

abbrev distinct_contents : Contents
distinct_contents = record { version = 2; settings = map distinct_setting keys }

each_key_is_read : document_contents every_key ≡ Ok distinct_contents
unfolding document_fault end_fault key_fault keys_fault latency_fault registers_fault second_fault sections_fault top_fault ones
each_key_is_read = refl

distinct_passes : IsTrue (all_pass 2 distinct_number Off Hold)
unfolding ones
distinct_passes = refl

-- the description of these numbers
abbrev distinct : Desc
distinct = tested 2 distinct_number Off Hold distinct_passes

each_key_in_place : contents distinct ≡ distinct_contents
each_key_in_place = refl

-- each number stands in its key's field
fields_in_place :
    distinct.core_fetch_width ∷ distinct.core_retire_width ∷ distinct.core_rob ∷ distinct.core_stations ∷
    distinct.core_loads ∷ distinct.core_stores ∷ distinct.core_queue ∷ distinct.units_alus ∷
    distinct.units_mul_latency ∷ distinct.predictor_counters ∷ distinct.predictor_btb ∷ distinct.predictor_depend ∷
    distinct.predictor_history ∷ distinct.predictor_returns ∷ distinct.cache_sets ∷ distinct.cache_ways ∷
    distinct.cache_line ∷ distinct.cache_hit_latency ∷ distinct.cache_miss_latency ∷ distinct.cache_mshrs ∷
    distinct.cache_second_sets ∷ distinct.cache_second_ways ∷ distinct.cache_second_latency ∷
    distinct.cache_prefetch ∷ distinct.ram_base ∷ distinct.ram_size ∷ distinct.ram_misaligned ∷ []
    ≡ 2 ∷ 3 ∷ 100 ∷ 50 ∷ 40 ∷ 30 ∷ 20 ∷ 4 ∷ 5 ∷ 2048 ∷ 64 ∷ 256 ∷ 12 ∷ 13 ∷ 128 ∷ 6 ∷ 16 ∷ 7 ∷ 90 ∷ 8 ∷ 512 ∷ 1 ∷
    60 ∷ 1 ∷ 4096 ∷ 8192 ∷ 0 ∷ []
fields_in_place = refl
