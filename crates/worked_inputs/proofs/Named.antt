-- What is told of a description's version, of its names, and of keys that aren't there or are of another kind
-- (docs/formats.md, "Faults of descriptions"). Each document is the example but for what a line says.
use Rattle.std.proofs.Common.{◌≡◌, List, [], ◌∷◌, refl}
use Rattle.std.specs.Prelude.{true, false, ℕ, negsuc, ◌++◌, replicate, codes}
use Rattle.std.specs.Fmt.{digits}
use Rattle.std.specs.Str.{bytes_eq}
use lib.Count.{ones}
use Prim.Native.String.{String}
use Rattle.toml.specs.Data.{Data, boolean, integer, table, array, no_items, Members, no_members}
use Rattle.machine_desc.specs.Description.{document_fault, end_fault, key_fault, keys_fault, latency_fault, registers_fault, second_fault, sections_fault, top_fault}
use Rattle.machine_desc.specs.Description.{document_contents}
use Rattle.worked_inputs.proofs.Tables.{all}
use Rattle.worked_inputs.proofs.Documents.{number, text, with_member, with_top, with_key, without_top, without_key, example_1, example_2, told, tells, accepts}

-- the example with this version
abbrev of_version : Data → Members
of_version value = with_top "version" value example_1

-- a text without a version is of version 1; 1 and 2 are known, and nothing else is a version
versions : all (
    accepts example_1 ∷
    accepts (of_version (number 1)) ∷
    accepts (of_version (number 2)) ∷
    tells (of_version (number 0)) "K5 version 0" ∷
    tells (of_version (number 3)) "K5 version 3" ∷
    tells (of_version (number 12)) "K5 version 12" ∷
    tells (of_version (integer (negsuc 0))) "K5 version -1" ∷
    tells (of_version (text "2")) "K4 version" ∷
    tells (of_version (boolean true)) "K4 version" ∷
    tells (of_version (table no_members)) "K4 version" ∷
    []) ≡ true
unfolding document_fault end_fault key_fault keys_fault latency_fault registers_fault second_fault sections_fault top_fault digits ones
versions = refl

-- the document with 1 at a name at the top, at a key of a table
abbrev top : String → Members → Members
top name document = with_top name (number 1) document

abbrev key : String → String → Members → Members
key section name document = with_key section name (number 1) document

-- no other name stands at the top, and of several the least is told
names_at_the_top : all (
    tells (top "a" example_1) "K2 a" ∷
    tells (top "zz" example_2) "K2 zz" ∷
    tells (top "cor" example_1) "K2 cor" ∷
    tells (top "cores" example_1) "K2 cores" ∷
    tells (top "Core" example_1) "K2 Core" ∷
    tells (top "versions" example_2) "K2 versions" ∷
    tells (top "rob" example_1) "K2 rob" ∷
    tells (top "" example_1) "K2 " ∷
    tells (top "x" (top "d" (top "z" example_1))) "K2 d" ∷
    tells (top "dd" (top "d" example_1)) "K2 d" ∷
    []) ≡ true
unfolding document_fault end_fault key_fault keys_fault latency_fault registers_fault second_fault sections_fault top_fault digits ones
names_at_the_top = refl

-- so many times the letter a, as a name at the top, and as one of a table; what is told of it
abbrev long : ℕ → List ℕ
long count = replicate count 97

abbrev told_of_long : ℕ → List ℕ
told_of_long count = told (document_contents (with_member (long count) (number 1) example_1))

abbrev told_of_long_key : ℕ → List ℕ
told_of_long_key count = told (document_contents (with_top "ram" (table (with_member (long count) (number 1) no_members)) example_1))

-- of a name the first 64 bytes are told, its table and the dot not counted; and a byte below 32 is a question mark
long_names : all (
    bytes_eq (told_of_long 64) (codes "K2 " ++ long 64) ∷
    bytes_eq (told_of_long 65) (codes "K2 " ++ long 64) ∷
    bytes_eq (told_of_long_key 64) (codes "K2 ram." ++ long 64) ∷
    bytes_eq (told_of_long_key 65) (codes "K2 ram." ++ long 64) ∷
    bytes_eq (told (document_contents (with_member (97 ∷ 31 ∷ 32 ∷ 0 ∷ 255 ∷ []) (number 1) example_1))) (codes "K2 a? ?" ++ 255 ∷ []) ∷
    []) ≡ true
unfolding document_fault end_fault key_fault keys_fault latency_fault registers_fault second_fault sections_fault top_fault digits ones
long_names = refl

-- what stands at a table's name is a table
tables : all (
    tells (top "core" example_1) "K4 core" ∷
    tells (top "units" example_1) "K4 units" ∷
    tells (top "predictor" example_1) "K4 predictor" ∷
    tells (top "cache" example_1) "K4 cache" ∷
    tells (top "ram" example_1) "K4 ram" ∷
    tells (top "stt" example_1) "K4 stt" ∷
    tells (with_top "core" (text "x") example_2) "K4 core" ∷
    tells (with_top "ram" (array no_items) example_2) "K4 ram" ∷
    []) ≡ true
unfolding document_fault end_fault key_fault keys_fault latency_fault registers_fault second_fault sections_fault top_fault digits ones
tables = refl

-- no other name stands in a table, nor a key in another table than its own; and of several the least is told
names_in_tables : all (
    tells (key "core" "a" example_1) "K2 core.a" ∷
    tells (key "units" "a" example_1) "K2 units.a" ∷
    tells (key "predictor" "a" example_1) "K2 predictor.a" ∷
    tells (key "cache" "a" example_1) "K2 cache.a" ∷
    tells (key "ram" "a" example_1) "K2 ram.a" ∷
    tells (key "stt" "a" example_1) "K2 stt.a" ∷
    tells (key "core" "zz" example_2) "K2 core.zz" ∷
    tells (key "units" "zz" example_2) "K2 units.zz" ∷
    tells (key "predictor" "zz" example_2) "K2 predictor.zz" ∷
    tells (key "cache" "zz" example_2) "K2 cache.zz" ∷
    tells (key "ram" "zz" example_2) "K2 ram.zz" ∷
    tells (key "stt" "zz" example_2) "K2 stt.zz" ∷
    tells (key "core" "alus" example_1) "K2 core.alus" ∷
    tells (key "units" "rob" example_1) "K2 units.rob" ∷
    tells (key "cache" "btb" example_1) "K2 cache.btb" ∷
    tells (key "predictor" "ways" example_1) "K2 predictor.ways" ∷
    tells (key "ram" "model" example_1) "K2 ram.model" ∷
    tells (key "stt" "base" example_1) "K2 stt.base" ∷
    tells (key "core" "version" example_1) "K2 core.version" ∷
    tells (key "core" "Rob" example_1) "K2 core.Rob" ∷
    tells (key "core" "z" (key "core" "b" (key "core" "x" example_1))) "K2 core.b" ∷
    []) ≡ true
unfolding document_fault end_fault key_fault keys_fault latency_fault registers_fault second_fault sections_fault top_fault digits ones
names_in_tables = refl

-- version 1 knows none of the keys that may be left out, with any value; version 2 each
keys_since_version_2 : all (
    tells (key "ram" "misaligned" example_1) "K2 ram.misaligned" ∷
    tells (key "predictor" "depend" example_1) "K2 predictor.depend" ∷
    tells (key "predictor" "history" example_1) "K2 predictor.history" ∷
    tells (key "predictor" "returns" example_1) "K2 predictor.returns" ∷
    tells (key "cache" "second_sets" example_1) "K2 cache.second_sets" ∷
    tells (key "cache" "second_ways" example_1) "K2 cache.second_ways" ∷
    tells (key "cache" "second_latency" example_1) "K2 cache.second_latency" ∷
    tells (key "cache" "prefetch" example_1) "K2 cache.prefetch" ∷
    tells (with_key "stt" "defence" (text "stt") example_1) "K2 stt.defence" ∷
    tells (with_key "stt" "defence" (text "hold") (of_version (number 1))) "K2 stt.defence" ∷
    tells (with_key "stt" "defence" (text "delay") (of_version (number 1))) "K2 stt.defence" ∷
    accepts (key "ram" "misaligned" example_2) ∷
    accepts (key "predictor" "depend" example_2) ∷
    accepts (key "predictor" "history" example_2) ∷
    accepts (key "predictor" "returns" example_2) ∷
    accepts (key "cache" "second_ways" example_2) ∷
    accepts (key "cache" "prefetch" example_2) ∷
    accepts (with_key "cache" "second_latency" (number 3) example_2) ∷
    accepts (with_key "cache" "second_latency" (number 3) (key "cache" "second_sets" example_2)) ∷
    accepts (with_key "stt" "defence" (text "hold") example_2) ∷
    accepts (with_key "stt" "defence" (text "delay") example_2) ∷
    []) ≡ true
unfolding document_fault end_fault key_fault keys_fault latency_fault registers_fault second_fault sections_fault top_fault digits ones
keys_since_version_2 = refl

-- each of the twenty keys has to be there
keys_that_have_to_be_there : all (
    tells (without_key "core" "fetch_width" example_1) "K3 core.fetch_width" ∷
    tells (without_key "core" "retire_width" example_2) "K3 core.retire_width" ∷
    tells (without_key "core" "rob" example_1) "K3 core.rob" ∷
    tells (without_key "core" "stations" example_2) "K3 core.stations" ∷
    tells (without_key "core" "loads" example_1) "K3 core.loads" ∷
    tells (without_key "core" "stores" example_2) "K3 core.stores" ∷
    tells (without_key "core" "queue" example_1) "K3 core.queue" ∷
    tells (without_key "units" "alus" example_2) "K3 units.alus" ∷
    tells (without_key "units" "mul_latency" example_1) "K3 units.mul_latency" ∷
    tells (without_key "predictor" "counters" example_2) "K3 predictor.counters" ∷
    tells (without_key "predictor" "btb" example_1) "K3 predictor.btb" ∷
    tells (without_key "cache" "sets" example_2) "K3 cache.sets" ∷
    tells (without_key "cache" "ways" example_1) "K3 cache.ways" ∷
    tells (without_key "cache" "line" example_2) "K3 cache.line" ∷
    tells (without_key "cache" "hit_latency" example_1) "K3 cache.hit_latency" ∷
    tells (without_key "cache" "miss_latency" example_2) "K3 cache.miss_latency" ∷
    tells (without_key "cache" "mshrs" example_1) "K3 cache.mshrs" ∷
    tells (without_key "ram" "base" example_2) "K3 ram.base" ∷
    tells (without_key "ram" "size" example_1) "K3 ram.size" ∷
    tells (without_key "stt" "model" example_2) "K3 stt.model" ∷
    []) ≡ true
unfolding document_fault end_fault key_fault keys_fault latency_fault registers_fault second_fault sections_fault top_fault digits ones
keys_that_have_to_be_there = refl

-- each table has to be there: the first key of one that isn't is told
tables_that_have_to_be_there : all (
    tells (without_top "core" example_1) "K3 core.fetch_width" ∷
    tells (without_top "units" example_1) "K3 units.alus" ∷
    tells (without_top "predictor" example_1) "K3 predictor.counters" ∷
    tells (without_top "cache" example_1) "K3 cache.sets" ∷
    tells (without_top "ram" example_1) "K3 ram.base" ∷
    tells (without_top "stt" example_1) "K3 stt.model" ∷
    tells (without_top "ram" (without_top "stt" example_2)) "K3 ram.base" ∷
    []) ≡ true
unfolding document_fault end_fault key_fault keys_fault latency_fault registers_fault second_fault sections_fault top_fault digits ones
tables_that_have_to_be_there = refl

-- a number is a whole number
kinds_of_numbers : all (
    tells (with_key "core" "rob" (text "16") example_1) "K4 core.rob" ∷
    tells (with_key "core" "fetch_width" (boolean true) example_1) "K4 core.fetch_width" ∷
    tells (with_key "units" "mul_latency" (table no_members) example_2) "K4 units.mul_latency" ∷
    tells (with_key "predictor" "btb" (array no_items) example_2) "K4 predictor.btb" ∷
    tells (with_key "cache" "line" (text "") example_1) "K4 cache.line" ∷
    tells (with_key "ram" "size" (text "x") example_1) "K4 ram.size" ∷
    tells (with_key "ram" "misaligned" (boolean true) example_2) "K4 ram.misaligned" ∷
    tells (with_key "predictor" "depend" (text "16") example_2) "K4 predictor.depend" ∷
    tells (with_key "predictor" "history" (boolean false) example_2) "K4 predictor.history" ∷
    tells (with_key "predictor" "returns" (text "") example_2) "K4 predictor.returns" ∷
    tells (with_key "cache" "second_sets" (table no_members) example_2) "K4 cache.second_sets" ∷
    tells (with_key "cache" "second_ways" (array no_items) example_2) "K4 cache.second_ways" ∷
    tells (with_key "cache" "second_latency" (text "3") example_2) "K4 cache.second_latency" ∷
    tells (with_key "cache" "prefetch" (boolean false) example_2) "K4 cache.prefetch" ∷
    []) ≡ true
unfolding document_fault end_fault key_fault keys_fault latency_fault registers_fault second_fault sections_fault top_fault digits ones
kinds_of_numbers = refl

-- the example of a version with this model, with this defence
abbrev model : String → Members → Members
model name document = with_key "stt" "model" (text name) document

abbrev defence : String → Members → Members
defence name document = with_key "stt" "defence" (text name) document

-- the texts that name a model or a defence in each version, and no others
models_and_defences : all (
    accepts (model "spectre" example_1) ∷
    accepts (model "futuristic" example_1) ∷
    accepts (model "spectre" example_2) ∷
    accepts (model "futuristic" example_2) ∷
    accepts (model "off" example_2) ∷
    tells (model "off" example_1) "K4 stt.model" ∷
    tells (model "off" (of_version (number 1))) "K4 stt.model" ∷
    tells (model "none" example_2) "K4 stt.model" ∷
    tells (model "Spectre" example_2) "K4 stt.model" ∷
    tells (model "" example_2) "K4 stt.model" ∷
    tells (model "hold" example_2) "K4 stt.model" ∷
    tells (model "delay" example_2) "K4 stt.model" ∷
    tells (with_key "stt" "model" (number 1) example_2) "K4 stt.model" ∷
    accepts (defence "stt" example_2) ∷
    accepts (defence "hold" example_2) ∷
    accepts (defence "delay" example_2) ∷
    tells (defence "Delay" example_2) "K4 stt.defence" ∷
    tells (defence "delayed" example_2) "K4 stt.defence" ∷
    tells (defence "fence" example_2) "K4 stt.defence" ∷
    tells (defence "off" example_2) "K4 stt.defence" ∷
    tells (defence "" example_2) "K4 stt.defence" ∷
    tells (with_key "stt" "defence" (number 1) example_2) "K4 stt.defence" ∷
    []) ≡ true
unfolding document_fault end_fault key_fault keys_fault latency_fault registers_fault second_fault sections_fault top_fault digits ones
models_and_defences = refl
