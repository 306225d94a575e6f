-- Each size at its most: what the largest description has room for, and what it hasn't (docs/formats.md, "Keys" and
-- "Keys that may be left out"; docs/machine.md).
use Rattle.std.proofs.Common.{◌≡◌, ℕ, List, [], ◌∷◌, Some, None, IsTrue, refl}
use Rattle.std.specs.Prelude.{Bool, true, false, ◌*◌, length, map, replicate, slice_index_or}
use Rattle.std.specs.List.{fold}
use Rattle.std.specs.Option.{option_len}
use lib.Count.{ones}
use Rattle.rv_types.specs.Decode.{decode}
use Rattle.rv_types.specs.Kind.{kind_of}
use Rattle.machine_desc.specs.declared.Desc.{Desc}
use Rattle.machine_desc.specs.declared.SttModel.TheVariants.{Spectre}
use Rattle.machine_desc.specs.declared.Defence.TheVariants.{Stt}
use Rattle.machine_desc.specs.declared.keys.Key.{Key}
use Rattle.machine_desc.specs.declared.keys.Key.TheVariants.{CoreFetchWidth, CoreRetireWidth, CoreRob, CoreStations, CoreLoads, CoreStores, CoreQueue, UnitsAlus, UnitsMulLatency, PredictorCounters, PredictorBtb, PredictorDepend, PredictorHistory, PredictorReturns, CacheSets, CacheWays, CacheLine, CacheHitLatency, CacheMissLatency, CacheMshrs, CacheSecondSets, CacheSecondWays, CacheSecondLatency, CachePrefetch, RamBase, RamSize, RamMisaligned}
use Rattle.machine_desc.specs.Table.{row}
use Rattle.machine_desc.specs.Clean.{least_of}
use Rattle.machine_desc.specs.Ranges.{bound}
use Rattle.machine_desc.proofs.Tested.{all_pass, tested}
use Rattle.window_model.specs.declared.Entry.{Entry}
use Rattle.window_model.specs.declared.Item.{Item}
use Rattle.window_model.specs.declared.Progress.{Progress}
use Rattle.window_model.specs.declared.Progress.TheVariants.{Waiting, Done}
use Rattle.window_model.specs.Around.{around}
use Rattle.window_model.specs.declared.lookup.Access.{Access}
use Rattle.window_model.specs.declared.lookup.Access.TheVariants.{Looks}
use Rattle.window_model.specs.Access.{access, in_order}
use Rattle.window_model.specs.Dependence.{bit_index}
use Rattle.window_model.specs.Fetch.{fetch}
use Rattle.window_model.specs.Fill.{with_line}
use Rattle.window_model.specs.History.{no_checkpoint, counter_index, after_direction, after_push, stack}
use Rattle.window_model.specs.Ports.{ports, AluPort}
use Rattle.window_model.specs.Rename.{fits}
use Rattle.window_model.specs.Resolve.{index}
use Rattle.window_model.specs.SecondLevel.{second_set_of, second_with_line}
use Rattle.window_model.specs.State.{Machine, opening, set_of}
use Rattle.window_model.proofs.Worked.{memory}

-- each number the most that version 2 knows, but for RAM's; a key that is left out here has the least
abbrev largest_number : Key → ℕ
largest_number CoreFetchWidth = 4
largest_number CoreRetireWidth = 4
largest_number CoreRob = 192
largest_number CoreStations = 96
largest_number CoreLoads = 64
largest_number CoreStores = 48
largest_number CoreQueue = 32
largest_number UnitsAlus = 4
largest_number UnitsMulLatency = 8
largest_number PredictorCounters = 4096
largest_number PredictorBtb = 256
largest_number PredictorDepend = 1024
largest_number PredictorHistory = 12
largest_number PredictorReturns = 16
largest_number CacheSets = 256
largest_number CacheWays = 8
largest_number CacheLine = 64
largest_number CacheHitLatency = 8
largest_number CacheMissLatency = 200
largest_number CacheMshrs = 8
largest_number CacheSecondSets = 1024
largest_number CacheSecondWays = 8
largest_number CacheSecondLatency = 100
largest_number CachePrefetch = 1
largest_number RamBase = 65536
largest_number RamSize = 65536
largest_number RamMisaligned = 1
largest_number key = least_of (row 2 key).values

largest_passes : IsTrue (all_pass 2 largest_number Spectre Stt)
unfolding ones
largest_passes = refl

abbrev largest : Desc
largest = tested 2 largest_number Spectre Stt largest_passes

-- the item of a word at 0x10000
abbrev item_of : ℕ → Item
item_of w = record { pc = 0x10000; instr = decode w; kind = kind_of (decode w); predicted = Some 0x10004; checkpoint = no_checkpoint }

-- an entry of a word, that waits or is done
abbrev entry_of : Progress → ℕ → Entry
entry_of state w = record {
  serial = 0;
  item = item_of w;
  state = state;
  outcome = None;
  resolved = false;
  issued = None;
  addr_due = None;
  data_due = None;
  cleared = true;
}

-- so many of them, and one more of the word
abbrev fits_behind : ℕ → Progress → ℕ → Bool
fits_behind count state w = fits largest (replicate count (entry_of state w)) (item_of w)

-- add x7,x2,x6, done: 192 entries
window : map (λ n. fits_behind n Done 0x006103b3) (191 ∷ 192 ∷ []) ≡ true ∷ false ∷ []
unfolding decode
window = refl

-- waiting: 96 stations
stations : map (λ n. fits_behind n Waiting 0x006103b3) (95 ∷ 96 ∷ []) ≡ true ∷ false ∷ []
unfolding decode
stations = refl

-- lw x5,0(x2): 64 loads
loads : map (λ n. fits_behind n Done 0x00012283) (63 ∷ 64 ∷ []) ≡ true ∷ false ∷ []
unfolding decode
loads = refl

-- sw x5,4(x2): 48 stores
stores : map (λ n. fits_behind n Done 0x00512223) (47 ∷ 48 ∷ []) ≡ true ∷ false ∷ []
unfolding decode
stores = refl

-- the machine as it begins, in a memory that takes any address
abbrev start : Machine
start = opening largest 0x10000 (record (memory 0 0) { misaligned = true })

-- how many items more are fetched behind so many, where every word is add x7,x2,x6
abbrev fetched_behind : ℕ → ℕ
fetched_behind count = length (fetch largest (λ pc. Some 0x006103b3) (record start { queue = replicate count (item_of 0x006103b3) })).events

-- 32 items in the queue, and four fetched a cycle
queue : map fetched_behind (0 ∷ 28 ∷ 29 ∷ 31 ∷ 32 ∷ []) ≡ 4 ∷ 4 ∷ 3 ∷ 1 ∷ 0 ∷ []
unfolding decode memory fetch
queue = refl

-- ---- lines

-- how many lines an access looks up, besides how many are prefetched: none where registers lack
abbrev looks : Access → List ℕ
looks (Looks found ahead) = length (in_order found) ∷ option_len ahead ∷ []
looks _ = []

-- the load of a word at an address while so many registers wait for other lines
abbrev with_misses : ℕ → ℕ → List ℕ
with_misses count address =
    looks (access largest (around (record start { misses = replicate count (record { line = 0; due = 9; from_memory = true }) })) [] address 4)

-- eight registers: one line needs one, the line behind it another, and an access across two lines two
registers : map (λ n. with_misses n 0x1f800) (6 ∷ 7 ∷ 8 ∷ []) ≡ (1 ∷ 1 ∷ []) ∷ (1 ∷ 0 ∷ []) ∷ [] ∷ []
unfolding memory
registers = refl

registers_across : map (λ n. with_misses n 0x1f83e) (5 ∷ 6 ∷ 7 ∷ []) ≡ (2 ∷ 1 ∷ []) ∷ (2 ∷ 0 ∷ []) ∷ [] ∷ []
unfolding memory
registers_across = refl

-- nine lines of one set enter in turn, of the cache 16,384 bytes apart: the first goes, and eight stay
ways : slice_index_or (fold (with_line largest) start.cache (map (λ k. 16384 * k) (0 ∷ 1 ∷ 2 ∷ 3 ∷ 4 ∷ 5 ∷ 6 ∷ 7 ∷ 8 ∷ []))) 0 []
    ≡ map (λ k. 16384 * k) (8 ∷ 7 ∷ 6 ∷ 5 ∷ 4 ∷ 3 ∷ 2 ∷ 1 ∷ [])
unfolding memory
ways = refl

-- of the second level 65,536 bytes apart
second_ways : slice_index_or (fold (second_with_line largest) start.second (map (λ k. 65536 * k) (0 ∷ 1 ∷ 2 ∷ 3 ∷ 4 ∷ 5 ∷ 6 ∷ 7 ∷ 8 ∷ []))) 0 []
    ≡ map (λ k. 65536 * k) (8 ∷ 7 ∷ 6 ∷ 5 ∷ 4 ∷ 3 ∷ 2 ∷ 1 ∷ [])
unfolding memory
second_ways = refl

-- 256 sets of lines of 64 bytes, and 1,024 in the second level
sets : map (set_of largest) (64 ∷ 16320 ∷ 16384 ∷ []) ≡ 1 ∷ 255 ∷ 0 ∷ []
sets = refl

second_sets : map (second_set_of largest) (64 ∷ 65472 ∷ 65536 ∷ []) ≡ 1 ∷ 1023 ∷ 0 ∷ []
second_sets = refl

-- ---- what is predicted, and the units

-- 4,096 counters, 256 targets, 1,024 bits of dependence
counters : map (counter_index largest no_checkpoint) (4 ∷ 16380 ∷ 16384 ∷ []) ≡ 1 ∷ 4095 ∷ 0 ∷ []
counters = refl

targets : map (λ pc. index pc largest.predictor_btb) (4 ∷ 1020 ∷ 1024 ∷ []) ≡ 1 ∷ 255 ∷ 0 ∷ []
targets = refl

bits : map (bit_index largest) (4 ∷ 4092 ∷ 4096 ∷ []) ≡ 1 ∷ 1023 ∷ 0 ∷ []
bits = refl

-- thirteen branches are taken, of which twelve count; of seventeen addresses sixteen stay
history : (fold (λ m way. after_direction largest way m) no_checkpoint (replicate 13 true)).history ≡ 4095
history = refl

addresses : stack (fold (λ m a. after_push largest a m) no_checkpoint (1 ∷ 2 ∷ 3 ∷ 4 ∷ 5 ∷ 6 ∷ 7 ∷ 8 ∷ 9 ∷ 10 ∷ 11 ∷ 12 ∷ 13 ∷ 14 ∷ 15 ∷ 16 ∷ 17 ∷ []))
    ≡ 17 ∷ 16 ∷ 15 ∷ 14 ∷ 13 ∷ 12 ∷ 11 ∷ 10 ∷ 9 ∷ 8 ∷ 7 ∷ 6 ∷ 5 ∷ 4 ∷ 3 ∷ 2 ∷ []
addresses = refl

units : ports largest AluPort ≡ 4
units = refl

-- 96, twice a miss of 200, a hit of 8 and a multiplication of 8
bound_of_the_largest : bound largest ≡ 512
bound_of_the_largest = refl
