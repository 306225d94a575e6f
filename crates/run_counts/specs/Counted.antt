-- What is counted of a run: its numbers, each with a name (docs/formats.md, "The program stt_stats").
use Rattle.std.specs.Prelude.{ℕ, ◌+◌, ◌-◌, ◌^◌, min, Bool, true, false, List, [], ◌∷◌, map, Option, Some, None, if◌then◌else◌, codes}
use Rattle.std.specs.Str.{bytes_eq}
use Rattle.window_model.specs.declared.Event.{Event}
use Rattle.window_model.specs.declared.Event.TheVariants.{Fill, Done, Res, Bp, Bt, Sq, Clr, Vio, Dp, Ret, St, Call, Alu, Mul, Div, Agu, Std, Ld, LdForward, LdFault, Pf, Ren, Fet}
use Rattle.window_model.specs.declared.Look.{Look}
use Rattle.window_model.specs.declared.Look.TheVariants.{Hit, Miss, Join, Second}
use Rattle.window_model.specs.declared.Way.{Way}
use Rattle.window_model.specs.declared.Way.TheVariants.{Taken, NotTaken, Jump}
use Rattle.window_model.specs.Row.{Row}

-- ---- Which number an event adds to

-- the names of the numbers, in their order
unfoldable pub names : List (List ℕ)
names =
    codes "retired" ∷ codes "fetched" ∷ codes "renamed" ∷ codes "alu" ∷ codes "mul" ∷ codes "divisions" ∷ codes "division_cycles" ∷ codes "store_addresses" ∷ codes "store_data"
    ∷ codes "load_hits" ∷ codes "load_second" ∷ codes "load_misses" ∷ codes "load_joins" ∷ codes "load_forwards" ∷ codes "load_faults" ∷ codes "prefetch_second" ∷ codes "prefetch_memory"
    ∷ codes "fills" ∷ codes "done" ∷ codes "branches_taken" ∷ codes "branches_not_taken" ∷ codes "jumps" ∷ codes "mispredicted_branches" ∷ codes "mispredicted_jumps" ∷ codes "counters"
    ∷ codes "targets" ∷ codes "cleared_stores" ∷ codes "violations" ∷ codes "dependence_bits" ∷ codes "load_squashes" ∷ codes "dropped" ∷ codes "store_hits" ∷ codes "store_misses"
    ∷ codes "calls" ∷ codes "output_bytes" ∷ []

-- where a load found a line
abbrev pub load_name : Look → List ℕ
load_name Hit = codes "load_hits"
load_name Second = codes "load_second"
load_name Miss = codes "load_misses"
load_name Join = codes "load_joins"

-- from where a line is prefetched: from the second level, or from memory
abbrev pub prefetch_name : Look → List ℕ
prefetch_name Second = codes "prefetch_second"
prefetch_name _ = codes "prefetch_memory"

-- how a branch or JALR went
abbrev pub way_name : Way → List ℕ
way_name Taken = codes "branches_taken"
way_name NotTaken = codes "branches_not_taken"
way_name Jump = codes "jumps"

-- whether a store's line was in the cache
abbrev pub store_name : Bool → List ℕ
store_name true = codes "store_hits"
store_name false = codes "store_misses"

-- why all that is younger was dropped, by the event right before: behind its counter a branch was resolved, behind a
-- bit of dependence a load had passed a store wrongly, and else a JALR was resolved
abbrev pub squash_name : Option Event → List ℕ
squash_name (Some (Bp index value)) = codes "mispredicted_branches"
squash_name (Some (Dp index value)) = codes "load_squashes"
squash_name _ = codes "mispredicted_jumps"

-- the name of the number to which an event adds one, by the event right before it in its cycle, if there is one
abbrev pub name_of : Option Event → Event → List ℕ
name_of before (Ret serial) = codes "retired"
name_of before (Fet pc) = codes "fetched"
name_of before (Ren serial pc) = codes "renamed"
name_of before (Alu serial) = codes "alu"
name_of before (Mul serial) = codes "mul"
name_of before (Div serial time) = codes "divisions"
name_of before (Agu serial) = codes "store_addresses"
name_of before (Std serial) = codes "store_data"
name_of before (Ld serial line look) = load_name look
name_of before (LdForward serial) = codes "load_forwards"
name_of before (LdFault serial) = codes "load_faults"
name_of before (Pf line look) = prefetch_name look
name_of before (Fill line) = codes "fills"
name_of before (Done serial) = codes "done"
name_of before (Res serial way) = way_name way
name_of before (Bp index value) = codes "counters"
name_of before (Bt index target) = codes "targets"
name_of before (Clr serial) = codes "cleared_stores"
name_of before (Vio serial) = codes "violations"
name_of before (Dp index value) = codes "dependence_bits"
name_of before (Sq count) = squash_name before
name_of before (St serial line found) = store_name found
name_of before (Call serial count) = codes "calls"

-- the further number to which an event adds, where it tells an amount, and how much
abbrev pub further_of : Event → Option (List ℕ × ℕ)
further_of (Div serial time) = Some (codes "division_cycles", time)
further_of (Sq count) = Some (codes "dropped", count)
further_of (Call serial count) = Some (codes "output_bytes", count)
further_of _ = None

-- ---- What is counted

-- what is added to the number of this name, where it's the one of that name
abbrev pub added_to : List ℕ → List ℕ → ℕ → ℕ
added_to name at n = if bytes_eq at name then n else 0

-- what an event adds to the number of this name as its further number, where it tells an amount
abbrev pub further_amount : List ℕ → Option (List ℕ × ℕ) → ℕ
further_amount name None = 0
further_amount name (Some p) = added_to name p.0 p.1

-- what an event adds to the number of this name
abbrev pub amount : List ℕ → Option Event → Event → ℕ
amount name before event = added_to name (name_of before event) 1 + further_amount name (further_of event)

-- what events add that come one after the other, behind this one, if there is one
abbrev pub amount_in : List ℕ → Option Event → List Event → ℕ
amount_in name before [] = 0
amount_in name before (event ∷ rest) = amount name before event + amount_in name (Some event) rest

-- the number of this name in rows
abbrev pub number_in : List ℕ → List Row → ℕ
number_in name [] = 0
number_in name (row ∷ rest) = amount_in name None row.events + number_in name rest

-- a number as it is told: the greatest of 64 bits stands for any greater one
unfoldable pub as_told : ℕ → ℕ
as_told n = min n (2 ^ 64 - 1)

-- the numbers of rows, in their order
abbrev pub numbers : List Row → List ℕ
numbers rows = map (λ name. as_told (number_in name rows)) names
