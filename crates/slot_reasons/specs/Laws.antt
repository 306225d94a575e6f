-- Each slot has one reason, and what is counted of the queue is its length (docs/theorems.md, "The slots of a run").
use Rattle.std.specs.Prelude.{◌≡◌, ℕ, ◌+◌, ◌*◌, ◌≤◌, List, [], ◌∷◌, length}
use Rattle.rv_types.specs.Memory.{Code}
use Rattle.machine_desc.specs.declared.Desc.{Desc}
use Rattle.window_model.specs.State.{Machine}
use Rattle.window_model.specs.Cycle.{after_cycles, rows}
use Rattle.slot_reasons.specs.declared.Known.{Known}
use Rattle.slot_reasons.specs.Slots.{Charge, charges_of, known_at, rows_of, seen, slot_names, slots_of}

-- the slots of these names together
abbrev pub sum_of : List (List ℕ) → List Charge → ℕ
sum_of [] cs = 0
sum_of (name ∷ rest) cs = slots_of name cs + sum_of rest cs

-- the slots of all names together are as many as the cycles have, whatever was known before them
abbrev pub EachSlotHasOneReason : Type 0
EachSlotHasOneReason = (n : ℕ) (d : Desc) (code : Code) (x : Machine) (known : Known) →
    sum_of slot_names (charges_of (seen d code n x known)) ≡ d.core_retire_width * length (rows d code n x)

-- the rows that are seen are those of the run
abbrev pub SeesTheRows : Type 0
SeesTheRows = (n : ℕ) (d : Desc) (code : Code) (x : Machine) (known : Known) → rows_of (seen d code n x known) ≡ rows d code n x

-- the items that are fetched and not renamed, as they are counted from the events, are as many as the queue has, after
-- any number of cycles, where they are before the first and the queue is no longer than the description lets it be. As
-- a run begins there are none
abbrev pub QueuedIsCounted : Type 0
QueuedIsCounted = (n : ℕ) (d : Desc) (code : Code) (x : Machine) (known : Known) → length x.queue ≤ d.core_queue →
    known.past.queued ≡ length x.queue → (known_at d code n x known).past.queued ≡ length (after_cycles d code n x).queue
