-- Slots of retirement by reason, of a run (docs/formats.md, "The slots of a run").
use Rattle.std.specs.Prelude.{ℕ, zero, suc, ◌+◌, ◌-◌, List, [], ◌∷◌, map, Option, slice_get, codes}
use Rattle.rv_types.specs.Memory.{Code}
use Rattle.machine_desc.specs.declared.Desc.{Desc}
use Rattle.window_model.specs.State.{Machine}
use Rattle.window_model.specs.Retire.{unless_ended}
use Rattle.window_model.specs.Row.{Row}
use Rattle.window_model.specs.Cycle.{Cycled, cycle}
use Rattle.window_model.specs.declared.Entry.{Entry}
use Rattle.run_counts.specs.Counted.{added_to, as_told}
use Rattle.slot_reasons.specs.declared.Reason.{Reason}
use Rattle.slot_reasons.specs.declared.Reason.TheVariants.{FrontEnd, Room, Misprediction, Violation, Call, Simple, Multiplier, Divider, Store, LoadFirst, LoadSecond, LoadMemory, Registers, Resolve, Clear, StorePort, Defence, End}
use Rattle.slot_reasons.specs.declared.Past.{Past}
use Rattle.slot_reasons.specs.declared.Known.{Known}
use Rattle.slot_reasons.specs.declared.Over.{Over}
use Rattle.slot_reasons.specs.Kept.{counts_for}
use Rattle.slot_reasons.specs.Reasons.{known_by, past_after, reason_of}

-- ---- The slots of a cycle

-- the slots of a cycle: in how many an instruction retired, how many stayed empty, and why they did
pub record Charge : Type 0 where
  pub retired : ℕ
  pub empty : ℕ
  pub reason : Reason

-- what a cycle leaves in which so many instructions retired, and which left the machine so
abbrev pub left_by : Desc → ℕ → Machine → Over
left_by d retired y = record {
  number = y.cycle;
  retired = retired;
  end = y.end;
  kept = counts_for d retired y.window;
}

-- what a cycle of the machine leaves, once it is over
abbrev pub over_of : Desc → Machine → Cycled → Over
over_of d x c = left_by d (c.machine.retired - x.retired) c.machine

-- what is known once a cycle of the machine is over, from what was known before
abbrev pub known_after : Desc → Known → Machine → Cycled → Known
known_after d known x c = known_by known (past_after d known.past c.row.events) (over_of d x c).kept

-- a cycle has as many slots as the description lets it retire: those in which something retired, and those that stayed
-- empty, all for one reason
abbrev pub charged : Desc → Known → Past → Over → Option Entry → Charge
charged d known now over oldest = record {
  retired = over.retired;
  empty = d.core_retire_width - over.retired;
  reason = reason_of d known now over.number over.end oldest;
}

-- the slots of a cycle of the machine, from what was known before it
abbrev pub charge_of : Desc → Known → Machine → Cycled → Charge
charge_of d known x c = charged d known (past_after d known.past c.row.events) (over_of d x c) (slice_get c.machine.window 0)

-- what is seen of a cycle: its row, and its slots
pub record Seen : Type 0 where
  pub row : Row
  pub charge : Charge

-- what is seen of at most n cycles
abbrev pub seen : Desc → Code → ℕ → Machine → Known → List Seen
seen d code zero x known = []
seen d code (suc n) x known =
    unless_ended x.end []
    (let c = cycle d code x in record { row = c.row; charge = charge_of d known x c } ∷ seen d code n c.machine (known_after d known x c))

-- what is known after at most n cycles; after none, what was known before
abbrev pub known_at : Desc → Code → ℕ → Machine → Known → Known
known_at d code zero x known = known
known_at d code (suc n) x known =
    unless_ended x.end known (let c = cycle d code x in known_at d code n c.machine (known_after d known x c))

-- the rows of cycles
abbrev pub rows_of : List Seen → List Row
rows_of = map (λ s. s.row)

-- the slots of each of them
abbrev pub charges_of : List Seen → List Charge
charges_of = map (λ s. s.charge)

-- ---- The slots of a run

-- the names of the numbers, in their order
unfoldable pub slot_names : List (List ℕ)
slot_names =
    codes "slots_base" ∷ codes "slots_front_end" ∷ codes "slots_room" ∷ codes "slots_misprediction" ∷ codes "slots_violation" ∷ codes "slots_call"
    ∷ codes "slots_simple" ∷ codes "slots_multiplier" ∷ codes "slots_divider" ∷ codes "slots_store" ∷ codes "slots_load_first"
    ∷ codes "slots_load_second" ∷ codes "slots_load_memory" ∷ codes "slots_registers" ∷ codes "slots_resolve" ∷ codes "slots_clear"
    ∷ codes "slots_store_port" ∷ codes "slots_defence" ∷ codes "slots_end" ∷ []

-- the name of the number of a reason
abbrev pub reason_name : Reason → List ℕ
reason_name FrontEnd = codes "slots_front_end"
reason_name Room = codes "slots_room"
reason_name Misprediction = codes "slots_misprediction"
reason_name Violation = codes "slots_violation"
reason_name Call = codes "slots_call"
reason_name Simple = codes "slots_simple"
reason_name Multiplier = codes "slots_multiplier"
reason_name Divider = codes "slots_divider"
reason_name Store = codes "slots_store"
reason_name LoadFirst = codes "slots_load_first"
reason_name LoadSecond = codes "slots_load_second"
reason_name LoadMemory = codes "slots_load_memory"
reason_name Registers = codes "slots_registers"
reason_name Resolve = codes "slots_resolve"
reason_name Clear = codes "slots_clear"
reason_name StorePort = codes "slots_store_port"
reason_name Defence = codes "slots_defence"
reason_name End = codes "slots_end"

-- the slots of this name in a cycle
abbrev pub slots_in : List ℕ → Charge → ℕ
slots_in name c = added_to name (codes "slots_base") c.retired + added_to name (reason_name c.reason) c.empty

-- the slots of this name in cycles
abbrev pub slots_of : List ℕ → List Charge → ℕ
slots_of name [] = 0
slots_of name (c ∷ rest) = slots_in name c + slots_of name rest

-- the numbers of cycles, in their order, as they are told
abbrev pub slots : List Charge → List ℕ
slots cs = map (λ name. as_told (slots_of name cs)) slot_names
