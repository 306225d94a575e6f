-- What an entry that has issued computed: what Issue makes of its operands in the window, over the retired registers
-- and memory (docs/theorems.md, "Committed state").
use Rattle.std.specs.Prelude.{◌≡◌, ℕ, Bool, not, ◌&&◌, List, map, Option, Some, None, if◌then◌else◌}
use Rattle.std.specs.List.{find}
use Rattle.rv_types.specs.Word.{from_le}
use Rattle.rv_types.specs.Value.{extend}
use Rattle.rv_types.specs.Memory.{Ram, load_fault, store_fault, range}
use Rattle.rv_types.specs.Isa.{Effect}
use Rattle.rv_types.specs.declared.Cause.{Cause}
use Rattle.rv_types.specs.declared.Instr.{Instr}
use Rattle.rv_types.specs.declared.Kind.{Kind}
use Rattle.rv_types.specs.declared.Kind.TheVariants.{Mul, Div, Load, Store}
use Rattle.window_model.specs.declared.Entry.{Entry}
use Rattle.window_model.specs.declared.Outcome.{Outcome}
use Rattle.window_model.specs.Order.{has_address, has_data}
use Rattle.window_model.specs.Retire.{op_of, width_in}
use Rattle.window_model.specs.Access.{covers, byte_of}
use Rattle.window_model.specs.Clear.{is_passed_by}
use Rattle.window_model.specs.MayIssue.{effect_of}
use Rattle.window_model.specs.Issue.{outcome, fault_if}

-- the registers and memory over which entries compute
pub record Bank : Type 0 where
  pub regs : List ℕ
  pub ram : Ram

-- ---- outcomes, by the instruction, what it makes of its operands, and the bytes that a load finds

-- a load's value, 0 where it faults
abbrev pub loaded_or : Option Cause → Instr → List ℕ → ℕ
loaded_or (Some c) i bytes = 0
loaded_or None i bytes = extend (op_of i) (from_le bytes)

-- the outcome of an instruction of a kind, as Issue computes it from the effect and the bytes that a load finds
abbrev pub outcome_as : Kind → Ram → Instr → Effect → List ℕ → Outcome
outcome_as Load ram i f bytes = let c = load_fault ram f.addr (width_in i) in outcome f (loaded_or c i bytes) c
outcome_as Store ram i f bytes = outcome f 0 (store_fault ram f.addr (width_in i))
outcome_as Mul ram i f bytes = outcome f f.value None
outcome_as Div ram i f bytes = outcome f f.value None
outcome_as _ ram i f bytes = outcome f f.value (fault_if f.misaligned)

-- an outcome, where there is one, is this
abbrev pub ComesTo : Option Outcome → Outcome → Type 0
ComesTo None v = Unit {0}
ComesTo (Some o) v = o ≡ v

-- what is known of a store's outcome once these parts have issued: address and fault from the address part on, the data
-- from the data part on
abbrev pub known_of : Bool → Bool → Outcome → Outcome
known_of address datum o = record o {
  addr = if address then o.addr else 0;
  fault = if address then o.fault else None;
  stored = if datum then o.stored else 0;
}

-- what is known of an outcome by its kind: only a store's becomes known part by part
abbrev pub as_known_by : Kind → Bool → Bool → Outcome → Outcome
as_known_by Store address datum o = known_of address datum o
as_known_by _ address datum o = o

-- what is known of an entry's outcome, by the parts of it that have issued
abbrev pub as_known : Entry → Outcome → Outcome
as_known e o = as_known_by e.item.kind (has_address e) (has_data e) o

-- ---- what is found in the window

-- a load's value leaves a store out that it passed, until the store is cleared
abbrev pub left_out : Entry → Entry → Bool
left_out load store = is_passed_by store load && not store.cleared

-- a store that a load finds at an address
abbrev pub finds : Entry → ℕ → Entry → Bool
finds load a store = not (left_out load store) && covers a store

-- the bytes of a load: each from the youngest older store that covers it and isn't left out, else from memory
abbrev pub bytes_found : Ram → List Entry → Entry → ℕ → ℕ → List ℕ
bytes_found ram before e a n = map (λ b. byte_of ram b (find (finds e b) before)) (range a n)

-- the bytes that a load of this address finds
abbrev pub bytes_over : Bank → List Entry → Entry → ℕ → List ℕ
bytes_over s before e a = bytes_found s.ram before e a (width_in e.item.instr)

-- the outcome that an entry computes behind older entries, over these registers and memory
abbrev pub outcome_behind : Bank → List Entry → Entry → Outcome
outcome_behind s before e = let f = effect_of s.regs before e in outcome_as e.item.kind s.ram e.item.instr f (bytes_over s before e f.addr)
