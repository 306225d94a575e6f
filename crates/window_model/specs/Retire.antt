-- The fourth phase: the oldest entries take effect, in order (docs/machine.md, "Retire").
use Rattle.std.specs.Prelude.{ℕ, zero, suc, ◌+◌, Bool, false, not, ◌&&◌, ◌||◌, List, [], ◌∷◌, ◌++◌, length, map, Option, Some, None, if◌then◌else◌}
use Rattle.std.specs.List.{fold}
use Rattle.rv_types.specs.Word.{to_le}
use Rattle.rv_types.specs.Value.{size_of}
use Rattle.rv_types.specs.Isa.{Hart, Step, Goes, Exits, Traps, call, with_reg}
use Rattle.rv_types.specs.Memory.{Ram, with_bytes}
use Rattle.rv_types.specs.Regs.{writes_of}
use Rattle.rv_types.specs.declared.Cause.{Cause}
use Rattle.rv_types.specs.declared.End.{End}
use Rattle.rv_types.specs.declared.End.TheVariants.{Exit, Trap}
use Rattle.rv_types.specs.declared.Instr.{Instr}
use Rattle.rv_types.specs.declared.Instr.TheVariants as instr
use Rattle.rv_types.specs.declared.Op.{Op}
use Rattle.rv_types.specs.declared.Op.TheVariants.{Sb}
use Rattle.rv_types.specs.declared.Kind.{Kind}
use Rattle.rv_types.specs.declared.Kind.TheVariants.{Store, Call, Stop}
use Rattle.machine_desc.specs.declared.Desc.{Desc}
use Rattle.window_model.specs.declared.Entry.{Entry}
use Rattle.window_model.specs.declared.Event.{Event}
use Rattle.window_model.specs.declared.Event.TheVariants as event
use Rattle.window_model.specs.declared.Outcome.{Outcome}
use Rattle.window_model.specs.State.{Machine, set_of, lines_of}
use Rattle.window_model.specs.Sets.{is_in, moved_up}
use Rattle.window_model.specs.Order.{is_done, is_control, is_store, fault_of, value_of}
use Rattle.window_model.specs.Resolve.{next_of}

-- what the turns leave: the state, the events and the piece of output
pub record Retired : Type 0 where
  pub machine : Machine
  pub events : List Event
  pub piece : List ℕ

-- no turn of Retire: no change, no event and no output
abbrev pub stays : Machine → Retired
stays x = record { machine = x; events = []; piece = [] }

-- the state of the instruction set, as retired
abbrev pub hart_of : Machine → Hart
hart_of x = record { pc = x.pc; regs = x.regs; ram = x.ram }

-- the head may leave: Done, and resolved if it is a branch or JALR
abbrev pub may_leave : Entry → Bool
may_leave e = is_done e.state && (not (is_control e.item.kind) || e.resolved)

-- the cause with which an entry ends the run
abbrev pub trap_as : Kind → Entry → Option Cause
trap_as (Stop cause) e = Some cause
trap_as _ e = fault_of e.outcome

-- the cause with which this entry ends the run, if it does
abbrev pub trap_of : Entry → Option Cause
trap_of e = trap_as e.item.kind e

-- the address of an access, 0 where there is none yet
abbrev pub addr_of : Option Outcome → ℕ
addr_of None = 0
addr_of (Some o) = o.addr

-- the value that a store writes, 0 where there is none yet
abbrev pub stored_of : Option Outcome → ℕ
stored_of None = 0
stored_of (Some o) = o.stored

-- the operation of an instruction; one that has none counts as SB
abbrev pub op_of : Instr → Op
op_of (instr.Load op rd rs1 imm) = op
op_of (instr.Store op rs1 rs2 imm) = op
op_of (instr.Branch op rs1 rs2 imm) = op
op_of (instr.OpImm op rd rs1 imm) = op
op_of (instr.OpReg op rd rs1 rs2) = op
op_of _ = Sb

-- the bytes that an instruction moves as a load or store
abbrev pub width_in : Instr → ℕ
width_in i = size_of (op_of i)

-- the bytes that an entry moves as a load or store
abbrev pub byte_count : Entry → ℕ
byte_count e = width_in e.item.instr

-- ---- lines in the cache

-- the line is in the cache
abbrev pub has_line : Desc → List (List ℕ) → ℕ → Bool
has_line d cache line = is_in cache (set_of d line) line

-- the line moves to the front of its set, where it is there
abbrev pub with_line_touched : Desc → List (List ℕ) → ℕ → List (List ℕ)
with_line_touched d cache line = moved_up cache (set_of d line) line

-- ---- what each kind of head does

-- the state once a head has retired: its register, the pc and the count
abbrev pub leaves : Entry → List Entry → Machine → Machine
leaves e rest x = record x {
  window = rest;
  regs = with_reg x.regs (writes_of e.item.instr) (value_of e.outcome);
  pc = next_of e.outcome;
  retired = x.retired + 1;
}

-- the lines of what an entry accesses
abbrev pub lines_in : Desc → Entry → List ℕ
lines_in d e = lines_of d (addr_of e.outcome) (byte_count e)

-- memory once a store has written its bytes
abbrev pub stored_in : Ram → Entry → Ram
stored_in ram e = with_bytes ram (addr_of e.outcome) (to_le (byte_count e) (stored_of e.outcome))

-- a store's events: that it retires, and whether the cache has each of its lines
abbrev pub store_events : Desc → Entry → List (List ℕ) → List Event
store_events d e cache = event.Ret e.serial ∷ map (λ line. event.St e.serial line (has_line d cache line)) (lines_in d e)

-- a store also writes its bytes, and moves each of its lines to the front of its set, where the cache has it
abbrev pub store_leaves : Desc → Entry → List Entry → Machine → Retired
store_leaves d e rest x = record {
  machine = record (leaves e rest x) { ram = stored_in x.ram e; cache = fold (with_line_touched d) x.cache (lines_in d e) };
  events = store_events d e x.cache;
  piece = [];
}

-- the state after a step of the instruction set
abbrev pub as_hart : Hart → List Entry → Option End → Machine → Machine
as_hart s rest end x = record x { window = rest; regs = s.regs; pc = s.pc; ram = s.ram; retired = x.retired + 1; end = end }

-- a call acts on the retired state as the instruction set says; it never traps
abbrev pub call_leaves : Entry → List Entry → Machine → Step → Retired
call_leaves e rest x (Goes s piece) = record { machine = as_hart s rest None x; events = event.Ret e.serial ∷ event.Call e.serial (length piece) ∷ []; piece = piece }
call_leaves e rest x (Exits v s) = record { machine = as_hart s rest (Some (Exit v)) x; events = event.Ret e.serial ∷ event.Call e.serial 0 ∷ []; piece = [] }
call_leaves e rest x (Traps cause) = stays x

-- what the head does as it retires
abbrev pub head_leaves : Kind → Desc → Entry → List Entry → Machine → Retired
head_leaves Store d e rest x = store_leaves d e rest x
head_leaves Call d e rest x = call_leaves e rest x (call (hart_of x))
head_leaves _ d e rest x = record { machine = leaves e rest x; events = event.Ret e.serial ∷ []; piece = [] }

-- ---- the turns of Retire

-- the value `ended` where the run has ended, else the value `goes`
abbrev pub unless_ended : {A : Type 0} → Option End → A → A → A
unless_ended None ended goes = goes
unless_ended (Some e) ended goes = ended

-- one turn of Retire and then the next, with the events and output of both
abbrev pub then_retires : Retired → (Machine → Retired) → Retired
then_retires r more = let s = more r.machine in record { machine = s.machine; events = r.events ++ s.events; piece = r.piece ++ s.piece }

-- the run ends with a trap at the head, which does not retire
abbrev pub ends_with : Cause → Entry → Machine → Retired
ends_with cause e x = stays (record x { end = Some (Trap cause e.item.pc) })

-- a store waits behind another one of the cycle, and until it is cleared. This asks `cleared` alone: a store that needs
-- no clearing is cleared from its renaming on (`needs_clearing` of `Dependence.antt`)
abbrev pub store_waits : Bool → Entry → Bool
store_waits stored e = is_store e.item.kind && (stored || not e.cleared)

-- a head that may leave traps, or waits as a store, or retires and the next turn follows
abbrev pub turn : Desc → Bool → Option Cause → Entry → List Entry → Machine → (Bool → Machine → Retired) → Retired
turn d stored (Some cause) e rest x more = ends_with cause e x
turn d stored None e rest x more =
    if store_waits stored e then stays x
    else then_retires (head_leaves e.item.kind d e rest x) (more (stored || is_store e.item.kind))

-- a turn of Retire, if there is a head and it may leave
abbrev pub head_turn : Desc → Bool → List Entry → Machine → (Bool → Machine → Retired) → Retired
head_turn d stored [] x more = stays x
head_turn d stored (e ∷ rest) x more = if may_leave e then turn d stored (trap_of e) e rest x more else stays x

-- at most n turns of Retire, where `stored` says whether a store has retired in this cycle. After an end the window is
-- not looked at
abbrev pub turns : Desc → ℕ → Bool → Machine → Retired
turns d zero stored x = stays x
turns d (suc n) stored x = unless_ended x.end (stays x) (head_turn d stored x.window x (turns d n))

-- the phase Retire: at most as many turns as the description says, with no store retired yet in this cycle
unfoldable pub retire : Desc → Machine → Retired
retire d x = turns d d.core_retire_width false x
