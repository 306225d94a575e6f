-- The instruction set's own machine: one instruction at a time, in order (RISC-V unprivileged manual, chapters RV32I
-- and M). The calls are this project's own (docs/instruction-set.md, "System calls").
use Rattle.std.specs.Prelude.{ℕ, ℤ, zero, suc, ◌+◌, ◌-◌, ◌*◌, ◌/◌, ◌%◌, ◌^◌, min, Bool, false, not, ◌||◌, ◌==◌, if◌then◌else◌, List, [], ◌∷◌, length, replicate, Option, Some, None, slice_index, slice_set}
use Rattle.rv_types.specs.Word.{word_add, word, from_le, to_le}
use Rattle.rv_types.specs.Value.{value, taken, size_of, extend}
use Rattle.rv_types.specs.Decode.{decode}
use Rattle.rv_types.specs.Memory.{Ram, Code, in_ram, load_fault, store_fault, bytes_at, with_bytes}
use Rattle.rv_types.specs.Regs.{reads_of, writes_of, unless_zero}
use Rattle.rv_types.specs.Causes.{jump_misaligned, outside_code, illegal, breakpoint}
use Rattle.rv_types.specs.declared.Cause.{Cause}
use Rattle.rv_types.specs.declared.End.{End}
use Rattle.rv_types.specs.declared.End.TheVariants.{Exit, Trap}
use Rattle.rv_types.specs.declared.Op.{Op}
use Rattle.rv_types.specs.declared.Instr.{Instr}
use Rattle.rv_types.specs.declared.Instr.TheVariants.{Lui, Auipc, Jal, Jalr, Branch, Load, Store, OpImm, OpReg, Ecall, Ebreak, Illegal}

-- what an instruction makes of the values of its first and second source, memory and calls apart
pub record Effect : Type 0 where
  pub value : ℕ
  pub next : ℕ
  pub addr : ℕ
  pub stored : ℕ
  -- the target of a jump that is taken is no multiple of 4
  pub misaligned : Bool

-- the address that lies so far from this one
abbrev pub relative : ℕ → ℤ → ℕ
relative a offset = word_add a (word offset)

-- no instruction stands there: it is no multiple of 4
abbrev pub is_misaligned : ℕ → Bool
is_misaligned target = not (target % 4 == 0)

-- computes a value, and goes on behind the instruction
abbrev pub only : ℕ → ℕ → Effect
only pc v = record { value = v; next = word_add pc 4; addr = 0; stored = 0; misaligned = false }

-- jumps, with this value for the register that keeps the return address
abbrev pub jump : ℕ → ℕ → Effect
jump v target = record { value = v; next = target; addr = 0; stored = 0; misaligned = is_misaligned target }

-- an effect that accesses this address, to store this value where it is a store
abbrev pub at_address : ℕ → ℕ → ℕ → Effect
at_address pc a v = record { value = 0; next = word_add pc 4; addr = a; stored = v; misaligned = false }

-- the effect of an instruction at this pc, whose first and second source hold a and b
abbrev pub effect : ℕ → Instr → ℕ → ℕ → Effect
effect pc (Lui rd imm) a b = only pc (word imm)
effect pc (Auipc rd imm) a b = only pc (relative pc imm)
effect pc (Jal rd imm) a b = jump (word_add pc 4) (relative pc imm)
effect pc (Jalr rd rs1 imm) a b = jump (word_add pc 4) (relative a imm / 2 * 2)
effect pc (Branch op rs1 rs2 imm) a b = if taken op a b then jump 1 (relative pc imm) else only pc 0
effect pc (Load op rd rs1 imm) a b = at_address pc (relative a imm) 0
effect pc (Store op rs1 rs2 imm) a b = at_address pc (relative a imm) b
effect pc (OpImm op rd rs1 imm) a b = only pc (value op a (word imm))
effect pc (OpReg op rd rs1 rs2) a b = only pc (value op a b)
effect pc _ a b = only pc 0

-- the state: pc, 32 registers, memory
pub record Hart : Type 0 where
  pub pc : ℕ
  pub regs : List ℕ
  pub ram : Ram

-- the value of a register; register 0 holds 0, since it is never written
abbrev pub reg : List ℕ → ℕ → ℕ
reg regs r = slice_index regs r

-- the registers with this one written, where there is one
abbrev pub with_reg : List ℕ → Option ℕ → ℕ → List ℕ
with_reg regs None v = regs
with_reg regs (Some r) v = slice_set regs r v

-- how a step goes: on to a state with a piece of output, to an exit, or to a trap
pub data Step : Type 0 where
  Goes : Hart → List ℕ → Step
  Exits : ℕ → Hart → Step
  Traps : Cause → Step

-- the state after an instruction without memory, which writes the register named
abbrev pub goes_to : Hart → Option ℕ → Effect → Hart
goes_to s rd e = record s { pc = e.next; regs = with_reg s.regs rd e.value }

-- the values of the first and the second register named
abbrev pub first_of : List ℕ → List ℕ → ℕ
first_of [] regs = 0
first_of (r ∷ rs) regs = reg regs r

abbrev pub second_of : List ℕ → List ℕ → ℕ
second_of [] regs = 0
second_of (r ∷ rs) regs = first_of rs regs

abbrev pub effect_in : Hart → Instr → Effect
effect_in s i = effect s.pc i (first_of (reads_of i) s.regs) (second_of (reads_of i) s.regs)

-- ---- System calls: the number in a7 (x17), arguments from a0 (x10) on, the answer in a0

-- 2 ^ 32 less n, the word of a negated number
abbrev pub minus : ℕ → ℕ
minus n = 2 ^ 32 - n

-- after a call that isn't an exit: the next pc, and the answer in a0
abbrev pub answers : Hart → ℕ → Hart
answers s v = record s { pc = word_add s.pc 4; regs = slice_set s.regs 10 v }

-- the write of m bytes from an address on: 0 where there are none, -14 where one is outside memory
abbrev pub write_of : Hart → ℕ → ℕ → Step
write_of s a m =
    if m == 0 then Goes (answers s 0) []
    else if in_ram s.ram a m then Goes (answers s m) (bytes_at s.ram a m)
    else Goes (answers s (minus 14)) []

-- 93 and 94 end the run with value a0; 64 writes min(a2, 1024) bytes from a1 on to stream 1 or 2, else answers -9;
-- any other answers -38
abbrev pub call : Hart → Step
call s =
    let a7 = reg s.regs 17 in
    let a0 = reg s.regs 10 in
    if a7 == 93 || a7 == 94 then Exits a0 (record s { pc = word_add s.pc 4 })
    else if not (a7 == 64) then Goes (answers s (minus 38)) []
    else if not (a0 == 1 || a0 == 2) then Goes (answers s (minus 9)) []
    else write_of s (reg s.regs 11) (min (reg s.regs 12) 1024)

-- ---- One step of the instruction set

-- the step, unless there is this fault
abbrev pub or_trap : Option Cause → Step → Step
or_trap None step = step
or_trap (Some cause) step = Traps cause

-- the value that a load gives
abbrev pub load_value : Hart → Op → ℕ → ℕ
load_value s op a = extend op (from_le (bytes_at s.ram a (size_of op)))

-- a load, whose effect has the address: writes the value that memory has there
abbrev pub load_step : Hart → Op → Option ℕ → Effect → Step
load_step s op rd e =
    or_trap (load_fault s.ram e.addr (size_of op)) (Goes (goes_to s rd (record e { value = load_value s op e.addr })) [])

-- a store, whose effect has the address and the value: writes as many of its bytes as the operation says
abbrev pub store_step : Hart → Op → Effect → Step
store_step s op e =
    let written = with_bytes s.ram e.addr (to_le (size_of op) e.stored) in
    or_trap (store_fault s.ram e.addr (size_of op)) (Goes (record s { pc = e.next; ram = written }) [])

-- any other that isn't a call, with the register that it writes: a jump goes to a multiple of 4 alone
abbrev pub other_step : Hart → Option ℕ → Effect → Step
other_step s rd e = if e.misaligned then Traps jump_misaligned else Goes (goes_to s rd e) []

-- the step of an instruction: a trap changes nothing
abbrev pub step_of : Hart → Instr → Step
step_of s (Load op rd rs1 imm) = load_step s op (unless_zero rd.number) (effect_in s (Load op rd rs1 imm))
step_of s (Store op rs1 rs2 imm) = store_step s op (effect_in s (Store op rs1 rs2 imm))
step_of s Ecall = call s
step_of s Ebreak = Traps breakpoint
step_of s (Illegal w) = Traps illegal
step_of s i = other_step s (writes_of i) (effect_in s i)

-- the step of the word fetched; outside code it is a trap
abbrev pub step_at : Option ℕ → Hart → Step
step_at None s = Traps outside_code
step_at (Some w) s = step_of s (decode w)

-- one step of the instruction set
unfoldable pub isa_step : Code → Hart → Step
isa_step code s = step_at (code s.pc) s

-- ---- Whole runs of the instruction set

-- what a run comes to: the last state, the pieces that are not empty, the steps taken (an exit counts, a trap doesn't)
-- and the end, if it ended
pub record Run : Type 0 where
  pub last : Hart
  pub pieces : List (List ℕ)
  pub steps : ℕ
  pub ended : Option End

-- the pieces with one more in front, unless that one is empty
abbrev pub with_piece : List ℕ → List (List ℕ) → List (List ℕ)
with_piece [] ps = ps
with_piece (b ∷ bs) ps = (b ∷ bs) ∷ ps

abbrev pub run_at_end : Hart → ℕ → Option End → Run
run_at_end s n end = record { last = s; pieces = []; steps = n; ended = end }

-- a step, and then the rest of the run
abbrev pub after : Hart → Step → (Hart → Run) → Run
after s (Goes s' piece) rest = let r = rest s' in record r { pieces = with_piece piece r.pieces; steps = r.steps + 1 }
after s (Exits v s') rest = run_at_end s' 1 (Some (Exit v))
after s (Traps cause) rest = run_at_end s 0 (Some (Trap cause s.pc))

-- at most n steps of this kind
abbrev pub run : (Hart → Step) → ℕ → Hart → Run
run step zero s = run_at_end s 0 None
run step (suc n) s = after s (step s) (run step n)

-- at most n steps of the instruction set
abbrev pub isa : Code → Hart → ℕ → Run
isa code s n = run (isa_step code) n s

-- where a run begins: x2 is 16 bytes below memory's end, all other registers are 0
abbrev pub start : ℕ → Ram → Hart
start entry ram = record { pc = entry; regs = slice_set (replicate 32 0) 2 (ram.base + length ram.bytes - 16); ram = ram }
