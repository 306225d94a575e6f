-- How an instruction that doesn't fault moves marks.
use Rattle.std.specs.Prelude.{◌≡◌, ℕ, ◌+◌, ◌-◌, ◌≤◌, false, List, length, get_or, slice_set, Option, Some}
use Rattle.rv_types.specs.Isa.{Hart, reg, relative}
use Rattle.rv_types.specs.Regs.{reads_of, unless_zero, writes_of}
use Rattle.rv_types.specs.Value.{size_of}
use Rattle.rv_types.specs.declared.Instr.{Instr}
use Rattle.rv_types.specs.declared.Instr.TheVariants as instr
use Rattle.secret_marks.specs.Marks.{with_byte_marks, with_marks}
use Rattle.secret_marks.specs.Results.{loaded_marks, result_marks}
use Rattle.secret_marks.specs.Words.{unmarked}
use Rattle.constant_time.specs.PathMarks.{PathMarks, first_mark, second_mark}

-- the address that a load or store accesses, by these registers; 0 for any other instruction
abbrev pub access_at : List ℕ → Instr → ℕ
access_at regs (instr.Load op rd rs1 imm) = relative (reg regs rs1.number) imm
access_at regs (instr.Store op rs1 rs2 imm) = relative (reg regs rs1.number) imm
access_at regs i = 0

-- what a store writes lies within so many bytes of memory with this base
abbrev pub InMemory : ℕ → ℕ → Instr → ℕ → Type 0
InMemory base a (instr.Store op rs1 rs2 imm) size = (a - base) + size_of op ≤ size
InMemory base a i size = Unit {0}

-- the marks behind an instruction that accesses memory with this base at this address, where it doesn't fault
abbrev pub marks_after_access : ℕ → ℕ → Instr → PathMarks → PathMarks
marks_after_access base a (instr.Load op rd rs1 imm) m =
    let w = loaded_marks op (λ b. get_or m.bytes (b - base) false) a in
    record m { regs = with_marks m.regs (unless_zero rd.number) w }
marks_after_access base a (instr.Store op rs1 rs2 imm) m =
    record m { bytes = with_byte_marks m.bytes (a - base) (size_of op) (get_or m.regs rs2.number unmarked) }
marks_after_access base a instr.Ecall m = record m { regs = slice_set m.regs 10 unmarked }
marks_after_access base a i m =
    let w = result_marks i (first_mark (reads_of i) m.regs) (second_mark (reads_of i) m.regs) in
    record m { regs = with_marks m.regs (writes_of i) w }

-- marks move as the next instruction does in this state, if there is one and what it stores lies in memory
abbrev pub MovesAs : Option Instr → Hart → PathMarks → PathMarks → Type 0
MovesAs next s m m2 =
    (i : Instr) → Some i ≡ next → InMemory s.ram.base (access_at s.regs i) i (length m.bytes) → m2 ≡ marks_after_access s.ram.base (access_at s.regs i) i m
