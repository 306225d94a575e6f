-- What single operations, loads, divisions and calls come to, a line each. The values are those of the RISC-V manual
-- (volume I, chapters "RV32I Base Integer Instruction Set" and "M Standard Extension"), times and calls those of
-- docs/machine.md and docs/instruction-set.md, each worked out by hand.
use Rattle.std.proofs.Common.{◌≡◌, ℕ, List, [], ◌∷◌, refl}
use Rattle.std.specs.Prelude.{Bool, true, false, not, ◌==◌, replicate, slice_set, map}
use Rattle.std.specs.List.{list_all}
use Rattle.std.specs.Int.Count.{count_leading_zeros}
use Rattle.rv_types.specs.Value.{value, taken, div_time, extend}
use Rattle.rv_types.specs.Isa.{Hart, Step, Goes, Exits, Traps, reg, call}
use Rattle.rv_types.specs.declared.Op.{Op}
use Rattle.rv_types.specs.declared.Op.TheVariants.{Add, Sub, Sll, Slt, Sltu, Xor, Srl, Sra, Or, And, Mul, Mulh, Mulhsu, Mulhu, Div, Divu, Rem, Remu}
use Rattle.rv_types.specs.declared.Op.TheVariants.{Beq, Bne, Blt, Bge, Bltu, Bgeu, Lb, Lh, Lw, Lbu, Lhu}

-- every one of these tests holds
abbrev all : List Bool → Bool
all tests = list_all (λ test. test) tests

-- the operation gives this value
abbrev gives : Op → ℕ → ℕ → ℕ → Bool
gives op a b wanted = value op a b == wanted

sums_and_bits : all (
    gives Add 0xffffffff 1 0 ∷
    gives Add 0x7fffffff 1 0x80000000 ∷
    gives Sub 0 1 0xffffffff ∷
    gives Sub 0x80000000 1 0x7fffffff ∷
    gives Xor 0xff00ff00 0x0ff00ff0 0xf0f0f0f0 ∷
    gives Or 0xff00ff00 0x0ff00ff0 0xfff0fff0 ∷
    gives And 0xff00ff00 0x0ff00ff0 0x0f000f00 ∷
    []) ≡ true
sums_and_bits = refl

-- SLT and SLTU of numbers that are the same but for a sign
comparisons : all (
    gives Slt 0x80000000 0 1 ∷
    gives Slt 0 0x80000000 0 ∷
    gives Slt 0xffffffff 0 1 ∷
    gives Slt 0 0xffffffff 0 ∷
    gives Slt 5 5 0 ∷
    gives Sltu 0x80000000 0 0 ∷
    gives Sltu 0 0x80000000 1 ∷
    gives Sltu 0xffffffff 0 0 ∷
    gives Sltu 0 0xffffffff 1 ∷
    gives Sltu 5 5 0 ∷
    []) ≡ true
comparisons = refl

-- shifts by the low five bits alone; SRA copies the sign
shifts : all (
    gives Sll 1 31 0x80000000 ∷
    gives Sll 3 31 0x80000000 ∷
    gives Sll 1 32 1 ∷
    gives Sll 1 0xffffffff 0x80000000 ∷
    gives Srl 0x80000000 31 1 ∷
    gives Srl 0x80000000 33 0x40000000 ∷
    gives Srl 0xffffffff 32 0xffffffff ∷
    gives Sra 0x80000000 31 0xffffffff ∷
    gives Sra 0x80000000 33 0xc0000000 ∷
    gives Sra 0x40000000 30 1 ∷
    gives Sra 0xfffffffd 1 0xfffffffe ∷
    []) ≡ true
shifts = refl

products : all (
    gives Mul 0xffffffff 0xffffffff 1 ∷
    gives Mul 0x10000 0x10000 0 ∷
    gives Mulh 0xffffffff 0xffffffff 0 ∷
    gives Mulh 0xffffffff 1 0xffffffff ∷
    gives Mulh 0x80000000 0x80000000 0x40000000 ∷
    gives Mulh 0x7fffffff 0x80000000 0xc0000000 ∷
    gives Mulhsu 0xffffffff 0xffffffff 0xffffffff ∷
    gives Mulhsu 0xffffffff 2 0xffffffff ∷
    gives Mulhsu 2 0xffffffff 1 ∷
    gives Mulhu 0xffffffff 0xffffffff 0xfffffffe ∷
    gives Mulhu 0xffffffff 1 0 ∷
    gives Mulhu 0x80000000 2 1 ∷
    []) ≡ true
products = refl

-- quotients are rounded towards zero, and a remainder has the dividend's sign; by 0 the quotient is all ones and the
-- remainder the dividend; -2 ^ 31 by -1 gives -2 ^ 31 and 0
divisions : all (
    gives Div 0xfffffff9 2 0xfffffffd ∷
    gives Div 7 0xfffffffe 0xfffffffd ∷
    gives Div 0xfffffff9 0xfffffffe 3 ∷
    gives Div 7 0 0xffffffff ∷
    gives Div 0x80000000 0 0xffffffff ∷
    gives Div 0x80000000 0xffffffff 0x80000000 ∷
    gives Divu 0xfffffff9 2 0x7ffffffc ∷
    gives Divu 7 0 0xffffffff ∷
    gives Divu 0x80000000 0xffffffff 0 ∷
    gives Rem 0xfffffff9 2 0xffffffff ∷
    gives Rem 7 0xfffffffe 1 ∷
    gives Rem 0xfffffff9 0 0xfffffff9 ∷
    gives Rem 0x80000000 0xffffffff 0 ∷
    gives Remu 0xfffffffe 7 2 ∷
    gives Remu 7 0 7 ∷
    gives Remu 0x80000000 0xffffffff 0x80000000 ∷
    []) ≡ true
divisions = refl

-- signed and unsigned branches on numbers that are the same but for a sign, and on equal ones
branches : all (
    taken Beq 5 5 ∷
    not (taken Beq 5 6) ∷
    taken Bne 5 6 ∷
    not (taken Bne 5 5) ∷
    taken Blt 0x80000000 0 ∷
    not (taken Blt 0 0x80000000) ∷
    not (taken Blt 5 5) ∷
    taken Bge 0 0x80000000 ∷
    not (taken Bge 0x80000000 0) ∷
    taken Bge 5 5 ∷
    taken Bltu 0 0x80000000 ∷
    not (taken Bltu 0x80000000 0) ∷
    not (taken Bltu 5 5) ∷
    taken Bgeu 0x80000000 0 ∷
    not (taken Bgeu 0 0x80000000) ∷
    taken Bgeu 5 5 ∷
    []) ≡ true
branches = refl

-- a load makes this of the number of its bytes
abbrev loads : Op → ℕ → ℕ → Bool
loads op bytes wanted = extend op bytes == wanted

signs_of_loads : all (
    loads Lb 0x7f 0x7f ∷
    loads Lb 0x80 0xffffff80 ∷
    loads Lb 0xff 0xffffffff ∷
    loads Lbu 0x80 0x80 ∷
    loads Lbu 0xff 0xff ∷
    loads Lh 0x7fff 0x7fff ∷
    loads Lh 0x8000 0xffff8000 ∷
    loads Lh 0xffff 0xffffffff ∷
    loads Lhu 0x8000 0x8000 ∷
    loads Lhu 0xffff 0xffff ∷
    loads Lw 0x80000000 0x80000000 ∷
    []) ≡ true
signs_of_loads = refl

-- a division of this dividend takes so many cycles
abbrev takes : Op → ℕ → ℕ → Bool
takes op dividend cycles = div_time op dividend == cycles

-- DIV and REM go by the magnitude, DIVU and REMU by the number as it is
times_of_divisions : all (
    takes Div 0 3 ∷
    takes Div 1 4 ∷
    takes Div 0xffffffff 4 ∷
    takes Div 0x7fffffff 34 ∷
    takes Div 0x80000000 35 ∷
    takes Div 0xfffffff0 8 ∷
    takes Div 0x10000 20 ∷
    takes Rem 0 3 ∷
    takes Rem 0xffffffff 4 ∷
    takes Rem 0x80000000 35 ∷
    takes Rem 0xfffffff0 8 ∷
    takes Divu 0 3 ∷
    takes Divu 1 4 ∷
    takes Divu 0xffffffff 35 ∷
    takes Divu 0xfffffff0 35 ∷
    takes Divu 0x7fffffff 34 ∷
    takes Remu 0 3 ∷
    takes Remu 0xffffffff 35 ∷
    takes Remu 0x8000 19 ∷
    []) ≡ true
unfolding count_leading_zeros
times_of_divisions = refl

-- ---- System calls of a program

-- a state at 0x10 with the letters A to D at 0x20, and these in a7, a0, a1 and a2
abbrev asking : ℕ → ℕ → ℕ → ℕ → Hart
asking a7 a0 a1 a2 = record {
  pc = 0x10;
  regs = slice_set (slice_set (slice_set (slice_set (replicate 32 0) 17 a7) 10 a0) 11 a1) 12 a2;
  ram = record { base = 0x20; bytes = 65 ∷ 66 ∷ 67 ∷ 68 ∷ []; misaligned = false };
}

-- how a call goes on: the next pc, the answer, and what is put out; or 1 and the exit's value
abbrev told : Step → List ℕ
told (Goes s piece) = s.pc ∷ reg s.regs 10 ∷ piece
told (Exits v s) = 1 ∷ v ∷ []
told (Traps cause) = []

calls : map (λ s. told (call s)) (
    asking 93 7 0 0 ∷
    asking 94 0xffffffff 0 0 ∷
    asking 63 1 0x20 4 ∷
    asking 0 1 0x20 4 ∷
    asking 64 0 0x20 4 ∷
    asking 64 3 0x20 4 ∷
    asking 64 1 0x20 4 ∷
    asking 64 2 0x21 2 ∷
    asking 64 1 0x23 1 ∷
    asking 64 1 0x20 5 ∷
    asking 64 1 0x1f 1 ∷
    asking 64 1 0x24 1 ∷
    asking 64 1 0xffffffff 0 ∷
    asking 64 0 0xffffffff 0 ∷
    [])
    ≡ (1 ∷ 7 ∷ []) ∷
    (1 ∷ 0xffffffff ∷ []) ∷
    (0x14 ∷ 0xffffffda ∷ []) ∷
    (0x14 ∷ 0xffffffda ∷ []) ∷
    (0x14 ∷ 0xfffffff7 ∷ []) ∷
    (0x14 ∷ 0xfffffff7 ∷ []) ∷
    (0x14 ∷ 4 ∷ 65 ∷ 66 ∷ 67 ∷ 68 ∷ []) ∷
    (0x14 ∷ 2 ∷ 66 ∷ 67 ∷ []) ∷
    (0x14 ∷ 1 ∷ 68 ∷ []) ∷
    (0x14 ∷ 0xfffffff2 ∷ []) ∷
    (0x14 ∷ 0xfffffff2 ∷ []) ∷
    (0x14 ∷ 0xfffffff2 ∷ []) ∷
    (0x14 ∷ 0 ∷ []) ∷
    (0x14 ∷ 0xfffffff7 ∷ []) ∷
    []
calls = refl
