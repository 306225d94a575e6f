-- Which registers instructions read and write (docs/instruction-set.md, "Sources and destination").
use Rattle.std.specs.Prelude.{ℕ, zero, suc, List, [], ◌∷◌, Option, Some, None}
use Rattle.rv_types.specs.declared.Instr.{Instr}
use Rattle.rv_types.specs.declared.Instr.TheVariants.{Lui, Auipc, Jal, Jalr, Branch, Load, Store, OpImm, OpReg}

-- the numbers of the registers that an instruction reads, first source and second
abbrev pub reads_of : Instr → List ℕ
reads_of (Jalr rd rs1 imm) = rs1.number ∷ []
reads_of (Branch op rs1 rs2 imm) = rs1.number ∷ rs2.number ∷ []
reads_of (Load op rd rs1 imm) = rs1.number ∷ []
reads_of (Store op rs1 rs2 imm) = rs1.number ∷ rs2.number ∷ []
reads_of (OpImm op rd rs1 imm) = rs1.number ∷ []
reads_of (OpReg op rd rs1 rs2) = rs1.number ∷ rs2.number ∷ []
reads_of _ = []

-- register 0 is never written
abbrev pub unless_zero : ℕ → Option ℕ
unless_zero zero = None
unless_zero (suc r) = Some (suc r)

-- the number of the register that it writes
abbrev pub writes_of : Instr → Option ℕ
writes_of (Lui rd imm) = unless_zero rd.number
writes_of (Auipc rd imm) = unless_zero rd.number
writes_of (Jal rd imm) = unless_zero rd.number
writes_of (Jalr rd rs1 imm) = unless_zero rd.number
writes_of (Load op rd rs1 imm) = unless_zero rd.number
writes_of (OpImm op rd rs1 imm) = unless_zero rd.number
writes_of (OpReg op rd rs1 rs2) = unless_zero rd.number
writes_of _ = None

-- a list of at most two as a pair of options
abbrev pub two : List ℕ → List (Option ℕ)
two [] = None ∷ None ∷ []
two (a ∷ []) = Some a ∷ None ∷ []
two (a ∷ b ∷ rest) = Some a ∷ Some b ∷ []
