-- What an operation stands for: one level of names for the forms of instructions and the operations in them.
use Rattle.rv_types.specs.declared.Instr.{Instr}
use Rattle.rv_types.specs.declared.Instr.TheVariants as instr
use Rattle.rv_types.specs.declared.Op.TheVariants as op
use Rattle.rv_decode.specs.declared.operations.Operation.{Operation}
use Rattle.rv_decode.specs.declared.operations.Operation.TheVariants.{Lui, Auipc, Jal, Jalr, Beq, Bne, Blt, Bge, Bltu, Bgeu, Lb, Lh, Lw, Lbu, Lhu, Sb, Sh, Sw, AddImm, SllImm, SltImm, SltuImm, XorImm, SrlImm, SraImm, OrImm, AndImm, Add, Sub, Sll, Slt, Sltu, Xor, Srl, Sra, Or, And, Mul, Mulh, Mulhsu, Mulhu, Div, Divu, Rem, Remu}

-- the instruction that an operation stands for: one that has no name of its own stands for the instruction beside it
abbrev pub instr_of : Operation → Instr → Instr
instr_of (Lui rd imm) i = instr.Lui rd imm
instr_of (Auipc rd imm) i = instr.Auipc rd imm
instr_of (Jal rd imm) i = instr.Jal rd imm
instr_of (Jalr rd rs1 imm) i = instr.Jalr rd rs1 imm
instr_of (Beq rs1 rs2 imm) i = instr.Branch op.Beq rs1 rs2 imm
instr_of (Bne rs1 rs2 imm) i = instr.Branch op.Bne rs1 rs2 imm
instr_of (Blt rs1 rs2 imm) i = instr.Branch op.Blt rs1 rs2 imm
instr_of (Bge rs1 rs2 imm) i = instr.Branch op.Bge rs1 rs2 imm
instr_of (Bltu rs1 rs2 imm) i = instr.Branch op.Bltu rs1 rs2 imm
instr_of (Bgeu rs1 rs2 imm) i = instr.Branch op.Bgeu rs1 rs2 imm
instr_of (Lb rd rs1 imm) i = instr.Load op.Lb rd rs1 imm
instr_of (Lh rd rs1 imm) i = instr.Load op.Lh rd rs1 imm
instr_of (Lw rd rs1 imm) i = instr.Load op.Lw rd rs1 imm
instr_of (Lbu rd rs1 imm) i = instr.Load op.Lbu rd rs1 imm
instr_of (Lhu rd rs1 imm) i = instr.Load op.Lhu rd rs1 imm
instr_of (Sb rs1 rs2 imm) i = instr.Store op.Sb rs1 rs2 imm
instr_of (Sh rs1 rs2 imm) i = instr.Store op.Sh rs1 rs2 imm
instr_of (Sw rs1 rs2 imm) i = instr.Store op.Sw rs1 rs2 imm
instr_of (AddImm rd rs1 imm) i = instr.OpImm op.Add rd rs1 imm
instr_of (SllImm rd rs1 imm) i = instr.OpImm op.Sll rd rs1 imm
instr_of (SltImm rd rs1 imm) i = instr.OpImm op.Slt rd rs1 imm
instr_of (SltuImm rd rs1 imm) i = instr.OpImm op.Sltu rd rs1 imm
instr_of (XorImm rd rs1 imm) i = instr.OpImm op.Xor rd rs1 imm
instr_of (SrlImm rd rs1 imm) i = instr.OpImm op.Srl rd rs1 imm
instr_of (SraImm rd rs1 imm) i = instr.OpImm op.Sra rd rs1 imm
instr_of (OrImm rd rs1 imm) i = instr.OpImm op.Or rd rs1 imm
instr_of (AndImm rd rs1 imm) i = instr.OpImm op.And rd rs1 imm
instr_of (Add rd rs1 rs2) i = instr.OpReg op.Add rd rs1 rs2
instr_of (Sub rd rs1 rs2) i = instr.OpReg op.Sub rd rs1 rs2
instr_of (Sll rd rs1 rs2) i = instr.OpReg op.Sll rd rs1 rs2
instr_of (Slt rd rs1 rs2) i = instr.OpReg op.Slt rd rs1 rs2
instr_of (Sltu rd rs1 rs2) i = instr.OpReg op.Sltu rd rs1 rs2
instr_of (Xor rd rs1 rs2) i = instr.OpReg op.Xor rd rs1 rs2
instr_of (Srl rd rs1 rs2) i = instr.OpReg op.Srl rd rs1 rs2
instr_of (Sra rd rs1 rs2) i = instr.OpReg op.Sra rd rs1 rs2
instr_of (Or rd rs1 rs2) i = instr.OpReg op.Or rd rs1 rs2
instr_of (And rd rs1 rs2) i = instr.OpReg op.And rd rs1 rs2
instr_of (Mul rd rs1 rs2) i = instr.OpReg op.Mul rd rs1 rs2
instr_of (Mulh rd rs1 rs2) i = instr.OpReg op.Mulh rd rs1 rs2
instr_of (Mulhsu rd rs1 rs2) i = instr.OpReg op.Mulhsu rd rs1 rs2
instr_of (Mulhu rd rs1 rs2) i = instr.OpReg op.Mulhu rd rs1 rs2
instr_of (Div rd rs1 rs2) i = instr.OpReg op.Div rd rs1 rs2
instr_of (Divu rd rs1 rs2) i = instr.OpReg op.Divu rd rs1 rs2
instr_of (Rem rd rs1 rs2) i = instr.OpReg op.Rem rd rs1 rs2
instr_of (Remu rd rs1 rs2) i = instr.OpReg op.Remu rd rs1 rs2
instr_of _ i = i
