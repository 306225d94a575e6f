-- The word of an instruction's fields (RISC-V unprivileged manual, RV32I, "Base Instruction Formats" and "Immediate
-- Encoding Variants"; the opcodes, funct3 and funct7 from "RV32/64G Instruction Set Listings").
use Rattle.std.specs.Prelude.{ℕ, ◌+◌, ◌*◌, ◌^◌}
use Rattle.rv_types.specs.Word.{field, word, word_add}
use Rattle.rv_types.specs.declared.Instr.{Instr}
use Rattle.rv_types.specs.declared.Instr.TheVariants.{Lui, Auipc, Jal, Jalr, Branch, Load, Store, OpImm, OpReg, Fence, Ecall, Ebreak, Illegal}
use Rattle.rv_types.specs.declared.Op.{Op}
use Rattle.rv_types.specs.declared.Op.TheVariants.{Beq, Bne, Blt, Bge, Bltu, Bgeu, Lb, Lh, Lw, Lbu, Lhu, Sb, Sh, Sw, Add, Sub, Sll, Slt, Sltu, Xor, Srl, Sra, Or, And, Mul, Mulh, Mulhsu, Mulhu, Div, Divu, Rem, Remu}

-- the forms, each field from its lowest bit on; an immediate is a word
abbrev pub r_form : ℕ → ℕ → ℕ → ℕ → ℕ → ℕ → ℕ
r_form opcode rd funct3 rs1 rs2 funct7 = opcode + rd * 2 ^ 7 + funct3 * 2 ^ 12 + rs1 * 2 ^ 15 + rs2 * 2 ^ 20 + funct7 * 2 ^ 25

abbrev pub i_form : ℕ → ℕ → ℕ → ℕ → ℕ → ℕ
i_form opcode rd funct3 rs1 imm = opcode + rd * 2 ^ 7 + funct3 * 2 ^ 12 + rs1 * 2 ^ 15 + field imm 0 12 * 2 ^ 20

abbrev pub s_form : ℕ → ℕ → ℕ → ℕ → ℕ → ℕ
s_form opcode funct3 rs1 rs2 imm = r_form opcode (field imm 0 5) funct3 rs1 rs2 (field imm 5 7)

abbrev pub b_form : ℕ → ℕ → ℕ → ℕ → ℕ → ℕ
b_form opcode funct3 rs1 rs2 imm = r_form opcode (field imm 11 1 + field imm 1 4 * 2) funct3 rs1 rs2 (field imm 5 6 + field imm 12 1 * 2 ^ 6)

abbrev pub u_form : ℕ → ℕ → ℕ → ℕ
u_form opcode rd imm = opcode + rd * 2 ^ 7 + field imm 12 20 * 2 ^ 12

abbrev pub j_form : ℕ → ℕ → ℕ → ℕ
j_form opcode rd imm = opcode + rd * 2 ^ 7 + field imm 12 8 * 2 ^ 12 + field imm 11 1 * 2 ^ 20 + field imm 1 10 * 2 ^ 21 + field imm 20 1 * 2 ^ 31

-- the field funct3 of an operation
abbrev pub funct3_of : Op → ℕ
funct3_of Beq = 0
funct3_of Bne = 1
funct3_of Blt = 4
funct3_of Bge = 5
funct3_of Bltu = 6
funct3_of Bgeu = 7
funct3_of Lb = 0
funct3_of Lh = 1
funct3_of Lw = 2
funct3_of Lbu = 4
funct3_of Lhu = 5
funct3_of Sb = 0
funct3_of Sh = 1
funct3_of Sw = 2
funct3_of Add = 0
funct3_of Sub = 0
funct3_of Sll = 1
funct3_of Slt = 2
funct3_of Sltu = 3
funct3_of Xor = 4
funct3_of Srl = 5
funct3_of Sra = 5
funct3_of Or = 6
funct3_of And = 7
funct3_of Mul = 0
funct3_of Mulh = 1
funct3_of Mulhsu = 2
funct3_of Mulhu = 3
funct3_of Div = 4
funct3_of Divu = 5
funct3_of Rem = 6
funct3_of Remu = 7

-- the field funct7 of an operation on two registers
abbrev pub funct7_of : Op → ℕ
funct7_of Sub = 32
funct7_of Sra = 32
funct7_of Mul = 1
funct7_of Mulh = 1
funct7_of Mulhsu = 1
funct7_of Mulhu = 1
funct7_of Div = 1
funct7_of Divu = 1
funct7_of Rem = 1
funct7_of Remu = 1
funct7_of _ = 0

-- the twelve bits of the immediate of OP-IMM: SRAI has a bit more than the amount
abbrev pub immediate_of : Op → ℕ → ℕ
immediate_of Sra imm = word_add imm (2 ^ 10)
immediate_of _ imm = imm

-- the word of an instruction's fields, each cut to its bits; where the instruction has one at all, this is it
abbrev pub word_of : Instr → ℕ
word_of (Lui rd imm) = u_form 0b0110111 rd.number (word imm)
word_of (Auipc rd imm) = u_form 0b0010111 rd.number (word imm)
word_of (Jal rd imm) = j_form 0b1101111 rd.number (word imm)
word_of (Jalr rd rs1 imm) = i_form 0b1100111 rd.number 0 rs1.number (word imm)
word_of (Branch op rs1 rs2 imm) = b_form 0b1100011 (funct3_of op) rs1.number rs2.number (word imm)
word_of (Load op rd rs1 imm) = i_form 0b0000011 rd.number (funct3_of op) rs1.number (word imm)
word_of (Store op rs1 rs2 imm) = s_form 0b0100011 (funct3_of op) rs1.number rs2.number (word imm)
word_of (OpImm op rd rs1 imm) = i_form 0b0010011 rd.number (funct3_of op) rs1.number (immediate_of op (word imm))
word_of (OpReg op rd rs1 rs2) = r_form 0b0110011 rd.number (funct3_of op) rs1.number rs2.number (funct7_of op)
word_of (Fence w) = w
word_of Ecall = 0x00000073
word_of Ebreak = 0x00100073
word_of (Illegal w) = w
