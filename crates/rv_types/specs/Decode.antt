-- The instruction that a word encodes: a row for each, by opcode (bits 6..0), funct3 (bits 14..12) and funct7 (bits
-- 31..25). The table is that of the RISC-V unprivileged manual, "RV32/64G Instruction Set Listings", RV32I and RV32M,
-- without what docs/instruction-set.md leaves out.
use Rattle.std.specs.Prelude.{ℕ, ◌+◌, ◌-◌, ◌*◌, ◌/◌, ◌%◌, ◌^◌, Bool, true, ◌&&◌, ◌==◌, nat_lt, if◌then◌else◌, ℤ, pos, negsuc, List, [], ◌∷◌, Option, Some, None}
use Rattle.std.proofs.Common.{lit<}
use Rattle.std.proofs.lemmas.Nat.{mod_below}
use Rattle.rv_types.specs.Word.{field, signed}
use Rattle.rv_types.specs.declared.Reg.{Reg}
use Rattle.rv_types.specs.declared.Instr.{Instr}
use Rattle.rv_types.specs.declared.Instr.TheVariants.{Lui, Auipc, Jal, Jalr, Branch, Load, Store, OpImm, OpReg, Fence, Ecall, Ebreak, Illegal}
use Rattle.rv_types.specs.declared.Op.{Op}
use Rattle.rv_types.specs.declared.Op.TheVariants.{Beq, Bne, Blt, Bge, Bltu, Bgeu, Lb, Lh, Lw, Lbu, Lhu, Sb, Sh, Sw, Add, Sub, Sll, Slt, Sltu, Xor, Srl, Sra, Or, And, Mul, Mulh, Mulhsu, Mulhu, Div, Divu, Rem, Remu}

-- a number of k bits, read as signed
abbrev pub sign_extend : ℕ → ℕ → ℤ
sign_extend k n = if nat_lt n (2 ^ (k - 1)) then pos n else negsuc (2 ^ k - 1 - n)

-- the immediates of the forms I, S, B, U and J, sign-extended from the highest bit
abbrev pub imm_i : ℕ → ℤ
imm_i w = sign_extend 12 (field w 20 12)

abbrev pub imm_s : ℕ → ℤ
imm_s w = sign_extend 12 (field w 25 7 * 2 ^ 5 + field w 7 5)

abbrev pub imm_b : ℕ → ℤ
imm_b w = sign_extend 13 (field w 31 1 * 2 ^ 12 + field w 7 1 * 2 ^ 11 + field w 25 6 * 2 ^ 5 + field w 8 4 * 2)

abbrev pub imm_u : ℕ → ℤ
imm_u w = signed (field w 12 20 * 2 ^ 12)

abbrev pub imm_j : ℕ → ℤ
imm_j w = sign_extend 21 (field w 31 1 * 2 ^ 20 + field w 12 8 * 2 ^ 12 + field w 20 1 * 2 ^ 11 + field w 21 10 * 2)

-- the register named by the five bits from `low` on
abbrev pub reg_at : ℕ → ℕ → Reg
reg_at w low = record { number = w / 2 ^ low % 32; in_range = mod_below (w / 2 ^ low) 32 (lit< tt) }

abbrev pub rd : ℕ → Reg
rd w = reg_at w 7

abbrev pub rs1 : ℕ → Reg
rs1 w = reg_at w 15

abbrev pub rs2 : ℕ → Reg
rs2 w = reg_at w 20

-- an instruction by its operation and the fields of its word, for each form
abbrev pub branch : Op → ℕ → Instr
branch op w = Branch op (rs1 w) (rs2 w) (imm_b w)

abbrev pub load : Op → ℕ → Instr
load op w = Load op (rd w) (rs1 w) (imm_i w)

abbrev pub store : Op → ℕ → Instr
store op w = Store op (rs1 w) (rs2 w) (imm_s w)

abbrev pub op_imm : Op → ℕ → Instr
op_imm op w = OpImm op (rd w) (rs1 w) (imm_i w)

abbrev pub shift_imm : Op → ℕ → Instr
shift_imm op w = OpImm op (rd w) (rs1 w) (pos (field w 20 5))

abbrev pub op_reg : Op → ℕ → Instr
op_reg op w = OpReg op (rd w) (rs1 w) (rs2 w)

-- a row of the table: what has to match, and what the word then is
pub record Encoding : Type 0 where
  pub opcode : ℕ
  pub funct3 : Option ℕ
  pub funct7 : Option ℕ
  pub instr : ℕ → Instr

-- a field that may be anything
abbrev pub any : Option ℕ
any = None

-- a field that has to be this
abbrev pub is : ℕ → Option ℕ
is n = Some n

-- whether a field is what a row demands
abbrev pub matches : Option ℕ → ℕ → Bool
matches None n = true
matches (Some m) n = n == m

-- a row of the table: opcode, the two fields, and the instruction that the word then is
abbrev pub row : ℕ → Option ℕ → Option ℕ → (ℕ → Instr) → Encoding
row opcode f3 f7 instr = record { opcode = opcode; funct3 = f3; funct7 = f7; instr = instr }

-- the table of all instructions but ECALL and EBREAK
abbrev pub table : List Encoding
table =
    row 0b0110111 any any (λ w. Lui (rd w) (imm_u w))
    ∷ row 0b0010111 any any (λ w. Auipc (rd w) (imm_u w))
    ∷ row 0b1101111 any any (λ w. Jal (rd w) (imm_j w))
    ∷ row 0b1100111 (is 0) any (λ w. Jalr (rd w) (rs1 w) (imm_i w))
    ∷ row 0b1100011 (is 0) any (branch Beq)
    ∷ row 0b1100011 (is 1) any (branch Bne)
    ∷ row 0b1100011 (is 4) any (branch Blt)
    ∷ row 0b1100011 (is 5) any (branch Bge)
    ∷ row 0b1100011 (is 6) any (branch Bltu)
    ∷ row 0b1100011 (is 7) any (branch Bgeu)
    ∷ row 0b0000011 (is 0) any (load Lb)
    ∷ row 0b0000011 (is 1) any (load Lh)
    ∷ row 0b0000011 (is 2) any (load Lw)
    ∷ row 0b0000011 (is 4) any (load Lbu)
    ∷ row 0b0000011 (is 5) any (load Lhu)
    ∷ row 0b0100011 (is 0) any (store Sb)
    ∷ row 0b0100011 (is 1) any (store Sh)
    ∷ row 0b0100011 (is 2) any (store Sw)
    ∷ row 0b0010011 (is 0) any (op_imm Add)
    ∷ row 0b0010011 (is 2) any (op_imm Slt)
    ∷ row 0b0010011 (is 3) any (op_imm Sltu)
    ∷ row 0b0010011 (is 4) any (op_imm Xor)
    ∷ row 0b0010011 (is 6) any (op_imm Or)
    ∷ row 0b0010011 (is 7) any (op_imm And)
    ∷ row 0b0010011 (is 1) (is 0) (shift_imm Sll)
    ∷ row 0b0010011 (is 5) (is 0) (shift_imm Srl)
    ∷ row 0b0010011 (is 5) (is 32) (shift_imm Sra)
    ∷ row 0b0110011 (is 0) (is 0) (op_reg Add)
    ∷ row 0b0110011 (is 1) (is 0) (op_reg Sll)
    ∷ row 0b0110011 (is 2) (is 0) (op_reg Slt)
    ∷ row 0b0110011 (is 3) (is 0) (op_reg Sltu)
    ∷ row 0b0110011 (is 4) (is 0) (op_reg Xor)
    ∷ row 0b0110011 (is 5) (is 0) (op_reg Srl)
    ∷ row 0b0110011 (is 6) (is 0) (op_reg Or)
    ∷ row 0b0110011 (is 7) (is 0) (op_reg And)
    ∷ row 0b0110011 (is 0) (is 32) (op_reg Sub)
    ∷ row 0b0110011 (is 5) (is 32) (op_reg Sra)
    ∷ row 0b0110011 (is 0) (is 1) (op_reg Mul)
    ∷ row 0b0110011 (is 1) (is 1) (op_reg Mulh)
    ∷ row 0b0110011 (is 2) (is 1) (op_reg Mulhsu)
    ∷ row 0b0110011 (is 3) (is 1) (op_reg Mulhu)
    ∷ row 0b0110011 (is 4) (is 1) (op_reg Div)
    ∷ row 0b0110011 (is 5) (is 1) (op_reg Divu)
    ∷ row 0b0110011 (is 6) (is 1) (op_reg Rem)
    ∷ row 0b0110011 (is 7) (is 1) (op_reg Remu)
    ∷ row 0b0001111 (is 0) any Fence
    ∷ []

-- the instruction by the first row that the word matches, else an illegal one
abbrev pub look_up : List Encoding → ℕ → Instr
look_up [] w = Illegal w
look_up (r ∷ rows) w = if field w 0 7 == r.opcode && matches r.funct3 (field w 12 3) && matches r.funct7 (field w 25 7) then r.instr w else look_up rows w

-- ECALL and EBREAK are one word each; a word that no row has is illegal
unfoldable pub decode : ℕ → Instr
decode w = if w == 0x00000073 then Ecall else if w == 0x00100073 then Ebreak else look_up table w
