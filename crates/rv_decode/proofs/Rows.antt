-- The row of the table for a word whose fields are known.
use Rattle.std.proofs.Common.{◌≡◌, ◌≢◌, ℕ, refl, ap, ◌∙◌, List, [], ◌∷◌, false, arith}
use Rattle.std.proofs.Math.Bool.{and-false}
use Rattle.std.proofs.lemmas.Bool.Decides.{nat_tests}
use Rattle.std.specs.Prelude.{◌==◌, ◌&&◌, if◌then◌else◌}
use Rattle.rv_types.specs.Word.{field}
use Rattle.rv_types.specs.Decode.{decode, table, look_up, matches, Encoding}
use Rattle.rv_types.specs.declared.Instr.{Instr}
use Rattle.rv_types.specs.declared.Instr.TheVariants.{Illegal, Ecall, Ebreak}

-- the instruction of the first row for these fields
abbrev pub look : List Encoding → ℕ → ℕ → ℕ → ℕ → Instr
look [] op f3 f7 w = Illegal w
look (r ∷ rows) op f3 f7 w = if op == r.opcode && matches r.funct3 f3 && matches r.funct7 f7 then r.instr w else look rows op f3 f7 w

look_up-fields : (rows : List Encoding) (w : ℕ) → look_up rows w ≡ look rows (field w 0 7) (field w 12 3) (field w 25 7) w
look_up-fields [] w = refl
look_up-fields (r ∷ rows) w = ap (λ rest. if field w 0 7 == r.opcode && matches r.funct3 (field w 12 3) && matches r.funct7 (field w 25 7) then r.instr w else rest) (look_up-fields rows w)

-- a word with another opcode than 115 is neither ECALL nor EBREAK
not_system : (w op : ℕ) → field w 0 7 ≡ op → (op == 115) ≡ false → ((w == 0x73) ≡ false) × ((w == 0x100073) ≡ false)
not_system w op e ne = (grind (arith, nat_tests), grind (arith, nat_tests))

-- a word with these fields is decoded by the table's row for them, if it is no system call
pub decode_row : (w op f3 f7 : ℕ) → field w 0 7 ≡ op → field w 12 3 ≡ f3 → field w 25 7 ≡ f7 → (op == 115) ≡ false → decode w ≡ look table op f3 f7 w
unfolding decode
decode_row w op f3 f7 e e3 e7 ne =
    let n = not_system w op e ne in
    rw (n.0, n.1) (look_up-fields table w
    ∙ ap (λ x. look table x (field w 12 3) (field w 25 7) w) e
    ∙ ap (λ y. look table op y (field w 25 7) w) e3
    ∙ ap (λ z. look table op f3 z w) e7)

-- what is left of the table, by opcode
pub decode_jalr : (w : ℕ) → field w 0 7 ≡ 0b1100111 → decode w ≡ look table 0b1100111 (field w 12 3) (field w 25 7) w
decode_jalr w e = decode_row w 0b1100111 _ _ e refl refl refl

pub decode_branch : (w : ℕ) → field w 0 7 ≡ 0b1100011 → decode w ≡ look table 0b1100011 (field w 12 3) (field w 25 7) w
decode_branch w e = decode_row w 0b1100011 _ _ e refl refl refl

pub decode_load : (w : ℕ) → field w 0 7 ≡ 0b0000011 → decode w ≡ look table 0b0000011 (field w 12 3) (field w 25 7) w
decode_load w e = decode_row w 0b0000011 _ _ e refl refl refl

pub decode_store : (w : ℕ) → field w 0 7 ≡ 0b0100011 → decode w ≡ look table 0b0100011 (field w 12 3) (field w 25 7) w
decode_store w e = decode_row w 0b0100011 _ _ e refl refl refl

pub decode_op_imm : (w : ℕ) → field w 0 7 ≡ 0b0010011 → decode w ≡ look table 0b0010011 (field w 12 3) (field w 25 7) w
decode_op_imm w e = decode_row w 0b0010011 _ _ e refl refl refl

pub decode_misc_mem : (w : ℕ) → field w 0 7 ≡ 0b0001111 → decode w ≡ look table 0b0001111 (field w 12 3) (field w 25 7) w
decode_misc_mem w e = decode_row w 0b0001111 _ _ e refl refl refl

pub decode_system : (w : ℕ) → field w 0 7 ≡ 0b1110011 → decode w ≡ (if w == 0x73 then Ecall else if w == 0x100073 then Ebreak else Illegal w)
unfolding decode
decode_system w e = ap (λ rest. if w == 0x73 then Ecall else if w == 0x100073 then Ebreak else rest) (look_up-fields table w ∙ ap (λ x. look table x (field w 12 3) (field w 25 7) w) e)

pub decode_lui : (w : ℕ) → field w 0 7 ≡ 0b0110111 → decode w ≡ look table 0b0110111 (field w 12 3) (field w 25 7) w
decode_lui w e = decode_row w 0b0110111 _ _ e refl refl refl

pub decode_auipc : (w : ℕ) → field w 0 7 ≡ 0b0010111 → decode w ≡ look table 0b0010111 (field w 12 3) (field w 25 7) w
decode_auipc w e = decode_row w 0b0010111 _ _ e refl refl refl

pub decode_jal : (w : ℕ) → field w 0 7 ≡ 0b1101111 → decode w ≡ look table 0b1101111 (field w 12 3) (field w 25 7) w
decode_jal w e = decode_row w 0b1101111 _ _ e refl refl refl

pub decode_op_base : (w : ℕ) → field w 0 7 ≡ 0b0110011 → field w 25 7 ≡ 0 → decode w ≡ look table 0b0110011 (field w 12 3) 0 w
decode_op_base w e e7 = decode_row w 0b0110011 _ 0 e refl e7 refl

pub decode_op_muldiv : (w : ℕ) → field w 0 7 ≡ 0b0110011 → field w 25 7 ≡ 1 → decode w ≡ look table 0b0110011 (field w 12 3) 1 w
decode_op_muldiv w e e7 = decode_row w 0b0110011 _ 1 e refl e7 refl

pub decode_op_other : (w : ℕ) → field w 0 7 ≡ 0b0110011 → field w 25 7 ≡ 32 → decode w ≡ look table 0b0110011 (field w 12 3) 32 w
decode_op_other w e e7 = decode_row w 0b0110011 _ 32 e refl e7 refl

-- an operation on two registers with another funct7
pub decode_op_none : (w f7 : ℕ) → field w 0 7 ≡ 0b0110011 → field w 25 7 ≡ f7 → (f7 == 0) ≡ false → (f7 == 1) ≡ false → (f7 == 32) ≡ false → decode w ≡ Illegal w
decode_op_none w f7 e e7 n0 n1 n32 = decode_row w 0b0110011 _ f7 e refl e7 refl ∙ grind (arith, nat_tests)

-- a word of another opcode
pub decode_none : (w op : ℕ) → field w 0 7 ≡ op → (op == 0b0000011) ≡ false → (op == 0b0001111) ≡ false → (op == 0b0010011) ≡ false → (op == 0b0010111) ≡ false → (op == 0b0100011) ≡ false → (op == 0b0110011) ≡ false → (op == 0b0110111) ≡ false → (op == 0b1100011) ≡ false → (op == 0b1100111) ≡ false → (op == 0b1101111) ≡ false → (op == 0b1110011) ≡ false → decode w ≡ Illegal w
decode_none w op e n1 n2 n3 n4 n5 n6 n7 n8 n9 n10 n11 = decode_row w op _ _ e refl refl n11 ∙ rw (n1, n2, n3, n4, n5, n6, n7, n8, n9, n10)

-- SUB's and SRA's funct7 with another funct3
pub decode_op_other_none : (w f3 : ℕ) → field w 0 7 ≡ 0b0110011 → field w 12 3 ≡ f3 → field w 25 7 ≡ 32 → (f3 == 0) ≡ false → (f3 == 5) ≡ false → decode w ≡ Illegal w
decode_op_other_none w f3 e e3 e7 n0 n5 = decode_row w 0b0110011 f3 32 e e3 e7 refl ∙ simp (and-false, n0, n5)

pub differ : (a b : ℕ) → a ≢ b → (a == b) ≡ false
differ a b ne = grind (arith, nat_tests)
