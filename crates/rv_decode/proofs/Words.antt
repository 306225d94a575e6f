-- Whatever a word decodes to, the fields of that instruction make the word again.
use Rattle.std.proofs.Common.{◌≡◌, ℕ, ◌<◌, ◌^◌, refl, ap, sym, ◌∙◌, List, [], ◌∷◌, Bool, true, false, arith, Option, Some, None}
use Rattle.std.specs.Prelude.{◌==◌, ◌&&◌, if◌then◌else◌}
use Rattle.std.proofs.lemmas.Bool.Decides.{nat_tests}
use Rattle.rv_types.specs.Word.{field, word}
use Rattle.rv_types.specs.Decode.{decode, table, look_up, matches, Encoding, row, any, is, rd, rs1, imm_i, imm_u, imm_j, branch, load, store, shift_imm, op_reg}
use Rattle.rv_types.specs.declared.Instr.{Instr}
use Rattle.rv_types.specs.declared.Instr.TheVariants.{Lui, Auipc, Jal, Jalr, Fence, Ecall, Ebreak}
use Rattle.rv_types.specs.declared.Op.{Op}
use Rattle.rv_types.specs.declared.Op.TheVariants.{Beq, Bne, Blt, Bge, Bltu, Bgeu, Lb, Lh, Lw, Lbu, Lhu, Sb, Sh, Sw, Add, Sub, Sll, Slt, Sltu, Xor, Srl, Sra, Or, And, Mul, Mulh, Mulhsu, Mulhu, Div, Divu, Rem, Remu}
use Rattle.rv_decode.specs.Forms.{word_of, funct3_of, funct7_of, i_form}
use Rattle.rv_decode.proofs.Reassembled.{r_back, i_back, shift_back, sra_back, s_back, b_back, u_back, j_back}

-- what a word that a row matches has to be
abbrev Meets : Option ℕ → ℕ → Type 0
Meets None n = Unit {0}
Meets (Some m) n = n ≡ m

-- a word that the row matches comes back from its instruction
abbrev ComesBack : Encoding → Type 0
ComesBack r = (w : ℕ) → w < 2 ^ 32 → field w 0 7 ≡ r.opcode → Meets r.funct3 (field w 12 3) → Meets r.funct7 (field w 25 7) → word_of (r.instr w) ≡ w

abbrev AllComeBack : List Encoding → Type 0
AllComeBack [] = Unit {0}
AllComeBack (r ∷ rows) = ComesBack r × AllComeBack rows

equal : (a b : ℕ) → (a == b) ≡ true → a ≡ b
equal a b e = grind (arith, nat_tests)

meets : (o : Option ℕ) (n : ℕ) → matches o n ≡ true → Meets o n
meets None n e = tt
meets (Some m) n e = equal n m e

left : (a b c : Bool) → (a && b && c) ≡ true → a ≡ true
left true b c e = refl
left false b c e = e

middle : (a b c : Bool) → (a && b && c) ≡ true → b ≡ true
middle true true c e = refl
middle true false c e = e
middle false b c e = absurd (cc)

right : (a b c : Bool) → (a && b && c) ≡ true → c ≡ true
right true true c e = e
right true false c e = absurd (cc)
right false b c e = absurd (cc)

by_match : (b : Bool) (r : Encoding) (rest : Instr) (w : ℕ) → (b ≡ true → word_of (r.instr w) ≡ w) → word_of rest ≡ w → word_of (if b then r.instr w else rest) ≡ w
by_match true r rest w here more = here refl
by_match false r rest w here more = more

comes_back : (rows : List Encoding) → AllComeBack rows → (w : ℕ) → w < 2 ^ 32 → word_of (look_up rows w) ≡ w
comes_back [] all w lt = refl
comes_back (r ∷ rows) all w lt =
    let a = field w 0 7 == r.opcode in
    let b = matches r.funct3 (field w 12 3) in
    let c = matches r.funct7 (field w 25 7) in
    by_match (a && b && c) r (look_up rows w) w
    (λ e. all.0 w lt (equal (field w 0 7) r.opcode (left a b c e)) (meets r.funct3 (field w 12 3) (middle a b c e)) (meets r.funct7 (field w 25 7) (right a b c e)))
    (comes_back rows all.1 w lt)

-- the rows, by their forms
lui : ComesBack (row 0b0110111 any any (λ w. Lui (rd w) (imm_u w)))
lui w lt e e3 e7 = u_back w _ lt e

auipc : ComesBack (row 0b0010111 any any (λ w. Auipc (rd w) (imm_u w)))
auipc w lt e e3 e7 = u_back w _ lt e

jal : ComesBack (row 0b1101111 any any (λ w. Jal (rd w) (imm_j w)))
jal w lt e e3 e7 = j_back w _ lt e

jalr : ComesBack (row 0b1100111 (is 0) any (λ w. Jalr (rd w) (rs1 w) (imm_i w)))
jalr w lt e e3 e7 = i_back w _ _ lt e e3

branches : (op : Op) → ComesBack (row 0b1100011 (is (funct3_of op)) any (branch op))
branches op w lt e e3 e7 = b_back w _ _ lt e e3

loads : (op : Op) → ComesBack (row 0b0000011 (is (funct3_of op)) any (load op))
loads op w lt e e3 e7 = i_back w _ _ lt e e3

stores : (op : Op) → ComesBack (row 0b0100011 (is (funct3_of op)) any (store op))
stores op w lt e e3 e7 = s_back w _ _ lt e e3

registers : (op : Op) → ComesBack (row 0b0110011 (is (funct3_of op)) (is (funct7_of op)) (op_reg op))
registers op w lt e e3 e7 = r_back w _ _ _ lt e e3 e7

immediates : (f3 w : ℕ) → w < 2 ^ 32 → field w 0 7 ≡ 0b0010011 → field w 12 3 ≡ f3 → Unit {0} → i_form 0b0010011 (field w 7 5) f3 (field w 15 5) (word (imm_i w)) ≡ w
immediates f3 w lt e e3 e7 = i_back w _ _ lt e e3

shifts : (f3 w : ℕ) → w < 2 ^ 32 → field w 0 7 ≡ 0b0010011 → field w 12 3 ≡ f3 → field w 25 7 ≡ 0 → i_form 0b0010011 (field w 7 5) f3 (field w 15 5) (field w 20 5) ≡ w
shifts f3 w lt e e3 e7 = shift_back w _ _ lt e e3 e7

srai : ComesBack (row 0b0010011 (is 5) (is 32) (shift_imm Sra))
srai w lt e e3 e7 = sra_back w _ _ lt e e3 e7

fence : ComesBack (row 0b0001111 (is 0) any Fence)
fence w lt e e3 e7 = refl

all_come_back : AllComeBack table
all_come_back = (
  lui,
  (
    auipc,
    (
      jal,
      (
        jalr,
        (
          branches Beq,
          (
            branches Bne,
            (
              branches Blt,
              (
                branches Bge,
                (
                  branches Bltu,
                  (
                    branches Bgeu,
                    (
                      loads Lb,
                      (
                        loads Lh,
                        (
                          loads Lw,
                          (
                            loads Lbu,
                            (
                              loads Lhu,
                              (
                                stores Sb,
                                (
                                  stores Sh,
                                  (
                                    stores Sw,
                                    (
                                      immediates 0,
                                      (
                                        immediates 2,
                                        (
                                          immediates 3,
                                          (
                                            immediates 4,
                                            (
                                              immediates 6,
                                              (
                                                immediates 7,
                                                (
                                                  shifts 1,
                                                  (
                                                    shifts 5,
                                                    (
                                                      srai,
                                                      (
                                                        registers Add,
                                                        (
                                                          registers Sll,
                                                          (
                                                            registers Slt,
                                                            (
                                                              registers Sltu,
                                                              (
                                                                registers Xor,
                                                                (
                                                                  registers Srl,
                                                                  (
                                                                    registers Or,
                                                                    (
                                                                      registers And,
                                                                      (
                                                                        registers Sub,
                                                                        (
                                                                          registers Sra,
                                                                          (
                                                                            registers Mul,
                                                                            (
                                                                              registers Mulh,
                                                                              (
                                                                                registers Mulhsu,
                                                                                (
                                                                                  registers Mulhu,
                                                                                  (
                                                                                    registers Div,
                                                                                    (
                                                                                      registers Divu,
                                                                                      (
                                                                                        registers Rem,
                                                                                        (
                                                                                          registers Remu,
                                                                                          (fence, tt),
                                                                                        ),
                                                                                      ),
                                                                                    ),
                                                                                  ),
                                                                                ),
                                                                              ),
                                                                            ),
                                                                          ),
                                                                        ),
                                                                      ),
                                                                    ),
                                                                  ),
                                                                ),
                                                              ),
                                                            ),
                                                          ),
                                                        ),
                                                      ),
                                                    ),
                                                  ),
                                                ),
                                              ),
                                            ),
                                          ),
                                        ),
                                      ),
                                    ),
                                  ),
                                ),
                              ),
                            ),
                          ),
                        ),
                      ),
                    ),
                  ),
                ),
              ),
            ),
          ),
        ),
      ),
    ),
  ),
)

by_system : (a b : Bool) (w : ℕ) → (w == 0x73) ≡ a → (w == 0x100073) ≡ b → w < 2 ^ 32 → word_of (if a then Ecall else if b then Ebreak else look_up table w) ≡ w
by_system true b w ea eb lt = sym (equal _ _ ea)
by_system false true w ea eb lt = sym (equal _ _ eb)
by_system false false w ea eb lt = comes_back table all_come_back w lt

pub word_of-decode : (w : ℕ) → w < 2 ^ 32 → word_of (decode w) ≡ w
unfolding decode
word_of-decode w lt = by_system (w == 0x73) (w == 0x100073) w refl refl lt

pub comes_back_as : (w : ℕ) (instr : Instr) → w < 2 ^ 32 → decode w ≡ instr → word_of instr ≡ w
comes_back_as w instr lt e = ap word_of (sym e) ∙ word_of-decode w lt
