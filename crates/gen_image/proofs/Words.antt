-- The generated instructions have words.
use Rattle.std.proofs.Common.{◌≡◌, ◌<◌, ◌≤◌, ◌^◌, ◌*◌, ◌+◌, ◌/◌, ◌%◌, ℕ, zero, suc, refl, ap, ◌∙◌, sym, arith, false, true, List, [], ◌∷◌, length, get_or, subst, All}
use Rattle.std.specs.Prelude.{pos, negsuc, ◌-◌, nat_lt, slice_index_or}
use Rattle.std.specs.List.{AllByRecursion as Each}
use Rattle.std.specs.Coded.{le_prop}
use Rattle.std.proofs.lemmas.Bool.Decides.{nat_tests}
use mathlib.Core.HLevel.{is_prop→PathP}
use Rattle.rv_types.specs.Word.{field}
use Rattle.rv_types.specs.Decode.{decode, rd, rs1, rs2, imm_i, imm_s, imm_b, imm_j, sign_extend}
use Rattle.rv_types.specs.declared.Reg.{Reg}
use Rattle.rv_types.specs.declared.Op.{Op}
use Rattle.rv_types.specs.declared.Op.TheVariants.{Beq, Blt, Lw, Sw, Add, Xor, Mul, Div}
use Rattle.rv_types.specs.declared.Instr.{Instr}
use Rattle.rv_types.specs.declared.Instr.TheVariants.{Jal, Branch, Load, Store, OpImm, OpReg, Ecall}
use Rattle.rv_decode.specs.Forms.{word_of}
use Rattle.rv_decode.proofs.Rows.{decode_row}
use Rattle.gen_image.specs.Encoded.{HasWord}
use Rattle.gen_image.specs.Generated.{register, forms, block_of, beginning, ending}

-- a fact of each element, at a place
pub each_at : {X : Type 0} (P : X → Type 0) (xs : List X) (i : ℕ) (d : X) → i < length xs → Each P xs → P (get_or xs i d)
each_at P [] i d lt h = absurd (omega (arith, lt))
each_at P (x ∷ xs) zero d lt h = h.0
each_at P (x ∷ xs) (suc i) d lt h = each_at P xs i d (omega (arith, lt)) h.1

-- registers of one number are one
pub same_reg : (r s : Reg) → r.number ≡ s.number → r ≡ s
same_reg r s n = λ i. record { number = n i; in_range = is_prop→PathP (λ j. n j < 32) (λ j. le_prop) r.in_range s.in_range i }

-- a number of 12 bits as an immediate: below half it is itself, else what is missing to 2 ^ 12, negated
not_negative : (n : ℕ) → n < 2048 → sign_extend 12 n ≡ pos n
not_negative n lt = let t : nat_lt n 2048 ≡ true = grind (arith, nat_tests) in rw t refl

negative : (n : ℕ) → n < 2048 → sign_extend 12 (4095 - n) ≡ negsuc n
negative n lt =
    let t : nat_lt (4095 - n) 2048 ≡ false = grind (arith, nat_tests) in
    let e : 4095 - (4095 - n) ≡ n = omega arith in
    rw t (ap negsuc e)

-- ADDI with an immediate that is not negative
pub add_immediate : (d e : Reg) (o : ℕ) → o < 2048 → HasWord (OpImm Add d e (pos o))
add_immediate d e o lt =
    let w = word_of (OpImm Add d e (pos o)) in
    let dl = d.in_range in
    let el = e.in_range in
    let form : w ≡ 0b0010011 + d.number * 2 ^ 7 + e.number * 2 ^ 15 + o * 2 ^ 20 = omega arith in
    let opcode : field w 0 7 ≡ 0b0010011 = omega arith in
    let funct3 : field w 12 3 ≡ 0 = omega arith in
    let r = same_reg (rd w) d (omega arith) in
    let s = same_reg (rs1 w) e (omega arith) in
    let n : field w 20 12 ≡ o = omega arith in
    record {
      decodes =
          decode_row w 0b0010011 0 _ opcode funct3 refl refl
          ∙ ap (λ r. OpImm Add r (rs1 w) (imm_i w)) r
          ∙ ap (λ s. OpImm Add d s (imm_i w)) s
          ∙ ap (OpImm Add d e) (ap (sign_extend 12) n ∙ not_negative o lt);
      small = omega arith;
    }

-- ADDI with a negative immediate
pub subtract_immediate : (d e : Reg) (n : ℕ) → n < 2048 → HasWord (OpImm Add d e (negsuc n))
subtract_immediate d e n lt =
    let w = word_of (OpImm Add d e (negsuc n)) in
    let dl = d.in_range in
    let el = e.in_range in
    let form : w ≡ 0b0010011 + d.number * 2 ^ 7 + e.number * 2 ^ 15 + (4095 - n) * 2 ^ 20 = omega arith in
    let opcode : field w 0 7 ≡ 0b0010011 = omega arith in
    let funct3 : field w 12 3 ≡ 0 = omega arith in
    let r = same_reg (rd w) d (omega arith) in
    let s = same_reg (rs1 w) e (omega arith) in
    let m : field w 20 12 ≡ 4095 - n = omega arith in
    record {
      decodes =
          decode_row w 0b0010011 0 _ opcode funct3 refl refl
          ∙ ap (λ r. OpImm Add r (rs1 w) (imm_i w)) r
          ∙ ap (λ s. OpImm Add d s (imm_i w)) s
          ∙ ap (OpImm Add d e) (ap (sign_extend 12) m ∙ negative n lt);
      small = omega arith;
    }

-- LW with an offset that is not negative
pub load : (d e : Reg) (o : ℕ) → o < 2048 → HasWord (Load Lw d e (pos o))
load d e o lt =
    let w = word_of (Load Lw d e (pos o)) in
    let dl = d.in_range in
    let el = e.in_range in
    let form : w ≡ 0b0000011 + d.number * 2 ^ 7 + 2 * 2 ^ 12 + e.number * 2 ^ 15 + o * 2 ^ 20 = omega arith in
    let opcode : field w 0 7 ≡ 0b0000011 = omega arith in
    let funct3 : field w 12 3 ≡ 2 = omega arith in
    let r = same_reg (rd w) d (omega arith) in
    let s = same_reg (rs1 w) e (omega arith) in
    let n : field w 20 12 ≡ o = omega arith in
    record {
      decodes =
          decode_row w 0b0000011 2 _ opcode funct3 refl refl
          ∙ ap (λ r. Load Lw r (rs1 w) (imm_i w)) r
          ∙ ap (λ s. Load Lw d s (imm_i w)) s
          ∙ ap (Load Lw d e) (ap (sign_extend 12) n ∙ not_negative o lt);
      small = omega arith;
    }

-- SW with an offset that is not negative
pub store : (s t : Reg) (o : ℕ) → o < 2048 → HasWord (Store Sw s t (pos o))
store s t o lt =
    let w = word_of (Store Sw s t (pos o)) in
    let sl = s.in_range in
    let tl = t.in_range in
    let form : w ≡ 0b0100011 + o % 32 * 2 ^ 7 + 2 * 2 ^ 12 + s.number * 2 ^ 15 + t.number * 2 ^ 20 + o / 32 * 2 ^ 25 = omega arith in
    let opcode : field w 0 7 ≡ 0b0100011 = omega arith in
    let funct3 : field w 12 3 ≡ 2 = omega arith in
    let r = same_reg (rs1 w) s (omega arith) in
    let q = same_reg (rs2 w) t (omega arith) in
    let n : field w 25 7 * 2 ^ 5 + field w 7 5 ≡ o = omega arith in
    record {
      decodes =
          decode_row w 0b0100011 2 _ opcode funct3 refl refl
          ∙ ap (λ r. Store Sw r (rs2 w) (imm_s w)) r
          ∙ ap (λ q. Store Sw s q (imm_s w)) q
          ∙ ap (Store Sw s t) (ap (sign_extend 12) n ∙ not_negative o lt);
      small = omega arith;
    }

-- an operation on two registers, by its fields
module _ (op : Op) (f3 f7 : ℕ) (small3 : f3 < 8) (small7 : f7 < 128)
    (form : (d s t : Reg) → word_of (OpReg op d s t) ≡ 0b0110011 + d.number * 2 ^ 7 + f3 * 2 ^ 12 + s.number * 2 ^ 15 + t.number * 2 ^ 20 + f7 * 2 ^ 25)
    (row : (w : ℕ) → field w 0 7 ≡ 0b0110011 → field w 12 3 ≡ f3 → field w 25 7 ≡ f7 → decode w ≡ OpReg op (rd w) (rs1 w) (rs2 w)) where
  pub operation : (d s t : Reg) → HasWord (OpReg op d s t)
  operation d s t =
      let w = word_of (OpReg op d s t) in
      let dl = d.in_range in
      let sl = s.in_range in
      let tl = t.in_range in
      let is = form d s t in
      let opcode : field w 0 7 ≡ 0b0110011 = omega arith in
      let funct3 : field w 12 3 ≡ f3 = omega arith in
      let funct7 : field w 25 7 ≡ f7 = omega arith in
      let a = same_reg (rd w) d (omega arith) in
      let b = same_reg (rs1 w) s (omega arith) in
      let c = same_reg (rs2 w) t (omega arith) in
      record {
        decodes =
            row w opcode funct3 funct7
            ∙ ap (λ a. OpReg op a (rs1 w) (rs2 w)) a
            ∙ ap (λ b. OpReg op d b (rs2 w)) b
            ∙ ap (OpReg op d s) c;
        small = omega arith;
      }

-- the four that blocks have
pub add : (d s t : Reg) → HasWord (OpReg Add d s t)
add = operation Add 0 0 (omega arith) (omega arith) (λ d s t. omega arith) (λ w a b c. decode_row w 0b0110011 0 0 a b c refl)

pub exclusive_or : (d s t : Reg) → HasWord (OpReg Xor d s t)
exclusive_or = operation Xor 4 0 (omega arith) (omega arith) (λ d s t. omega arith) (λ w a b c. decode_row w 0b0110011 4 0 a b c refl)

pub multiply : (d s t : Reg) → HasWord (OpReg Mul d s t)
multiply = operation Mul 0 1 (omega arith) (omega arith) (λ d s t. omega arith) (λ w a b c. decode_row w 0b0110011 0 1 a b c refl)

pub divide : (d s t : Reg) → HasWord (OpReg Div d s t)
divide = operation Div 4 1 (omega arith) (omega arith) (λ d s t. omega arith) (λ w a b c. decode_row w 0b0110011 4 1 a b c refl)

-- a branch over one instruction: BLT and BEQ
eight : (w : ℕ) → field w 31 1 * 2 ^ 12 + field w 7 1 * 2 ^ 11 + field w 25 6 * 2 ^ 5 + field w 8 4 * 2 ≡ 8 → imm_b w ≡ pos 8
eight w e = ap (sign_extend 13) e

module _ (op : Op) (f3 : ℕ) (small3 : f3 < 8)
    (form : (s t : Reg) → word_of (Branch op s t (pos 8)) ≡ 0b1100011 + 8 * 2 ^ 7 + f3 * 2 ^ 12 + s.number * 2 ^ 15 + t.number * 2 ^ 20)
    (row : (w : ℕ) → field w 0 7 ≡ 0b1100011 → field w 12 3 ≡ f3 → decode w ≡ Branch op (rs1 w) (rs2 w) (imm_b w)) where
  pub skip : (s t : Reg) → HasWord (Branch op s t (pos 8))
  skip s t =
      let w = word_of (Branch op s t (pos 8)) in
      let sl = s.in_range in
      let tl = t.in_range in
      let is = form s t in
      let opcode : field w 0 7 ≡ 0b1100011 = omega arith in
      let funct3 : field w 12 3 ≡ f3 = omega arith in
      let b = same_reg (rs1 w) s (omega arith) in
      let c = same_reg (rs2 w) t (omega arith) in
      let n : field w 31 1 * 2 ^ 12 + field w 7 1 * 2 ^ 11 + field w 25 6 * 2 ^ 5 + field w 8 4 * 2 ≡ 8 = omega arith in
      record {
        decodes =
            row w opcode funct3
            ∙ ap (λ b. Branch op b (rs2 w) (imm_b w)) b
            ∙ ap (λ c. Branch op s c (imm_b w)) c
            ∙ ap (Branch op s t) (eight w n);
        small = omega arith;
      }

pub skip_if_less : (s t : Reg) → HasWord (Branch Blt s t (pos 8))
skip_if_less = skip Blt 4 (omega arith) (λ s t. omega arith) (λ w a b. decode_row w 0b1100011 4 _ a b refl refl)

pub skip_if_equal : (s t : Reg) → HasWord (Branch Beq s t (pos 8))
skip_if_equal = skip Beq 0 (omega arith) (λ s t. omega arith) (λ w a b. decode_row w 0b1100011 0 _ a b refl refl)

-- a jump back by 8 * n + 8 bytes
back_by : (w m : ℕ) → m < 2 ^ 20 → field w 31 1 * 2 ^ 20 + field w 12 8 * 2 ^ 12 + field w 20 1 * 2 ^ 11 + field w 21 10 * 2 ≡ 2 ^ 21 - 1 - m → imm_j w ≡ negsuc m
back_by w m lt e =
    let t : nat_lt (2 ^ 21 - 1 - m) (2 ^ 20) ≡ false = grind (arith, nat_tests) in
    let back : 2 ^ 21 - 1 - (2 ^ 21 - 1 - m) ≡ m = omega arith in
    ap (sign_extend 21) e ∙ rw t (ap negsuc back)

pub jump_back : (d : Reg) (n : ℕ) → n ≤ 4096 → HasWord (Jal d (negsuc (8 * n + 7)))
jump_back d n le =
    let w = word_of (Jal d (negsuc (8 * n + 7))) in
    let x : ℕ = 2 ^ 21 - 8 - 8 * n in
    let dl = d.in_range in
    let form : w ≡ 0b1101111 + d.number * 2 ^ 7 + x / 2 ^ 12 % 2 ^ 8 * 2 ^ 12 + x / 2 ^ 11 % 2 * 2 ^ 20 + x / 2 % 2 ^ 10 * 2 ^ 21 + x / 2 ^ 20 * 2 ^ 31 = omega arith in
    let opcode : field w 0 7 ≡ 0b1101111 = omega arith in
    let r = same_reg (rd w) d (omega arith) in
    let m : field w 31 1 * 2 ^ 20 + field w 12 8 * 2 ^ 12 + field w 20 1 * 2 ^ 11 + field w 21 10 * 2 ≡ 2 ^ 21 - 1 - (8 * n + 7) = omega arith in
    record {
      decodes =
          decode_row w 0b1101111 _ _ opcode refl refl refl
          ∙ ap (λ r. Jal r (imm_j w)) r
          ∙ ap (Jal d) (back_by w (8 * n + 7) (omega arith) m);
      small = omega arith;
    }

-- the instruction ECALL has a word
pub ecall : HasWord Ecall
unfolding decode
ecall = record { decodes = refl; small = omega arith }

-- the two instructions of each form
forms_have_words : (d e : Reg) (o : ℕ) → o < 2048 → (k : ℕ) → Each HasWord (slice_index_or (forms d e o) k [])
forms_have_words d e o lt zero = (add_immediate d e o lt, (exclusive_or e e d, tt))
forms_have_words d e o lt (suc zero) = (store (register 8) d o lt, (load e (register 8) o lt, tt))
forms_have_words d e o lt (suc (suc zero)) = (load d (register 8) o lt, (add e e d, tt))
forms_have_words d e o lt (suc (suc (suc zero))) = (multiply d d e, (add_immediate e e 1 (omega arith), tt))
forms_have_words d e o lt (suc (suc (suc (suc zero)))) = (divide d d e, (add_immediate d d o lt, tt))
forms_have_words d e o lt (suc (suc (suc (suc (suc zero))))) = (skip_if_less d e, (add_immediate d d 1 (omega arith), tt))
forms_have_words d e o lt (suc (suc (suc (suc (suc (suc k)))))) = tt

-- a fact of each element, by index
all_of : {X : Type 0} (P : X → Type 0) (xs : List X) → Each P xs → All P xs
all_of P xs h = λ k d lt. each_at P xs k d lt h

-- the instructions that are given for a block, or before or after them, all have words
abbrev pub AllHaveWords : List Instr → Type 0
AllHaveWords is = All HasWord is

pub block_has_words : (s : ℕ) (is : List Instr) → is ≡ block_of s → AllHaveWords is
block_has_words s is e = subst AllHaveWords (sym e) (all_of HasWord (block_of s) (forms_have_words _ _ _ (omega arith) _))

pub beginning_has_words : (is : List Instr) → is ≡ beginning → AllHaveWords is
beginning_has_words is e =
    subst AllHaveWords (sym e) (all_of HasWord beginning (subtract_immediate (register 8) (register 2) 1023 (omega arith), (add_immediate (register 9) (register 0) 4 (omega arith), tt)))

pub ending_has_words : (n : ℕ) (is : List Instr) → n ≤ 4096 → is ≡ ending n → AllHaveWords is
ending_has_words n is le e =
    subst AllHaveWords (sym e) (all_of HasWord (ending n)
    (subtract_immediate (register 9) (register 9) 0 (omega arith), (skip_if_equal (register 9) (register 0), (jump_back (register 0) n le, (add_immediate (register 17) (register 0) 93 (omega arith), (ecall, tt))))))
