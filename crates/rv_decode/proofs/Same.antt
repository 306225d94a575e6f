-- Instructions that the derived comparison answers to be equal are equal.
use Rattle.std.proofs.Common.{◌≡◌, refl, ap, sym, ◌∙◌, Bool, true, false, ℤ, rules, int_eq, ◌<◌}
use Rattle.std.specs.Coded.{le_prop}
use mathlib.Core.Bool.{true≢false}
use mathlib.Core.HLevel.{is_prop→PathP}
use Rattle.rv_types.specs.contracts.InstrEq.TheImpl.Laws.{laws-law}
use Rattle.std.specs.Prelude.{◌&&◌}
use Rattle.std.specs.Cmp.{signed_Decides, unsigned_Decides}
use Rattle.rv_types.specs.declared.Reg.{Reg}
use Rattle.rv_types.specs.declared.Op.{Op}
use Rattle.rv_types.specs.declared.Instr.{Instr}
use Rattle.rv_types.specs.declared.Instr.TheVariants.{Lui, Auipc, Jal, Jalr, Branch, Load, Store, OpImm, OpReg, Fence, Ecall, Ebreak, Illegal}
use Rattle.rv_types.specs.contracts.InstrPartialEq.TheImpl.{ghosts}
use Rattle.rv_types.specs.contracts.RegPartialEq.TheImpl as reg
use Rattle.rv_types.specs.contracts.OpPartialEq.TheImpl as op
use Rattle.rv_types.specs.contracts.Op.{the_type}
use denote.Enum.Bare.{same_true}

abbrev pub same : Instr → Instr → Bool
same a b = ghosts.eq a b

same_reg : (r s : Reg) → reg.ghosts.eq r s ≡ true → r ≡ s
same_reg r s e = let n : r.number ≡ s.number = (unsigned_Decides r.number s.number).0 e in
    λ i. record { number = n i; in_range = is_prop→PathP (λ j. n j < 32) (λ j. le_prop) r.in_range s.in_range i }

same_op : (o p : Op) → op.ghosts.eq o p ≡ true → o ≡ p
same_op o p e = same_true the_type (search rules) o p e

both : (a b : Bool) → (a && b) ≡ true → (a ≡ true) × (b ≡ true)
both true true e = (refl, refl)
both true false e = absurd (cc)
both false b e = absurd (cc)

-- the fields of two instructions of one form
reg_imm : (r s : Reg) (i j : ℤ) → (reg.ghosts.eq r s && int_eq i j) ≡ true → (r ≡ s) × (i ≡ j)
reg_imm r s i j e = let x = both (reg.ghosts.eq r s) (int_eq i j) e in (same_reg r s x.0, (signed_Decides i j).0 x.1)

regs_imm : (r s t u : Reg) (i j : ℤ) → (reg.ghosts.eq r s && (reg.ghosts.eq t u && int_eq i j)) ≡ true → (r ≡ s) × (t ≡ u) × (i ≡ j)
regs_imm r s t u i j e =
    let x = both (reg.ghosts.eq r s) (reg.ghosts.eq t u && int_eq i j) e in
    let y = reg_imm t u i j x.1 in
    (same_reg r s x.0, y.0, y.1)

three_regs : (r s t u v w : Reg) → (reg.ghosts.eq r s && (reg.ghosts.eq t u && reg.ghosts.eq v w)) ≡ true → (r ≡ s) × (t ≡ u) × (v ≡ w)
three_regs r s t u v w e =
    let x = both (reg.ghosts.eq r s) (reg.ghosts.eq t u && reg.ghosts.eq v w) e in
    let y = both (reg.ghosts.eq t u) (reg.ghosts.eq v w) x.1 in
    (same_reg r s x.0, same_reg t u y.0, same_reg v w y.1)

op_regs_imm : (o p : Op) (r s t u : Reg) (i j : ℤ) → (op.ghosts.eq o p && (reg.ghosts.eq r s && (reg.ghosts.eq t u && int_eq i j))) ≡ true → (o ≡ p) × (r ≡ s) × (t ≡ u) × (i ≡ j)
op_regs_imm o p r s t u i j e =
    let x = both (op.ghosts.eq o p) (reg.ghosts.eq r s && (reg.ghosts.eq t u && int_eq i j)) e in
    let y = regs_imm r s t u i j x.1 in
    (same_op o p x.0, y.0, y.1, y.2)

pub same_is : (a b : Instr) → same a b ≡ true → a ≡ b
same_is (Lui r i) (Lui s j) e = let x = reg_imm r s i j e in cc
same_is (Auipc r i) (Auipc s j) e = let x = reg_imm r s i j e in cc
same_is (Jal r i) (Jal s j) e = let x = reg_imm r s i j e in cc
same_is (Jalr r t i) (Jalr s u j) e = let x = regs_imm r s t u i j e in cc
same_is (Branch o r t i) (Branch p s u j) e = let x = op_regs_imm o p r s t u i j e in cc
same_is (Load o r t i) (Load p s u j) e = let x = op_regs_imm o p r s t u i j e in cc
same_is (Store o r t i) (Store p s u j) e = let x = op_regs_imm o p r s t u i j e in cc
same_is (OpImm o r t i) (OpImm p s u j) e = let x = op_regs_imm o p r s t u i j e in cc
same_is (OpReg o r t v) (OpReg p s u w) e =
    let x = both (op.ghosts.eq o p) (reg.ghosts.eq r s && (reg.ghosts.eq t u && reg.ghosts.eq v w)) e in
    let y = same_op o p x.0 in
    let z = three_regs r s t u v w x.1 in
    cc
same_is (Fence v) (Fence w) e = ap Fence ((unsigned_Decides v w).0 e)
same_is Ecall Ecall e = refl
same_is Ebreak Ebreak e = refl
same_is (Illegal v) (Illegal w) e = ap Illegal ((unsigned_Decides v w).0 e)
same_is _ _ e = absurd (true≢false (sym e))

pub is_same : (a b : Instr) → a ≡ b → same a b ≡ true
is_same a b e = ap (same a) (sym e) ∙ laws-law.refl a
