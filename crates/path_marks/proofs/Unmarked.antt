-- An instruction whose sources have no mark makes a value without any.
use Rattle.std.proofs.Common.{◌≡◌, ℕ, Bool, true, false, refl, ap₂, sym, ◌∙◌}
use Rattle.std.specs.Prelude.{◌||◌, ◌==◌, ◌%◌, if◌then◌else◌}
use Rattle.rv_types.specs.Word.{word}
use Rattle.rv_types.specs.declared.Instr.{Instr}
use Rattle.rv_types.specs.declared.Instr.TheVariants.{Branch, OpImm, OpReg}
use Rattle.rv_types.specs.declared.Op.{Op}
use Rattle.rv_types.specs.declared.Op.TheVariants.{Add, Sub, Sll, Slt, Sltu, Xor, Srl, Or, And, Mul}
use Rattle.secret_marks.specs.declared.WordMarks.{WordMarks}
use Rattle.secret_marks.specs.Results.{left_by, of_constant, of_itself, of_operands, of_zero, result_marks, right_by}
use Rattle.secret_marks.specs.Words.{any_byte, unmarked}
use Rattle.window_model.proofs.Booleans.{neither}
use Rattle.secret_marks.proofs.Words.{is_unmarked}

-- a choice between words that are unmarked
choice : (b : Bool) (x y : WordMarks) → x ≡ unmarked → y ≡ unmarked → (if b then x else y) ≡ unmarked
choice true x y h k = h
choice false x y h k = k

-- ---- operations without a marked operand

operands : (op : Op) → of_operands op unmarked unmarked ≡ unmarked
operands And = refl
operands Or = refl
operands Xor = refl
operands Add = refl
operands Mul = refl
operands Sub = refl
operands Sll = refl
operands Srl = refl
operands Slt = refl
operands Sltu = refl
operands op = refl

itself : (op : Op) → of_itself op unmarked ≡ unmarked
itself Xor = refl
itself Sub = refl
itself Slt = refl
itself Sltu = refl
itself op = operands op

zeroed : (op : Op) → of_zero op unmarked unmarked ≡ unmarked
zeroed And = refl
zeroed Mul = refl
zeroed op = operands op

shifted_left : (n : ℕ) → left_by n unmarked ≡ unmarked
shifted_left n = choice (n == 0) _ _ refl (choice (n == 8) _ _ refl (choice (n == 16) _ _ refl (choice (n == 24) _ _ refl refl)))

shifted_right : (n : ℕ) → right_by n unmarked ≡ unmarked
shifted_right n = choice (n == 0) _ _ refl (choice (n == 8) _ _ refl (choice (n == 16) _ _ refl (choice (n == 24) _ _ refl refl)))

constant : (op : Op) (c : ℕ) → of_constant op c unmarked ≡ unmarked
constant Add c = choice (c == 0) _ _ refl refl
constant Mul c = choice (c == 0) _ _ refl refl
constant And c = refl
constant Sll c = shifted_left (c % 32)
constant Srl c = shifted_right (c % 32)
constant op c = operands op

-- ---- the value of an instruction

made : (i : Instr) → result_marks i unmarked unmarked ≡ unmarked
made (OpImm op rd rs1 imm) = constant op (word imm)
made (OpReg op rd rs1 rs2) =
    choice (rs2.number == 0) _ _ (constant op 0)
    (choice (rs1.number == 0) _ _ (zeroed op) (choice (rs1.number == rs2.number) _ _ (itself op) (operands op)))
made (Branch op rs1 rs2 imm) = refl
made i = refl

-- of sources of which neither has a mark
pub unmarked_value : (i : Instr) (a b : WordMarks) → (any_byte a || any_byte b) ≡ false → unmarked ≡ result_marks i a b
unmarked_value i a b h =
    let n = neither (any_byte a) (any_byte b) h in
    sym (ap₂ (result_marks i) (is_unmarked a n.0) (is_unmarked b n.1) ∙ made i)
