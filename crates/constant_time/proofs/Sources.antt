-- What is unmarked of registers and memory is equal in two states that are equal but where marks stand.
use Rattle.std.proofs.Common.{◌≡◌, ℕ, zero, suc, ◌+◌, ◌-◌, ◌<◌, ◌≤◌, Bool, true, false, ◌&&◌, ◌||◌, List, [], ◌∷◌, length, map, take, drop, get_or, refl, ap, sym, ◌∙◌, subst, arith}
use Rattle.std.specs.Prelude.{if◌then◌else◌, ◌==◌, slice_index, slice_range}
use Rattle.rv_types.specs.Memory.{Ram, bytes_at, range}
use Rattle.rv_types.specs.Value.{size_of}
use Rattle.rv_types.specs.Isa.{Hart, first_of, reg, second_of}
use Rattle.rv_types.specs.declared.Op.{Op}
use Rattle.rv_types.specs.declared.Op.TheVariants as op
use Rattle.window_model.specs.Shape.{SameShape}
use Rattle.window_model.proofs.Booleans.{neither}
use Rattle.committed_state.proofs.Bytes.{slice_step}
use Rattle.secret_marks.specs.declared.WordMarks.{WordMarks}
use Rattle.secret_marks.specs.Words.{SameWord, any_byte, unmarked}
use Rattle.secret_marks.specs.Alike.{Beside, SameByte, SameRegisters}
use Rattle.secret_marks.proofs.Lists.{beside_at}
use Rattle.secret_marks.proofs.Words.{same_whole}
use Rattle.constant_time.specs.Leaks.{call_arguments}
use Rattle.constant_time.specs.PathMarks.{PathMarks, asks_marked, first_mark, has_mark, second_mark}

-- two states are equal but where marks stand
pub record StatesAlike (m : PathMarks) (s s2 : Hart) : Type 0 where
  pub pc : s.pc ≡ s2.pc
  pub regs : SameRegisters m.regs s.regs s2.regs
  pub place : SameShape s.ram s2.ram
  pub bytes : Beside SameByte m.bytes s.ram.bytes s2.ram.bytes

-- ---- registers

module _ (ms : List WordMarks) (g g2 : List ℕ) (h : Beside SameWord ms g g2) where
  -- registers that are equal but for marks are so one by one
  pub reg_same : (r : ℕ) → SameWord (get_or ms r unmarked) (reg g r) (reg g2 r)
  reg_same r = beside_at SameWord ms g g2 r unmarked 0 0 h refl

  -- the first operands of an instruction are equal but for the marks of its first source
  pub first_same : (rs : List ℕ) → SameWord (first_mark rs ms) (first_of rs g) (first_of rs g2)
  first_same [] = refl
  first_same (r ∷ rs) = reg_same r

  -- the second operands of an instruction are equal but for the marks of its second source
  pub second_same : (rs : List ℕ) → SameWord (second_mark rs ms) (second_of rs g) (second_of rs g2)
  second_same [] = refl
  second_same (r ∷ rs) = first_same rs

  -- the first operands of an instruction are equal, where its first source is unmarked
  pub first_equal : (rs : List ℕ) → any_byte (first_mark rs ms) ≡ false → first_of rs g ≡ first_of rs g2
  first_equal rs n = same_whole (first_mark rs ms) (first_of rs g) (first_of rs g2) n (first_same rs)

  -- the second operands of an instruction are equal, where its second source is unmarked
  pub second_equal : (rs : List ℕ) → any_byte (second_mark rs ms) ≡ false → second_of rs g ≡ second_of rs g2
  second_equal rs n = same_whole (second_mark rs ms) (second_of rs g) (second_of rs g2) n (second_same rs)

  reg_equal : (r : ℕ) → has_mark ms r ≡ false → reg g r ≡ reg g2 r
  reg_equal r n = same_whole (get_or ms r unmarked) (reg g r) (reg g2 r) n (reg_same r)

  -- what a call is asked for is equal where it is unmarked
  pub asked_same : asks_marked g ms ≡ false → call_arguments g ≡ call_arguments g2
  asked_same n =
      let p = neither (has_mark ms 17) _ n in
      let e = reg_equal 17 p.0 in
      ap (λ v. v ∷ by_number v g) e ∙ by_tests (reg g2 17 == 93 || reg g2 17 == 94) (reg g2 17 == 64) (subst (λ v. (if v == 93 || v == 94 then has_mark ms 10 else v == 64 && (has_mark ms 10 || has_mark ms 11 || has_mark ms 12)) ≡ false) e p.1)
    where
      by_number : ℕ → List ℕ → List ℕ
      by_number v g = if v == 93 || v == 94 then reg g 10 ∷ [] else if v == 64 then reg g 10 ∷ reg g 11 ∷ reg g 12 ∷ [] else []

      by_tests : (a b : Bool) → (if a then has_mark ms 10 else b && (has_mark ms 10 || has_mark ms 11 || has_mark ms 12)) ≡ false →
          reg g2 17 ∷ (if a then reg g 10 ∷ [] else if b then reg g 10 ∷ reg g 11 ∷ reg g 12 ∷ [] else []) ≡ reg g2 17 ∷ (if a then reg g2 10 ∷ [] else if b then reg g2 10 ∷ reg g2 11 ∷ reg g2 12 ∷ [] else [])
      by_tests true b n = ap (λ v. reg g2 17 ∷ v ∷ []) (reg_equal 10 n)
      by_tests false true n =
          let p = neither (has_mark ms 10 || has_mark ms 11) (has_mark ms 12) n in
          let q = neither (has_mark ms 10) (has_mark ms 11) p.0 in
          let a = reg_equal 10 q.0 in
          let b = reg_equal 11 q.1 in
          let c = reg_equal 12 p.1 in
          cc
      by_tests false false n = refl

-- ---- memory

-- a range of memory, byte by byte
pub bytes_map : (m : Ram) (a n : ℕ) → m.base ≤ a → a + n ≤ m.base + length m.bytes → bytes_at m a n ≡ map (λ b. slice_index m.bytes (b - m.base)) (range a n)
bytes_map m a zero le fits = let z : a - m.base + 0 - (a - m.base) ≡ 0 = omega arith in ap (λ j. take j (drop (a - m.base) m.bytes)) z
bytes_map m a (suc n) le fits =
    let shift : a + 1 - m.base ≡ a - m.base + 1 = omega arith in
    let lt : a - m.base < length m.bytes = omega arith in
    slice_step m.bytes (a - m.base) n lt
    ∙ ap (λ (xs : List ℕ). slice_index m.bytes (a - m.base) ∷ xs) (ap (λ j. slice_range m.bytes j (j + n)) (sym shift) ∙ bytes_map m (a + 1) n (omega arith) (omega arith))

-- an access has at most four bytes
pub size_le : (o : Op) → size_of o ≤ 4
size_le op.Lb = omega arith
size_le op.Lbu = omega arith
size_le op.Sb = omega arith
size_le op.Lh = omega arith
size_le op.Lhu = omega arith
size_le op.Sh = omega arith
size_le _ = omega arith
