-- The values of an entry's sources, by the serials of the writers that stand at its position.
use Rattle.std.proofs.Common.{◌≡◌, ℕ, List, [], ◌∷◌, Option, Some, None, ap, ◌∙◌, get_or}
use Rattle.std.specs.Prelude.{map}
use Rattle.std.specs.Option.{option_map}
use Rattle.rv_types.specs.Isa.{reg}
use Rattle.rv_types.specs.declared.Reg.{Reg}
use Rattle.rv_types.specs.Regs.{two}
use Rattle.window_model.specs.declared.Entry.{Entry}
use Rattle.window_model.specs.Order.{from_writer, operand}
use Rattle.window_model.specs.MayIssue.{first_operand, second_operand}
use Rattle.refinement.specs.Writers.{in_flight, writer_of}
use Rattle.issue.specs.Operands.{value_by}

-- two are made of two
of_two : {X Y : Type 0} (f : X → Y) (xs : List X) (a b : Y) (d : X) → map f xs ≡ a ∷ b ∷ [] → (f (get_or xs 0 d) ≡ a) × (f (get_or xs 1 d) ≡ b)
of_two f (x ∷ y ∷ []) a b d h = (cc, cc)
of_two f _ a b d h = absurd (cc)

-- the value of a source, 0 where there is none
abbrev value_of : List ℕ → List Entry → Option ℕ → ℕ
value_of regs before None = 0
value_of regs before (Some r) = operand regs before r

module _ (regs : List ℕ) (es before : List Entry) where
  -- a source's, where its writer is the one that is found
  value_is : (o r w : Option ℕ) → r ≡ o → in_flight es w ≡ writer_of before o → value_by regs es r w ≡ value_of regs before o
  value_is None r w n h = ap (λ r. value_by regs es r w) n
  value_is (Some o) r w n h = ap (λ r. value_by regs es r w) n ∙ ap (λ f. from_writer f (reg regs o)) h

  -- what a program reads and finds there, as arrays of two
  module _ (reads : List (Option Reg)) (ws : List (Option ℕ)) (d : Option Reg) (u : Option ℕ) where
    abbrev value : ℕ → ℕ
    value i = value_by regs es (option_map (λ r. r.number) (get_or reads i d)) (get_or ws i u)

    values : (a b : Option ℕ) → map (option_map (λ r. r.number)) reads ≡ a ∷ b ∷ [] → map (in_flight es) ws ≡ map (writer_of before) (a ∷ b ∷ []) →
        (value 0 ≡ value_of regs before a) × (value 1 ≡ value_of regs before b)
    values a b r w =
        let read = of_two (option_map (λ (r : Reg). r.number)) reads a b d r in
        let found = of_two (in_flight es) ws (writer_of before a) (writer_of before b) u w in
        (value_is a _ _ read.0 found.0, value_is b _ _ read.1 found.1)

    pub operands_are : (rs : List ℕ) → map (option_map (λ r. r.number)) reads ≡ two rs → map (in_flight es) ws ≡ map (writer_of before) (two rs) →
        (value 0 ≡ first_operand regs before rs) × (value 1 ≡ second_operand regs before rs)
    operands_are [] r w = values None None r w
    operands_are (a ∷ []) r w = values (Some a) None r w
    operands_are (a ∷ b ∷ rs) r w = values (Some a) (Some b) r w
