-- The marks of an entry are made one by one.
use Rattle.std.proofs.Common.{◌≡◌, Bool, true, false, ◌||◌, ap, sym, ◌∙◌}
use Rattle.secret_marks.specs.declared.EntryMarks.{EntryMarks}
use Rattle.secret_marks.specs.declared.WordMarks.{WordMarks}

pub same_marks : (r r2 s s2 : WordMarks) (g g2 : Bool) → r ≡ r2 → g ≡ g2 → s ≡ s2 → ◌≡◌ {A = EntryMarks} record { result = r; goes = g; stored = s } record { result = r2; goes = g2; stored = s2 }
same_marks r r2 s s2 g g2 p q t = cc

-- the answer of two tests that are asked one after the other is that of both together
pub first_of : (a b g : Bool) → a ≡ true → g ≡ true → g ≡ (a || b)
first_of a b g p q = q ∙ ap (λ a. a || b) (sym p)

pub second_of : (a b g h : Bool) → a ≡ false → g ≡ h → h ≡ b → g ≡ (a || b)
second_of a b g h p q t = q ∙ t ∙ ap (λ a. a || b) (sym p)
