-- Rows and traces of equal parts.
use Rattle.std.proofs.Common.{◌≡◌, ℕ, ◌+◌, List, ◌++◌, ap₂, ◌∙◌}
use Rattle.window_model.specs.declared.Event.{Event}
use Rattle.window_model.specs.State.{Machine}
use Rattle.window_model.specs.Row.{Row}
use Rattle.window_model.specs.Cycle.{Trace}

-- the row of a cycle: what happened before Retire, in it and after it
abbrev pub row_with : ℕ → List Event → List Event → List Event → Row
row_with n a b c = record { cycle = n + 1; events = a ++ b ++ c }

-- two cycles have one row, where the same happened in all three parts of it
pub same_row : (n n2 : ℕ) (a a2 b b2 c c2 : List Event) → n ≡ n2 → a ≡ a2 → b ≡ b2 → c ≡ c2 → row_with n a b c ≡ row_with n2 a2 b2 c2
same_row n n2 a a2 b b2 c c2 p q r t = ap₂ (λ n a. row_with n a b c) p q ∙ ap₂ (row_with n2 a2) r t

-- the trace of these rows that ends with a machine
abbrev pub with_end : List Row → Machine → Trace
with_end rs x = record { rows = rs; end = x.end; retired = x.retired; cycles = x.cycle }
