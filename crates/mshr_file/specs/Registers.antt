-- The miss registers as contracts see them (docs/machine.md, "Fill" and "Loads").
use Rattle.std.specs.Prelude.{ℕ, Bool, if◌then◌else◌, List, [], ◌∷◌}
use Rattle.window_model.specs.declared.Miss.{Miss}

-- the registers that are taken, in the order of taking, and how many there are in all
pub record Registers : Type 0 where
  pub misses : List Miss
  pub room : ℕ

-- the registers without the first that passes the test
abbrev pub without_first : (Miss → Bool) → List Miss → List Miss
without_first p [] = []
without_first p (m ∷ ms) = if p m then ms else m ∷ without_first p ms
