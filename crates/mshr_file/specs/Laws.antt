-- Freeing the registers that are due, one after the other, is phase Fill (docs/machine.md, "Fill").
use Rattle.std.specs.Prelude.{◌≡◌, ℕ, List, [], ◌∷◌, Some, None}
use Rattle.std.specs.List.{find}
use Rattle.window_model.specs.declared.Miss.{Miss}
use Rattle.window_model.specs.Fill.{arriving, is_due, staying}
use Rattle.mshr_file.specs.Registers.{without_first}

-- the register that is freed is the first whose line arrives, and the others then arrive as before
abbrev pub ArrivesFirst : Type 0
ArrivesFirst = (cycle : ℕ) (misses : List Miss) (m : Miss) → find (is_due cycle) misses ≡ Some m →
    arriving cycle misses ≡ m ∷ arriving cycle (without_first (is_due cycle) misses)

-- the registers that stay are the same whether the first that is due is freed or not
abbrev pub LeavesTheRest : Type 0
LeavesTheRest = (cycle : ℕ) (misses : List Miss) → staying cycle (without_first (is_due cycle) misses) ≡ staying cycle misses

-- where no register is due no line arrives, and all stay
abbrev pub ArrivesNone : Type 0
ArrivesNone = (cycle : ℕ) (misses : List Miss) → find (is_due cycle) misses ≡ None →
    (arriving cycle misses ≡ []) × (staying cycle misses ≡ misses)
