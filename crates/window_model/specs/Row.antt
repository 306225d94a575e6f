-- The events of a cycle (docs/machine.md, "Events").
use Rattle.std.specs.Prelude.{ℕ, List}
use Rattle.window_model.specs.declared.Event.{Event}

-- a cycle's number, and what happened in it
pub record Row : Type 0 where
  pub cycle : ℕ
  pub events : List Event
