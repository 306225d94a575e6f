-- What holds between two cycles of a core.
use Rattle.std.specs.Prelude.{ℕ}
use Rattle.rv_types.specs.Memory.{Code}
use Rattle.machine_facts.specs.Sized.{Sized}
use Rattle.machine_facts.specs.Timely.{Counted, Timely}
use Rattle.committed_state.specs.Consistent.{Consistent}
use Rattle.quiet_cycles.specs.Still.{StillUntil}
use Rattle.visibility.specs.Point.{HasAdvanced}
use Rattle.core_parts.specs.Described.{Described}

-- the invariant of a core between two cycles: its counts are small, what is in flight stands over what has retired, and
-- the point says which entries are visible
pub record Kept (code : Code) (s : Described) : Type 0 where
  -- serials and retired instructions are so few that they fit their types
  pub counted : Counted s.machine
  -- an entry in flight is an instruction of the program, and has the outcome that the instruction set gives it in its
  -- place
  pub consistent : Consistent s.desc code s.machine
  pub advanced : HasAdvanced s.point s.machine.window
  -- no part holds more than the description says, and all that is under way ends soon: so no store executes as Issue
  -- begins
  pub sized : Sized s.desc s.machine
  pub timely : Timely s.desc s.machine

-- the invariant of a core between two cycles, where nothing happens in the cycles before the one with this number
pub record KeptUntil (n : ℕ) (code : Code) (s : Described) : Type 0 where
  pub kept : Kept code s
  pub still : StillUntil n s.desc code s.machine
