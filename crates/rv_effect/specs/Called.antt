-- How a call goes, as a step of the instruction set.
use Rattle.std.specs.Prelude.{ℕ, List, Option, None, Some}
use Rattle.rv_types.specs.Isa.{Hart, Step, Goes, Exits}

-- the step that leaves this state and piece, and ends the run where there is an exit value
abbrev pub stepped_as : Hart → List ℕ → Option ℕ → Step
stepped_as hart piece None = Goes hart piece
stepped_as hart piece (Some v) = Exits v hart
