-- What a step leaves, puts out and answers.
use Rattle.std.specs.Prelude.{ℕ, List, []}
use Rattle.rv_types.specs.Isa.{Hart, Step, Goes, Exits, Traps}
use Rattle.isa_step.specs.declared.stepped.Stepped.{Stepped}
use Rattle.isa_step.specs.declared.stepped.Stepped.TheVariants.{Next, Exit, Trap}

pub record Outcome : Type 0 where
  pub hart : Hart
  pub piece : List ℕ
  pub stepped : Stepped

-- the outcome of a step from this state: an exit puts out nothing, and a trap changes nothing
abbrev pub outcome : Hart → Step → Outcome
outcome s (Goes s' piece) = record { hart = s'; piece = piece; stepped = Next }
outcome s (Exits v s') = record { hart = s'; piece = []; stepped = Exit v }
outcome s (Traps cause) = record { hart = s; piece = []; stepped = Trap cause }
