-- A core's run is told with the description that was read, or what it needs is refused.
use Rattle.std.proofs.Common.{Some, refl}
use Rattle.run_inputs.proofs.Exits.{at_err}
use Rattle.secrets_top.proofs.task.read_core.Goals as goal

pub returns-clause-answer : goal.returns-clause-answer
returns-clause-answer g c = record { desc = Some c.in_ok-read.read.desc; read = c.in_ok-read.ensures.answer; told = λ secret public. refl }

pub returns-in_err-read-clause-answer : goal.returns-in_err-read-clause-answer
returns-in_err-read-clause-answer g c = at_err _ _ _ _ c.from_residual.ensures.1 c.in_err-read.ensures.answer
