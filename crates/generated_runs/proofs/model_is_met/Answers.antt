use Rattle.std.proofs.lemmas.List.Elements.{All-from_recursion}
use Rattle.generated_runs.specs.Agreement.{Agrees}
use Rattle.generated_runs.specs.Runs.{runs}
use Rattle.generated_runs.proofs.Agreeing.{each_agrees}
use Rattle.generated_runs.proofs.model_is_met.Goals as goal

pub returns : goal.returns
returns c = All-from_recursion Agrees runs each_agrees
