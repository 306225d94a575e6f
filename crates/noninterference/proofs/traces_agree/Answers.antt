use Rattle.noninterference.proofs.Runs.{same_trace}
use Rattle.noninterference.proofs.traces_agree.Goals as goal

pub returns : goal.returns
returns c = record { noninterference = same_trace }
