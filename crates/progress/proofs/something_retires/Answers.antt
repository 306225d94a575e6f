use Rattle.progress.proofs.Falls.{measure_falls}
use Rattle.progress.proofs.Run.{measure_is_bounded, retires_within_bound, retires_in_budget}
use Rattle.progress.proofs.something_retires.Goals as goal

pub returns : goal.returns
returns c = record { bounded = measure_is_bounded; falls = measure_falls; retires = retires_within_bound; budget = retires_in_budget }
