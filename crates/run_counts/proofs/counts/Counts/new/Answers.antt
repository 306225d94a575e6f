-- Of no row each number is 0.
use Rattle.std.proofs.Common.{refl}
use Rattle.run_counts.specs.Counted.{names, as_told}
use Rattle.run_counts.proofs.counts.Counts.new.Goals as goal

pub returns : goal.returns
unfolding names as_told
returns c = refl
