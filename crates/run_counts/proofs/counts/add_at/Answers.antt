-- The number at the place is the one of the name there.
use Rattle.std.proofs.Common.{◌∙◌, ap, set}
use Rattle.run_counts.specs.Counted.{as_told}
use Rattle.run_counts.proofs.AtMost.{at_most_stays}
use Rattle.run_counts.proofs.Distinct.{number_set}
use Rattle.run_counts.proofs.counts.add_at.Goals as goal

pub returns-clause-adds : goal.returns-clause-adds
unfolding as_told
returns-clause-adds c = λ at s. ap (set c.args.numbers.now c.args.place) c.saturating_add.ensures ∙ number_set c.args.numbers.now c.args.place at c.args.n c.told-numbers s

pub returns-clause-few : goal.returns-clause-few
returns-clause-few c = λ told most h. at_most_stays most c.args.numbers.now c.args.place _ told h
