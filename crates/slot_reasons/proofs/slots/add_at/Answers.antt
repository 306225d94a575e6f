-- The number at the place is the one of the name there.
use Rattle.std.proofs.Common.{◌∙◌, ap, set}
use Rattle.run_counts.specs.Counted.{as_told}
use Rattle.slot_reasons.proofs.Counting.{number_set}
use Rattle.slot_reasons.proofs.slots.add_at.Goals as goal

pub returns : goal.returns
unfolding as_told
returns c = λ at s. ap (set c.args.numbers.now c.args.place) c.saturating_add.ensures ∙ number_set c.args.numbers.now c.args.place at c.args.n c.told-numbers s
