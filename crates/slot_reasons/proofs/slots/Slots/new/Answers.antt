-- Of no cycle each number is 0.
use Rattle.std.proofs.Common.{refl}
use Rattle.run_counts.specs.Counted.{as_told}
use Rattle.slot_reasons.specs.Slots.{slot_names}
use Rattle.slot_reasons.proofs.slots.Slots.new.Goals as goal

pub returns : goal.returns
unfolding slot_names as_told
returns c = refl
