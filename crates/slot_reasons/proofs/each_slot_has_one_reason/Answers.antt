-- By the cycles of the run, one after the other.
use Rattle.slot_reasons.proofs.Sums.{rows_seen, whole}
use Rattle.slot_reasons.proofs.each_slot_has_one_reason.Goals as goal

pub returns-clause-slots : goal.returns-clause-slots
returns-clause-slots c = λ n d code x known. whole d code n x known

pub returns-clause-rows : goal.returns-clause-rows
returns-clause-rows c = λ n d code x known. rows_seen d code n x known
