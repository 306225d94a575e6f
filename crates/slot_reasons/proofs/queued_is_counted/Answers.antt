-- By the cycles of the run, one after the other.
use Rattle.slot_reasons.proofs.QueueRun.{queue_counts}
use Rattle.slot_reasons.proofs.queued_is_counted.Goals as goal

pub returns : goal.returns
returns c = λ n d code x known h q. queue_counts n d code x known h q
