use Rattle.clear.proofs.Clearable.{finds_clearable}
use Rattle.clear.proofs.queue_finds_clearable.Goals as goal

pub returns : goal.returns
returns c = finds_clearable
