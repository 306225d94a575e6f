use Rattle.resolve.proofs.Picking.{picks_first}
use Rattle.resolve.proofs.pick_is_first.Goals as goal

pub returns : goal.returns
returns c = picks_first
