use Rattle.squash.proofs.Younger.{leaves_the_older, drops_the_younger}
use Rattle.squash.proofs.laws.squashes_as_resolve.Goals as goal

pub returns : goal.returns
returns c = record { leaves = leaves_the_older; drops = drops_the_younger }
