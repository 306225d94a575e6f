use Rattle.machine_desc.proofs.SameDesc.{one_description}
use Rattle.machine_desc.proofs.laws.one_description.Goals as goal

pub returns : goal.returns
returns c = one_description
