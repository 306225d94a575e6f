use Rattle.machine_desc.proofs.SomeDesc.{some_description}
use Rattle.machine_desc.proofs.laws.some_description.Goals as goal

pub returns : goal.returns
returns c = some_description
