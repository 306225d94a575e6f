use Rattle.machine_facts.proofs.KnownParts.{issued_is_known}
use Rattle.machine_facts.proofs.issued_is_known.Goals as goal

pub returns : goal.returns
returns c = issued_is_known
