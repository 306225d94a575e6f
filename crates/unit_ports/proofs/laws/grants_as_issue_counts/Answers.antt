use Rattle.unit_ports.proofs.Granting.{left_first, left_more, left_by_store, granted_is}
use Rattle.unit_ports.proofs.laws.grants_as_issue_counts.Goals as goal

pub returns : goal.returns
returns c = record { opens = left_first; leaves = left_more; stores = left_by_store; grants = granted_is }
