use Rattle.constant_time.proofs.Issue.{issue_alike}
use Rattle.constant_time.proofs.Resolve.{resolve_alike}
use Rattle.constant_time.proofs.Retire.{retire_alike}
use Rattle.constant_time.proofs.phases_leak_alike.Goals as goal

pub returns : goal.returns
returns c = record { resolve = resolve_alike; retire = retire_alike; issue = issue_alike }
