use Rattle.issue.proofs.Testing.{tells_issue}
use Rattle.issue.proofs.parts_tell_who_may_issue.Goals as goal

pub returns : goal.returns
returns c = tells_issue
