use Rattle.std.proofs.Common.{◌∙◌}
use Rattle.stations.proofs.AbleMarks.{any_is}
use Rattle.stations.proofs.by_age.Stations.any_able.Goals as goal

pub returns : goal.returns
returns c = c.is_some.ensures ∙ any_is c.args.self.now.held c.next_able.result c.next_able.ensures.next
