use Rattle.std.proofs.Common.{◌∙◌}
use Rattle.issue.proofs.Testing.{shows_is}
use Rattle.issue.proofs.seen.Seen.may_show.Goals as goal

pub returns : goal.returns
returns c = let t = c.requires.turn in c.may_show.ensures ∙ shows_is c.args.self.now c.args.candidate.now.position c.args.candidate.now.entry.now t.stands t.candidate.at
