use Rattle.std.proofs.Common.{◌∙◌, ap, sym}
use Rattle.issue.specs.Telling.{asks_besides}
use Rattle.issue.specs.State.{around_of, before_of}
use Rattle.issue.proofs.seen.Seen.has_besides.Goals as goal

pub returns-in-Load : goal.returns-in-Load
returns-in-Load c =
    let s = c.args.self.now in
    c.goes.ensures ∙ ap (λ k. asks_besides k s.desc.now (around_of s) (before_of s c.args.candidate.now) c.args.candidate.now.entry.now) (sym c.in-Load.is)
