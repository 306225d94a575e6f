use Rattle.std.proofs.Common.{◌∙◌, ap}
use Rattle.issue.specs.Telling.{asks_besides}
use Rattle.issue.specs.State.{around_of, before_of}
use Rattle.issue.proofs.Kept.{refused_by_data}
use Rattle.issue.proofs.seen.Seen.is_still_kept.Goals as goal

pub returns-in-Load : goal.returns-in-Load
returns-in-Load c k =
    let s = c.args.self.now in
    let p = c.args.candidate.now in
    ap (λ k. asks_besides k s.desc.now (around_of s) (before_of s p) p.entry.now) c.in-Load.is ∙ refused_by_data s p c.requires.turn (c.keeper_keeps.ensures k)
