use Rattle.std.proofs.Common.{◌∙◌}
use Rattle.refinement.proofs.Writers.{tells_writers}
use Rattle.issue.specs.State.{before_of, flight_of}
use Rattle.issue.proofs.Writers.{operands_are}
use Rattle.issue.proofs.seen.Seen.first.Goals as goal

pub returns : goal.returns
returns c =
    let t = c.requires.turn in
    let s = t.stands in
    let found = tells_writers (flight_of s.next s.writes c.args.self.now) _ _ _ s.refines t.candidate.at c.sources_of.ensures in
    c.source_value.ensures ∙ (operands_are _ _ (before_of c.args.self.now c.args.candidate.now) _ _ _ _ _ c.reads_of.ensures found).0
