use Rattle.std.proofs.Common.{refl}
use Rattle.issue.proofs.Skipping.{is_candidate}
use Rattle.shown_marks.specs.State.{flight_of}
use Rattle.shown_marks.proofs.Deciding.{moved}
use Rattle.shown_marks.proofs.seen.Seen.candidate_at.Goals as goal

pub candidate_at-requires-clause-refines : goal.candidate_at-requires-clause-refines
candidate_at-requires-clause-refines c = (flight_of c.requires.stands.rest c.args.self.now, c.requires.stands.refines)

pub returns-clause-turn : goal.returns-clause-turn
returns-clause-turn c =
    let s = c.args.self.now in
    let stands = c.requires.stands in
    let here = c.candidate_at.ensures in
    record {
      stands = stands;
      candidate = is_candidate s.desc.now (flight_of stands.rest s) refl stands.refines (moved s stands) c.candidate_at.result c.args.station here.entry here.waits here.station here.at c.requires.able;
    }
