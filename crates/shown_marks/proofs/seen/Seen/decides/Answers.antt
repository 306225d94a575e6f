use Rattle.shown_marks.proofs.Deciding.{untainted_decides}
use Rattle.shown_marks.proofs.seen.Seen.decides.Goals as goal

pub returns-in-Load : goal.returns-in-Load
returns-in-Load c = untainted_decides c.args.self.now c.args.candidate.now c.requires.turn c.sources_of.result.now c.may_transmit.result c.in-Load.is c.sources_of.ensures c.may_transmit.ensures
