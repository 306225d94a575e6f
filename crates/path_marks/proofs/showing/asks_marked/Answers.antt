use Rattle.path_marks.proofs.Calls.{call_asks}
use Rattle.path_marks.proofs.showing.asks_marked.Goals as goal

pub returns : goal.returns
returns c = call_asks c.call_shows.result c.args.regs.now c.args.marks.now c.call_shows.ensures
