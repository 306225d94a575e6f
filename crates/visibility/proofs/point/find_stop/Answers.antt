use Rattle.std.proofs.Common.{not}
use Rattle.visibility.specs.Point.{permits}
use Rattle.visibility.proofs.Stopping.{found_is, none_is}
use Rattle.visibility.proofs.point.find_stop.Goals as goal

pub returns-in-Some : goal.returns-in-Some
returns-in-Some c = found_is (λ e. not (permits c.args.model e)) c.args.rob.now.entries c.in-Some.i c.lend.result.now c.in-Some.ensures c.lend.ensures

pub returns-in-None : goal.returns-in-None
returns-in-None c = none_is (λ e. not (permits c.args.model e)) c.args.rob.now.entries c.in-None.ensures
