use Rattle.rob_ring.proofs.ByEnd.{count_at, serial_at}
use Rattle.rob_ring.proofs.ring.RobRing.find.Goals as goal

pub returns-in-Some-clause-position : goal.returns-in-Some-clause-position
returns-in-Some-clause-position c =
    let f = c.in-Some.found in
    let at = serial_at c.args.serial c.args.self.now.entries f.position f.entry.now c.in-Some.ensures.entry c.in-Some.ensures.serial in
    count_at c.args.serial c.args.self.now.entries f.position c.requires.rise at
