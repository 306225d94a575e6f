use Rattle.kept_entry.proofs.Lending.{stands_by}
use Rattle.kept_entry.proofs.kept.seen_of.Goals as goal

pub returns-clause-stands : goal.returns-clause-stands
returns-clause-stands g c =
    stands_by _ c.args.core.now.desc c.args.core.now.machine.window c.requires.desc c.rob.ensures (record {
      rise = c.requires.rise;
      waiting = c.stations.ensures.waiting;
      ready = c.stations.ensures.ready;
      parts = c.stations.ensures.parts;
      visible = c.point.ensures.visible;
      older = c.point.ensures.older;
    })
