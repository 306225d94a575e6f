-- The load's bit is set, and history and stack are its checkpoint, as all from it on goes.
use Rattle.clear.proofs.Learnt.{anew_is, anew_told, lent_stops}
use Rattle.clear.proofs.phase.fetch_anew.Goals as goal

pub drop_from-dropped-requires : goal.drop_from-dropped-requires
drop_from-dropped-requires g c = record { stops = lent_stops _ _ c.parts.invariant c.parts.view_is _ _ c.lend-load.ensures c.requires.stops }

pub returns-clause-machine : goal.returns-clause-machine
returns-clause-machine g c load here =
    anew_is _ _ c.parts.invariant c.parts.view_is _ _ c.lend-load.ensures _ _ (c.learn.ensures.machine c.parts.inside.desc c.parts.invariant.sized.dependence).0 c.restore.ensures
    load here _ c.drop_from-dropped.ensures.left

pub returns-clause-row : goal.returns-clause-row
returns-clause-row g c load here =
    anew_told _ _ c.parts.invariant c.parts.view_is _ _ c.lend-load.ensures _ _ (c.learn.ensures.machine c.parts.inside.desc c.parts.invariant.sized.dependence).0 c.restore.ensures
    load here
    _ _ _ _ _ _ c.push.ensures (c.learn.ensures.machine c.parts.inside.desc c.parts.invariant.sized.dependence).1 c.push-2.ensures c.drop_from-dropped.ensures.dropped
    c.push-3.ensures
