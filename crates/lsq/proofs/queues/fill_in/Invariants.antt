use Rattle.std.proofs.Common.{◌≡◌, ◌++◌, map, take, drop}
use Rattle.lsq.specs.Queues.{filled_at}
use Rattle.lsq.proofs.queues.fill_in.Given as goal

abbrev pub invariant-loop-store : goal.invariant-loop-store
invariant-loop-store l = l.stores ≡ map (filled_at l.serial l.stored) (take l.store-index l.initial.stores) ++ drop l.store-index l.initial.stores
