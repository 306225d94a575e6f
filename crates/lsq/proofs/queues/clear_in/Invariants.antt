use Rattle.std.proofs.Common.{◌≡◌, ◌++◌, map, take, drop}
use Rattle.lsq.specs.Queues.{cleared_at}
use Rattle.lsq.proofs.queues.clear_in.Given as goal

abbrev pub invariant-loop-store : goal.invariant-loop-store
invariant-loop-store l = l.stores ≡ map (cleared_at l.serial) (take l.store-index l.initial.stores) ++ drop l.store-index l.initial.stores
