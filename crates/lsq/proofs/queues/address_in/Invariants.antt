use Rattle.std.proofs.Common.{◌≡◌, ◌++◌, map, take, drop}
use Rattle.lsq.specs.Queues.{addressed_at}
use Rattle.lsq.proofs.queues.address_in.Given as goal

abbrev pub invariant-loop-store : goal.invariant-loop-store
invariant-loop-store l = l.stores ≡ map (addressed_at l.serial l.span) (take l.store-index l.initial.stores) ++ drop l.store-index l.initial.stores
