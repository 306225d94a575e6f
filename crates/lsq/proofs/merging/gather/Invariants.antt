use Rattle.std.proofs.Common.{◌≡◌, take}
use Rattle.lsq.specs.Queues.{older}
use Rattle.lsq.specs.Gathering.{bytes_from_stores}
use Rattle.lsq.proofs.merging.gather.Given as goal

-- what the stores that were passed give
abbrev pub invariant-loop-store : goal.invariant-loop-store
invariant-loop-store l = l.gathered ≡ bytes_from_stores (older l.serial (take l.store-index l.stores)) l.addr
