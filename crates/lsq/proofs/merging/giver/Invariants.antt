use Rattle.std.proofs.Common.{◌≡◌, take}
use Rattle.lsq.specs.Queues.{older}
use Rattle.lsq.specs.Merging.{giver}
use Rattle.lsq.proofs.merging.giver.Given as goal

-- the youngest that writes the byte among the stores that were passed
abbrev pub invariant-loop-store : goal.invariant-loop-store
invariant-loop-store l = l.giver ≡ giver l.cycle (older l.serial (take l.store-index l.stores)) l.addr
