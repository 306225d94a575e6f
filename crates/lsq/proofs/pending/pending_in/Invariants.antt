use Rattle.std.proofs.Common.{◌≡◌, take}
use Rattle.lsq.specs.Queues.{older}
use Rattle.lsq.specs.Pending.{pending_among, bytes_requested}
use Rattle.lsq.proofs.pending.pending_in.Given as goal

-- what is waited for in the stores that were passed
abbrev pub invariant-loop-store : goal.invariant-loop-store
invariant-loop-store l = l.pending ≡ pending_among (bytes_requested l.request) (older l.serial (take l.store-index l.stores))
