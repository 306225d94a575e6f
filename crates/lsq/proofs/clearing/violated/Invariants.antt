use Rattle.std.proofs.Common.{◌≡◌, take}
use Rattle.lsq.specs.Clearing.{violated_serial}
use Rattle.lsq.proofs.clearing.violated.Given as goal

-- the oldest of those that were looked at
abbrev pub invariant-loop-load : goal.invariant-loop-load
invariant-loop-load l = l.oldest ≡ violated_serial l.store (take l.load-index l.loads)
