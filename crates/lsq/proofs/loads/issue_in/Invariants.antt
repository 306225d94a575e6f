use Rattle.std.proofs.Common.{◌≡◌, ◌++◌, map, take, drop}
use Rattle.lsq.specs.Queues.{issued_at}
use Rattle.lsq.proofs.loads.issue_in.Given as goal

abbrev pub invariant-loop-load : goal.invariant-loop-load
invariant-loop-load l = l.loads ≡ map (issued_at l.serial l.access) (take l.load-index l.initial.loads) ++ drop l.load-index l.initial.loads
