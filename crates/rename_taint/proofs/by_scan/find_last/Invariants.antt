use Rattle.std.proofs.Common.{◌≡◌, take}
use Rattle.rename_taint.specs.Writes.{last_write}
use Rattle.rename_taint.proofs.by_scan.find_last.Given as goal

abbrev pub invariant-loop-i : goal.invariant-loop-i
invariant-loop-i l = last_write l.writes l.register ≡ last_write (take l.i l.writes) l.register
