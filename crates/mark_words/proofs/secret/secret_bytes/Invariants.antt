-- The marks made so far, and those of the bytes that are left, are those of all bytes.
use Rattle.std.proofs.Common.{◌≡◌, ◌+◌, ◌-◌, ◌++◌, map}
use Rattle.rv_types.specs.Memory.{range}
use Rattle.secret_marks.specs.Ranges.{secret_in}
use Rattle.mark_words.proofs.secret.secret_bytes.Given as goal

abbrev pub invariant-loop-i : goal.invariant-loop-i
invariant-loop-i l = l.bytes.items ++ map (secret_in l.secret) (range (l.base + l.i) (l.size - l.i)) ≡ map (secret_in l.secret) (range l.base l.size)
