use Rattle.std.proofs.Common.{◌≡◌, ◌++◌, take}
use Rattle.machine_desc.proofs.name.add.Given as goal

abbrev pub invariant-loop-byte : goal.invariant-loop-byte
invariant-loop-byte l = l.to.items ≡ l.initial.to.items ++ take l.byte-index l.bytes
