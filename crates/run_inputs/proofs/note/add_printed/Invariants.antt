-- The bytes so far stand behind those that were there.
use Rattle.std.proofs.Common.{◌≡◌, ◌++◌, take}
use Rattle.run_inputs.specs.Note.{printed}
use Rattle.run_inputs.proofs.note.add_printed.Given as goal

abbrev pub invariant-loop-byte : goal.invariant-loop-byte
invariant-loop-byte l = l.line ≡ l.initial.line ++ printed (take l.byte-index l.name)
