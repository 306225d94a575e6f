use Rattle.std.proofs.Common.{◌≡◌, ◌++◌, take}
use Rattle.gen_image.specs.Generated.{bytes_of}
use Rattle.gen_image.proofs.image.add_instrs.Given as goal

abbrev pub invariant-loop-instr : goal.invariant-loop-instr
invariant-loop-instr l = l.file.items ≡ l.initial.file.items ++ bytes_of (take l.instr-index l.instrs)
