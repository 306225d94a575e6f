use Rattle.std.proofs.Common.{◌≡◌, ◌++◌, take}
use Rattle.gen_image.specs.Generated.{twos}
use Rattle.gen_image.proofs.image.add_twos.Given as goal

abbrev pub invariant-loop-number : goal.invariant-loop-number
invariant-loop-number l = l.file.items ≡ l.initial.file.items ++ twos (take l.number-index l.numbers)
