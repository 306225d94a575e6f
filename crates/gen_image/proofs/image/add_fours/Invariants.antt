use Rattle.std.proofs.Common.{◌≡◌, ◌++◌, take}
use Rattle.gen_image.specs.Generated.{fours}
use Rattle.gen_image.proofs.image.add_fours.Given as goal

abbrev pub invariant-loop-number : goal.invariant-loop-number
invariant-loop-number l = l.file.items ≡ l.initial.file.items ++ fours (take l.number-index l.numbers)
