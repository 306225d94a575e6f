-- The first range with a fault, if there is one, is the first with one among those that are left.
use Rattle.std.proofs.Common.{◌≡◌, drop}
use Rattle.run_inputs.specs.Loaded.{image_text}
use Rattle.secrets_top.specs.Ranges.{first_faulty}
use Rattle.secrets_top.proofs.ranges.check_ranges.Given as goal

abbrev pub invariant-loop-number : goal.invariant-loop-number
invariant-loop-number l = first_faulty (image_text l.image) l.number (drop l.number l.secret) ≡ first_faulty (image_text l.image) 0 l.secret
