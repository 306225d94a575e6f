use Rattle.std.proofs.Common.{◌≡◌}
use Rattle.slot_reasons.proofs.Counting.{added_up_to}
use Rattle.slot_reasons.proofs.slots.add_each.Given as goal

abbrev pub invariant-loop-place : goal.invariant-loop-place
invariant-loop-place l = l.numbers ≡ added_up_to l.place l.initial.numbers l.others
