use Rattle.std.proofs.Common.{◌≡◌}
use Rattle.run_counts.proofs.Adding.{added_up_to}
use Rattle.run_counts.proofs.counts.add_each.Given as goal

abbrev pub invariant-loop-place : goal.invariant-loop-place
invariant-loop-place l = l.numbers ≡ added_up_to l.place l.initial.numbers l.others
