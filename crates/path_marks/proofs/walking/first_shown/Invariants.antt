-- Nothing has shown in the steps so far, and what they published is counted.
use Rattle.path_marks.proofs.Looking.{Left}
use Rattle.path_marks.proofs.walking.first_shown.Given as goal

abbrev pub invariant-loop-done : goal.invariant-loop-done
invariant-loop-done l = record { left : Left l.n l.done l.initial.path l.path l.published }
