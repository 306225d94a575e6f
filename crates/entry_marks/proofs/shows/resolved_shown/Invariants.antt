use Rattle.std.proofs.Common.{◌≡◌, drop}
use Rattle.secret_marks.specs.Shown.{resolved_shown}
use Rattle.entry_marks.proofs.shows.resolved_shown.Given as goal

abbrev pub invariant-loop-i : goal.invariant-loop-i
invariant-loop-i l = resolved_shown (drop l.i l.rob.entries) (drop l.i l.marks.items) ≡ resolved_shown l.rob.entries l.marks.items
