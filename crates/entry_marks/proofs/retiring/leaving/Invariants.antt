use Rattle.std.proofs.Common.{◌≡◌, length}
use Rattle.entry_marks.proofs.Copies.{Copies, Counted}
use Rattle.entry_marks.proofs.retiring.leaving.Given as goal

abbrev pub invariant-loop-i : goal.invariant-loop-i
invariant-loop-i l = record {
  each : Copies l.rob.entries l.marks.items l.entries.items;
  count : length l.entries.items ≡ l.i;
  done : Counted l.rob.entries l.i;
}
