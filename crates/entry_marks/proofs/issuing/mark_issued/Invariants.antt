use Rattle.std.proofs.Common.{◌≡◌, length}
use Rattle.entry_marks.specs.Walk.{marks_of, marks_with}
use Rattle.entry_marks.proofs.Naming.{behind}
use Rattle.entry_marks.proofs.YoungestFirst.{left_from}
use Rattle.entry_marks.proofs.issuing.mark_issued.Given as goal

-- the entries behind those that the first k positions name have the marks with which Issue leaves them, the others
-- those that they had
abbrev pub invariant-loop-k : goal.invariant-loop-k
invariant-loop-k g l = record {
  marks : marks_of l.marks
      ≡ marks_with l.initial.marks (left_from l.parts.machine.cycle l.parts.machine.ram.base (marks_of l.initial.marks) l.parts.machine.window l.initial.marks.window.items (behind l.issued l.k));
  step : length l.marks.window.items ≡ length l.initial.marks.window.items;
  room : l.marks.window.capacity ≡ l.initial.marks.window.capacity;
}
