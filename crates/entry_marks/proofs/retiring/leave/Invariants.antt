use Rattle.std.proofs.Common.{◌≡◌, ◌-◌, List, drop, length}
use Rattle.window_model.specs.declared.Entry.{Entry}
use Rattle.secret_marks.specs.Marks.{marks_after_leaving}
use Rattle.entry_marks.specs.Oldest.{IsCopiedFrom}
use Rattle.entry_marks.specs.Walk.{marks_of, marks_with}
use Rattle.entry_marks.proofs.retiring.leave.Given as goal

-- the entries that are left to leave make of the marks what all make of those at the beginning
abbrev pub invariant-loop-k : goal.invariant-loop-k
invariant-loop-k l = record {
  marks : (window : List Entry) → IsCopiedFrom window l.initial.marks.window.items l.leaving.entries.items →
      marks_after_leaving l.base (l.count - l.k) (drop l.k window) (marks_with l.marks (drop l.k l.initial.marks.window.items)) (drop l.k l.initial.marks.window.items)
      ≡ marks_after_leaving l.base l.count window (marks_of l.initial.marks) l.initial.marks.window.items;
  window : l.marks.window ≡ l.initial.marks.window;
  memory : length l.marks.bytes.items ≡ length l.initial.marks.bytes.items;
}
