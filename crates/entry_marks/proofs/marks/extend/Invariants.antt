use Rattle.std.proofs.Common.{◌≡◌, ◌++◌, ◌-◌, ◌≤◌, length, replicate}
use Rattle.circular_buffer.specs.Buffer.{buffer}
use Rattle.secret_marks.specs.Marks.{new_entry}
use Rattle.entry_marks.proofs.marks.extend.Given as goal

abbrev pub invariant-loop-k : goal.invariant-loop-k
invariant-loop-k l = record {
  is : l.window ≡ buffer (l.initial.window.items ++ replicate (l._k - length l.initial.window.items) new_entry) l.initial.window.capacity;
  upto : l._k - length l.initial.window.items ≤ l.len - length l.initial.window.items;
  from : length l.initial.window.items ≤ l._k;
}
