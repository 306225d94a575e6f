-- The row has an event for each line so far.
use Rattle.std.proofs.Common.{◌≡◌, take}
use Rattle.std.specs.Prelude.{map}
use Rattle.window_model.specs.inner.Row.{with_events}
use Rattle.retire.specs.Parts.{line_told}
use Rattle.retire.proofs.commit.tell_lines.Given as goal

abbrev pub invariant-loop-line : goal.invariant-loop-line
invariant-loop-line l = l.row ≡ with_events l.initial.row (map (line_told l.tags.desc l.tags.sets l.store) (take l.line-index l.lines))
