-- The lines so far have moved.
use Rattle.std.proofs.Common.{◌≡◌, take}
use Rattle.retire.specs.Parts.{with_touched}
use Rattle.retire.proofs.commit.move_lines.Given as goal

abbrev pub invariant-loop-line : goal.invariant-loop-line
invariant-loop-line l = l.tags ≡ with_touched l.initial.tags.desc (take l.line-index l.lines) l.initial.tags
