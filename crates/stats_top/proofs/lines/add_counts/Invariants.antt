-- The lines of the numbers so far, and those of the others, are all lines.
use Rattle.std.proofs.Common.{◌≡◌, ◌≤◌, ◌+◌, ◌*◌, ◌++◌, length, drop}
use Rattle.run_counts.specs.Counted.{names}
use Rattle.stats_top.specs.Stats.{number_lines}
use Rattle.stats_top.proofs.lines.add_counts.Given as goal

abbrev pub invariant-loop-place : goal.invariant-loop-place
invariant-loop-place l = record {
  text : l.lines ++ number_lines (drop l.place names) (drop l.place l.numbers) ≡ l.initial.lines ++ number_lines names l.numbers;
  short : length l.lines ≤ length l.initial.lines + 43 * l.place;
}
