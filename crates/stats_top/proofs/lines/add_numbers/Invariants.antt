-- The numbers so far are added.
use Rattle.std.proofs.Common.{◌≡◌, ◌≤◌, ◌+◌, ◌*◌, ◌++◌, length, take, flat_map}
use Rattle.stats_top.specs.Stats.{and_number}
use Rattle.stats_top.proofs.lines.add_numbers.Given as goal

abbrev pub invariant-loop-n : goal.invariant-loop-n
invariant-loop-n l = record {
  text : l.line ≡ l.initial.line ++ flat_map and_number (take l.n-index l.numbers);
  short : length l.line ≤ length l.initial.line + 21 * l.n-index;
}
