-- The lines of the numbers so far, and those of the others, are all lines.
use Rattle.std.proofs.Common.{◌≡◌, ◌≤◌, ◌+◌, ◌*◌, ◌++◌, length, drop}
use Rattle.slot_reasons.specs.Slots.{slot_names}
use Rattle.stats_top.specs.Stats.{number_lines}
use Rattle.stats_top.proofs.lines.add_slots.Given as goal

abbrev pub invariant-loop-place : goal.invariant-loop-place
invariant-loop-place l = record {
  text : l.lines ++ number_lines (drop l.place slot_names) (drop l.place l.numbers) ≡ l.initial.lines ++ number_lines slot_names l.numbers;
  short : length l.lines ≤ length l.initial.lines + 43 * l.place;
}
