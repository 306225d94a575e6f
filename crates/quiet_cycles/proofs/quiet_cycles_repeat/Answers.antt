use Rattle.quiet_cycles.proofs.Repeats.{empty_row_stands, passes_over, stands_after_empty_row, stands_until_due, still_goes_on}
use Rattle.quiet_cycles.proofs.quiet_cycles_repeat.Goals as goal

pub returns : goal.returns
returns c = record {
  empty = empty_row_stands;
  until = stands_until_due;
  after = stands_after_empty_row;
  onward = still_goes_on;
  passes = passes_over;
}
