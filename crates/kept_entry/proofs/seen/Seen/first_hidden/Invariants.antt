use Rattle.std.proofs.Common.{◌-◌, ◌≤◌, length}
use Rattle.kept_entry.specs.State.{PassesTo}
use Rattle.kept_entry.proofs.seen.Seen.first_hidden.Given as goal

abbrev pub invariant-loop-low : goal.invariant-loop-low
invariant-loop-low l = record {
  low : l.low ≤ l.high;
  high : l.high ≤ length l.self.stations.now.held;
  passed : PassesTo l.self 0 l.low;
}

abbrev pub decreases-loop-low : goal.decreases-loop-low
decreases-loop-low l = l.high - l.low
