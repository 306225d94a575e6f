use Rattle.std.proofs.Common.{◌-◌, ◌≤◌, length}
use Rattle.issue.proofs.Waiting.{Reaches}
use Rattle.shown_marks.specs.State.{window_of}
use Rattle.shown_marks.proofs.Standing.{Shows}
use Rattle.shown_marks.proofs.seen.Seen.operands_shown.Given as goal

abbrev pub invariant-loop-station : goal.invariant-loop-station
invariant-loop-station l = record {
  reached : Reaches (Shows l.self) (window_of l.self) l.from;
  within : l.from ≤ length l.self.stations.now.held;
}

abbrev pub decreases-loop-station : goal.decreases-loop-station
decreases-loop-station l = length l.self.stations.now.held - l.from
