use Rattle.std.proofs.Common.{◌-◌, ◌≤◌, length}
use Rattle.issue.proofs.Stepping.{Walks}
use Rattle.issue.proofs.seen.Seen.decide.Given as goal

abbrev pub invariant-loop-station : goal.invariant-loop-station
invariant-loop-station l = record {
  walks : Walks l.self l.initial.ports l.ports l.decided l.initial.row l.row l.from;
  within : l.from ≤ length l.self.stations.now.held;
}

abbrev pub decreases-loop-station : goal.decreases-loop-station
decreases-loop-station l = length l.self.stations.now.held - l.from
