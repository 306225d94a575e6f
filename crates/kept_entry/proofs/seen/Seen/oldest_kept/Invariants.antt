use Rattle.std.proofs.Common.{◌-◌, ◌≤◌, length}
use Rattle.issue.proofs.Waiting.{Reaches}
use Rattle.slot_reasons.specs.Kept.{is_asked}
use Rattle.kept_entry.specs.State.{window_of}
use Rattle.kept_entry.proofs.Walking.{FirstFrom}
use Rattle.kept_entry.proofs.seen.Seen.oldest_kept.Given as goal

abbrev pub invariant-loop-station : goal.invariant-loop-station
invariant-loop-station g l = record {
  reached : Reaches (FirstFrom (is_asked l.self.desc.now) (window_of l.self)) (window_of l.self) l.from;
  within : l.from ≤ length l.self.stations.now.held;
}

abbrev pub decreases-loop-station : goal.decreases-loop-station
decreases-loop-station g l = length l.self.stations.now.held - l.from
