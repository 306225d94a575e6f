-- An entry that has its turn to issue, in its place in a window (docs/machine.md, "Issue").
use Rattle.std.specs.Prelude.{◌≡◌, List, true, slice_get, Some}
use Rattle.machine_desc.specs.declared.Desc.{Desc}
use Rattle.window_model.specs.declared.Entry.{Entry}
use Rattle.window_model.specs.Order.{before_at, is_waiting}
use Rattle.refinement.specs.Stations.{station_of}
use Rattle.refinement.specs.Telling.{has_sources}
use Rattle.refinement.specs.Waiters.{wants_of}
use Rattle.issue.specs.declared.candidate.Candidate.{Candidate}

-- the entry stands in the window at its position, waits at its station, and what it wants is there
pub record IsCandidate (d : Desc) (window : List Entry) (p : Candidate) : Type 0 where
  pub at : slice_get window p.position ≡ Some p.entry.now
  pub waits : is_waiting p.entry.now.state ≡ true
  pub able : has_sources (wants_of d.version p.entry.now) d (before_at window p.position) p.entry.now ≡ true
  pub station : p.station ≡ station_of p.position window
