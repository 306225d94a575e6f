use Rattle.refinement.proofs.Noting.{refines_cleared, refines_issued}
use Rattle.refinement.proofs.Steps.{refines_done, refines_dropped, refines_empty, refines_moved, refines_renamed, refines_resolved, refines_retired, stops_at}
use Rattle.refinement.proofs.steps_keep_refinement.Goals as goal

pub returns : goal.returns
returns c = record {
  opens = refines_empty;
  rename = refines_renamed;
  issue = refines_issued;
  complete = refines_done;
  resolve = refines_resolved;
  clear = refines_cleared;
  drop = refines_dropped;
  retire = refines_retired;
  point = refines_moved;
  stops = stops_at;
}
