use Rattle.two_runs.proofs.Looking.{same_address, same_any, same_forward, same_known, same_stores_done, same_tainted, same_visible, stores_let_alike}
use Rattle.two_runs.proofs.older_entries_are_seen_alike.Goals as goal

pub returns : goal.returns
returns c = record {
  visible = same_visible;
  tainted = same_tainted;
  operands = same_any;
  address = same_address;
  known = same_known;
  stores_done = same_stores_done;
  forwarded = same_forward;
  let_go = stores_let_alike;
}
