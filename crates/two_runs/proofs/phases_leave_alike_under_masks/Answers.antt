use Rattle.two_runs.proofs.Clear.{clear_alike}
use Rattle.two_runs.proofs.Complete.{complete_alike}
use Rattle.two_runs.proofs.Masks.{along_seen, lengths}
use Rattle.two_runs.proofs.May.{may_resolve_alike}
use Rattle.two_runs.proofs.Resolve.{resolve_alike}
use Rattle.two_runs.proofs.phases_leave_alike_under_masks.Goals as goal

pub returns : goal.returns
returns c = record {
  complete = λ mask ms x x2 o s. complete_alike mask ms x x2 o s;
  clear = λ mask keeps d ms x x2 o s seen. clear_alike mask keeps d ms x x2 o s seen;
  resolve = λ mask d ms x x2 o s seen acts. resolve_alike mask _ d ms x x2 o s (along_seen d.stt_model _ _ (may_resolve_alike d) x.window x2.window (lengths mask ms x.window x2.window s).1 seen) acts;
}
