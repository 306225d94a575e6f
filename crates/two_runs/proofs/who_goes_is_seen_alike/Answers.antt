use Rattle.two_runs.proofs.Fitting.{same_fits}
use Rattle.two_runs.proofs.May.{at_alike, granted_alike, may_clear_alike, may_resolve_alike}
use Rattle.two_runs.proofs.RenameFetch.{fetch_alike, rename_alike}
use Rattle.two_runs.proofs.who_goes_is_seen_alike.Goals as goal

pub returns : goal.returns
returns c = record {
  resolve = may_resolve_alike;
  clear = may_clear_alike;
  issue = λ d x x2 m b b2 s e e2 h port n. at_alike d x x2 m b b2 s e e2 h port n;
  granted = λ d x x2 m b b2 s q e e2 h port n. granted_alike d x x2 m b b2 s q e e2 h port n;
  fits = same_fits;
  rename = rename_alike;
  fetch = fetch_alike;
}
