use Rattle.noninterference.proofs.Complete.{fill_tells_nothing, complete_tells_nothing}
use Rattle.noninterference.proofs.Resolve.{resolve_tells_nothing}
use Rattle.noninterference.proofs.Clear.{clear_tells_nothing}
use Rattle.noninterference.proofs.Retire.{retire_tells_nothing}
use Rattle.noninterference.proofs.Issue.{issue_tells_nothing}
use Rattle.noninterference.proofs.RenameFetch.{rename_tells_nothing, fetch_tells_nothing}
use Rattle.noninterference.proofs.Agree.{together_agree}
use Rattle.noninterference.proofs.Cycle.{cycle_tells_nothing}
use Rattle.noninterference.proofs.phases_tell_nothing.Goals as goal

pub returns : goal.returns
returns c = record {
  fill = fill_tells_nothing;
  complete = complete_tells_nothing;
  resolve = resolve_tells_nothing;
  clear = clear_tells_nothing;
  retire = retire_tells_nothing;
  issue = issue_tells_nothing;
  rename = rename_tells_nothing;
  fetch = fetch_tells_nothing;
  outcomes = together_agree;
  cycle = cycle_tells_nothing;
}
