use Rattle.history_laws.proofs.Runs.{leads_at}
use Rattle.history_laws.proofs.history_follows_what_is_left.Goals as goal

pub returns : goal.returns
returns c = record { left = leads_at }
