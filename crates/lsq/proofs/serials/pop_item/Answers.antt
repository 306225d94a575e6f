use Rattle.std.proofs.Common.{rules}
use Rattle.std.proofs.lemmas.Fn.{filter_same}
use Rattle.lsq.proofs.serials.pop_item.Goals as goal

pub returns-else-rising-clause-kept : goal.returns-else-rising-clause-kept
returns-else-rising-clause-kept g c = filter_same _ _ _ (λ x b f' k. search rules) _ _ c.retain.ensures.filtered
