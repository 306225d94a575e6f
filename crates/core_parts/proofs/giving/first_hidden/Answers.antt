use Rattle.core_parts.proofs.Waking.{hidden_behind, visible_before}
use Rattle.core_parts.proofs.giving.first_hidden.Goals as goal

pub returns-clause-visible : goal.returns-clause-visible
returns-clause-visible c = visible_before _ _ _ _ c.requires.rise c.hidden_from.ensures c.position_of.ensures.older

pub returns-clause-hidden : goal.returns-clause-hidden
returns-clause-hidden c = hidden_behind _ _ _ _ c.requires.rise c.requires.few c.hidden_from.ensures c.position_of.ensures.within c.position_of.ensures.older
