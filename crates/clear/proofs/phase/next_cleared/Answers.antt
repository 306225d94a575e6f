-- What the walk finds is the store that the definition takes.
use Rattle.clear.proofs.Walking.{few_stores, finds}
use Rattle.clear.proofs.phase.next_cleared.Goals as goal

pub clearable-requires : goal.clearable-requires
clearable-requires g c = record { few = few_stores _ c.parts.invariant }

pub returns : goal.returns
returns g c = finds _ _ _ c.parts.invariant c.parts.view_is c.requires.loads_pass c.requires.advanced c.clearable.ensures
