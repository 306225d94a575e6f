-- The amounts that events tell.
use Rattle.std.proofs.Common.{refl, codes}
use Rattle.run_counts.proofs.places.further_of.Goals as goal
use Rattle.run_counts.specs.Counted.{names}

pub returns-in-Div-clause-at : goal.returns-in-Div-clause-at
unfolding names
returns-in-Div-clause-at c = rw c.in-Div.is (codes "division_cycles", refl, refl)

pub returns-in-Sq-clause-at : goal.returns-in-Sq-clause-at
unfolding names
returns-in-Sq-clause-at c = rw c.in-Sq.is (codes "dropped", refl, refl)

pub returns-in-Call-clause-at : goal.returns-in-Call-clause-at
unfolding names
returns-in-Call-clause-at c = rw c.in-Call.is (codes "output_bytes", refl, refl)
