-- Where no store is found that may be cleared, nothing happens.
use Rattle.std.proofs.Common.{sym, ◌∙◌}
use Rattle.clear.proofs.Walking.{none_row, none_shown}
use Rattle.clear.proofs.phase.clear.Goals as goal

pub returns-in_default-clause-machine : goal.returns-in_default-clause-machine
returns-in_default-clause-machine g c = none_shown _ c.args.row.now (sym c.in_default.is ∙ c.next_cleared.ensures)

pub returns-in_default-clause-row : goal.returns-in_default-clause-row
returns-in_default-clause-row g c = none_row c.args.parts.now _ (sym c.in_default.is ∙ c.next_cleared.ensures)
