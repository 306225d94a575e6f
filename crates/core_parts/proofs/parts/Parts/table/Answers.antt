use Rattle.core_parts.proofs.Lending.{lent_names, lent_name_roots}
use Rattle.core_parts.proofs.parts.Parts.table.Goals as goal

pub returns-clause-writers : goal.returns-clause-writers
returns-clause-writers g c = lent_names _ _ c.self.invariant c.self.view_is

pub returns-clause-roots : goal.returns-clause-roots
returns-clause-roots g c = lent_name_roots _ _ c.self.invariant c.self.view_is
