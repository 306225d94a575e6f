use Rattle.core_parts.proofs.Lending.{lent_addresses, lent_queues, lent_tracks}
use Rattle.core_parts.proofs.parts.Parts.lsq.Goals as goal

pub returns-clause-queues : goal.returns-clause-queues
returns-clause-queues g c = lent_queues _ _ c.self.invariant c.self.view_is

pub returns-clause-tracks : goal.returns-clause-tracks
returns-clause-tracks g c = lent_tracks _ _ c.self.invariant c.self.view_is

pub returns-clause-roots : goal.returns-clause-roots
returns-clause-roots g c = lent_addresses _ _ c.self.invariant c.self.view_is
