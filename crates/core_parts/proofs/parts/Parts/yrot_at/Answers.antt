use Rattle.core_parts.proofs.Lending.{lent_counts, lent_roots}
use Rattle.core_parts.proofs.parts.Parts.yrot_at.Goals as goal

pub sources_at-requires : goal.sources_at-requires
sources_at-requires g c = lent_counts _ _ _ c.self.invariant c.self.view_is c.requires

pub returns : goal.returns
returns g c = lent_roots _ _ _ c.sources_at.result.now c.self.invariant c.self.view_is c.sources_at.ensures
