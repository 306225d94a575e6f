-- The visibility point and the roots by position tell which entry the definition takes.
use Rattle.core_parts.proofs.Lending.{each_has_sources}
use Rattle.resolve.proofs.Marked.{none_row, none_shown, picks}
use Rattle.std.proofs.Common.{sym, ◌∙◌}
use Rattle.resolve.proofs.phase.resolve.Goals as goal

pub pick-requires : goal.pick-requires
pick-requires g c = record { each_has_sources = each_has_sources _ c.parts.invariant }

pub returns-in_default-clause-machine : goal.returns-in_default-clause-machine
returns-in_default-clause-machine g c = none_shown _ (picks _ _ _ c.parts.invariant c.parts.view_is c.requires.advanced (sym c.in_default.is ∙ c.pick.ensures))

pub returns-in_default-clause-row : goal.returns-in_default-clause-row
returns-in_default-clause-row g c = none_row c.args.parts.now _ (picks _ _ _ c.parts.invariant c.parts.view_is c.requires.advanced (sym c.in_default.is ∙ c.pick.ensures))

pub resolve_at-requires-clause-picked : goal.resolve_at-requires-clause-picked
resolve_at-requires-clause-picked g c = picks _ _ _ c.parts.invariant c.parts.view_is c.requires.advanced (sym c.in-Some.is ∙ c.pick.ensures)
