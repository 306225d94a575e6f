use Rattle.std.proofs.Common.{ap, sym, ◌∙◌}
use Rattle.core_parts.specs.Described.{Described}
use Rattle.core_parts.specs.Held.{Sizes}
use Rattle.core_parts.proofs.Lending.{lent_parts, lent_ready, lent_waiting}
use Rattle.core_cycle.proofs.lent.stations_of.Goals as goal

pub returns-clause-waiting : goal.returns-clause-waiting
returns-clause-waiting g c =
    record {
      point = c.args.parts.now.point;
      advanced = c.requires;
      model =
          ap (λ (d : Described). d.point.model) (sym c.parts.view_is)
          ∙ ap (λ (s : Sizes). s.model) c.parts.invariant.made
          ∙ ap (λ (d : Described). d.desc.stt_model) c.parts.view_is;
      waiting = lent_waiting _ _ c.parts.invariant c.parts.view_is;
    }

pub returns-clause-ready : goal.returns-clause-ready
returns-clause-ready g c = lent_ready _ _ c.parts.invariant c.parts.view_is c.requires

pub returns-clause-parts : goal.returns-clause-parts
returns-clause-parts g c = lent_parts _ _ c.parts.invariant c.parts.view_is c.requires
