use Rattle.std.proofs.Common.{ap}
use Rattle.core_parts.specs.Held.{Sizes}
use Rattle.entry_marks.specs.Walk.{marks_of}
use Rattle.shown_marks.proofs.Lending.{lent_advanced, lent_flight, lent_step, operands_lent}
use Rattle.shown_marks.proofs.operands.operands_shown.Goals as goal

pub operands_shown-requires : goal.operands_shown-requires
operands_shown-requires g c =
    let w = c.parts.invariant in
    record {
      stands = record {
        rest = lent_flight _ _ w c.parts.view_is;
        refines = w.refines;
        step = lent_step _ _ w c.parts.view_is c.args.marks.now.window.items c.requires.step;
        store_parts = w.sized.parts;
        together = w.sized.together;
        advanced = lent_advanced _ _ w c.parts.view_is c.requires.advanced;
        model = ap (λ (s : Sizes). s.model) w.made;
      };
    }

pub returns : goal.returns
returns g c = operands_lent _ _ c.parts.invariant c.parts.view_is (marks_of c.args.marks.now) c.args.marks.now.window.items _ c.operands_shown.ensures
