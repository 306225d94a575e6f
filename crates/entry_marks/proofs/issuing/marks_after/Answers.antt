use Rattle.std.proofs.Common.{◌<◌, length, ap, sym, subst, ◌∙◌}
use Rattle.window_model.specs.Order.{before_at}
use Rattle.core_parts.specs.Described.{Described}
use Rattle.secret_marks.specs.Marks.{issued_marks}
use Rattle.entry_marks.specs.Beside.{marks_before}
use Rattle.entry_marks.specs.Walk.{marks_with}
use Rattle.entry_marks.proofs.Lending.{lent_beside, lent_issued}
use Rattle.entry_marks.proofs.issuing.marks_after.Goals as goal

pub lend-requires : goal.lend-requires
lend-requires g c = subst (λ (v : Described). c.args.i < length v.machine.window) (sym c.parts.view_is) c.requires.within

pub marks_at-requires : goal.marks_at-requires
marks_at-requires g c = subst (λ n. c.args.i < n) (sym c.requires.step) c.requires.within

pub issued_marks-requires-clause-stands : goal.issued_marks-requires-clause-stands
issued_marks-requires-clause-stands g c = lent_beside _ _ c.parts.invariant c.parts.view_is c.args.marks.now.window.items c.requires.step

pub returns : goal.returns
returns g c = λ window e own here here2.
    let items = c.args.marks.now.window.items in
    lent_issued _ _ c.parts.invariant c.parts.view_is (marks_with c.args.marks.now window) (marks_before items c.args.i) c.args.i _ e _ own c.issued_marks.result c.lend.ensures here (sym c.marks_at.ensures ∙ here2)
    (c.issued_marks.ensures window ∙ ap (λ base. issued_marks c.parts.inside.cycle base (marks_with c.args.marks.now window) (before_at c.parts.inside.rob.entries c.args.i) (marks_before items c.args.i) c.lend.result.now c.marks_at.result.now) c.base.ensures.value)
