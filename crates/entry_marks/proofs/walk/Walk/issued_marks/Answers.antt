use Rattle.std.proofs.Common.{◌∙◌}
use Rattle.entry_marks.proofs.Getting.{first_of, same_marks, second_of}
use Rattle.entry_marks.proofs.walk.Walk.issued_marks.Goals.{then-own, else-own}
use Rattle.entry_marks.proofs.walk.Walk.issued_marks.Goals as goal

pub returns : goal.returns
returns c = λ window.
    same_marks _ _ _ _ _ _ (c.result_after.ensures window)
    (elim c.if-own.branch [
      | then-own w ↦ first_of _ _ _ w.if-own.true (w.result-is ∙ w.if-own.true)
      | else-own w ↦ second_of _ _ _ _ w.if-own.false w.result-is (w.goes_after.ensures window)
    ])
    c.stored_after.ensures
