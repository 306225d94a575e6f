use Rattle.std.proofs.Common.{◌∙◌}
use Rattle.entry_marks.proofs.Giving.{mark_is}
use Rattle.entry_marks.proofs.walk.Walk.byte_mark.Goals as goal

pub returns : goal.returns
returns c = λ i at.
    let w = c.args.self.now in
    let t = c.requires.stands in
    c.given_by.ensures ∙ mark_is w.cycle c.args.a _ t.refines w.base w.bytes.now.items w.marks.now.items t.step i c.args.entry.now _ at c.giver.ensures
