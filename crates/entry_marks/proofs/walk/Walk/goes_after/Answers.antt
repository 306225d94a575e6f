use Rattle.std.proofs.Common.{◌&&◌, ap, sym, ◌∙◌}
use Rattle.secret_marks.specs.Marks.{goes_mark}
use Rattle.entry_marks.specs.Walk.{entries_at, marks_at, with_window}
use Rattle.entry_marks.proofs.walk.Walk.goes_after.Goals as goal

pub returns : goal.returns
returns c = λ window.
    let w = c.args.self.now in
    c.goes_mark.ensures window
    ∙ ap (λ b. b && goes_mark (with_window w window) (entries_at w c.args.i) (marks_at w c.args.i) c.args.entry.now) (sym (sym c.is_at.ensures ∙ c.if-not-is_at.false))
