use Rattle.std.proofs.Common.{◌∙◌, ◌&&◌, ap, sym}
use Rattle.window_model.specs.Order.{base_of, sources}
use Rattle.secret_marks.specs.Words.{any_byte}
use Rattle.secret_marks.specs.Marks.{any_marked}
use Rattle.shown_marks.specs.State.{before_of, flight_of, marks_before_of, marks_in}
use Rattle.shown_marks.proofs.Deciding.{base_marked, silent}
use Rattle.shown_marks.proofs.seen.Seen.operand_shows.Goals as goal

pub returns-then-not-decides : goal.returns-then-not-decides
returns-then-not-decides c =
    let s = c.args.self.now in
    let p = c.args.candidate.now in
    sym (silent s.desc.now (before_of s p) p.entry.now (marks_in s) (marks_before_of s p) (sym c.decides.ensures ∙ c.if-not-decides.true))

pub first_source-requires-clause-stands : goal.first_source-requires-clause-stands
first_source-requires-clause-stands c =
    let t = c.requires.turn.stands in
    record { rest = flight_of t.rest c.args.self.now; refines = t.refines; step = t.step }

pub returns : goal.returns
returns c =
    let s = c.args.self.now in
    let p = c.args.candidate.now in
    c.any_byte.ensures ∙ ap any_byte c.first_source.ensures
    ∙ base_marked s.walk.regs.now (before_of s p) (marks_before_of s p) (sources p.entry.now)
    ∙ ap (λ b. b && any_marked s.walk.regs.now (before_of s p) (marks_before_of s p) (base_of (sources p.entry.now))) (sym (sym c.decides.ensures ∙ c.if-not-decides.false))
