use Rattle.std.proofs.Common.{◌∙◌, sym}
use Rattle.entry_marks.specs.Walk.{marks_of}
use Rattle.shown_marks.proofs.Lending.{call_hides, call_tells, headless, no_call}
use Rattle.shown_marks.proofs.head.head_shown.Goals as goal

pub returns-then-len-eq0 : goal.returns-then-len-eq0
returns-then-len-eq0 g c = headless _ _ c.parts.invariant c.parts.view_is (marks_of c.args.marks.now) (sym c.len.ensures.len ∙ c.if-len-eq0.true)

pub returns-then-not-is_call : goal.returns-then-not-is_call
returns-then-not-is_call g c =
    no_call _ _ c.parts.invariant c.parts.view_is (marks_of c.args.marks.now) c.lend-entry.result.now c.lend-entry.ensures (sym c.is_call.ensures ∙ c.if-not-is_call.true)

pub returns-then-not-call_shows : goal.returns-then-not-call_shows
returns-then-not-call_shows g c =
    call_hides _ _ c.parts.invariant c.parts.view_is (marks_of c.args.marks.now) c.lend-entry.result.now c.lend-entry.ensures c.call_shows.result c.call_shows.ensures c.if-not-call_shows.true

pub returns : goal.returns
returns g c =
    call_tells _ _ c.parts.invariant c.parts.view_is (marks_of c.args.marks.now) c.lend-entry.result.now c.lend-entry.ensures c.call_shows.result c.call_shows.ensures
    c.shown_by.result (sym c.is_call.ensures ∙ c.if-not-is_call.false) c.if-not-call_shows.false c.shown_by.ensures
