use Rattle.std.proofs.Common.{sym, ◌∙◌, arith}
use Rattle.entry_marks.proofs.Before.{found_at}
use Rattle.entry_marks.proofs.Exposed.{shows_here, shows_later, shows_nowhere}
use Rattle.entry_marks.proofs.shows.resolved_shown.Goals as goal

pub returns-then-is_exposed : goal.returns-then-is_exposed
returns-then-is_exposed c =
    let len = c.len-i-end.ensures.len in
    let within = c.loop-i-test.true in
    let step = c.requires in
    let (mark, at) = found_at c.args.marks.now.items c.loop-i.i (omega (arith, len, within, step)) in
    shows_here c.args.rob.now.entries c.args.marks.now.items c.loop-i.i _ mark c.lend-entry.ensures at _ (sym (c.is_exposed.ensures mark at) ∙ c.if-is_exposed.true) c.shown_by.ensures
    ∙ c.loop-i.invariant

pub loop-i-preserved : goal.loop-i-preserved
loop-i-preserved c =
    let len = c.len-i-end.ensures.len in
    let within = c.loop-i-test.true in
    let step = c.requires in
    let (mark, at) = found_at c.args.marks.now.items c.loop-i.i (omega (arith, len, within, step)) in
    shows_later c.args.rob.now.entries c.args.marks.now.items c.loop-i.i _ mark c.lend-entry.ensures at (sym (c.is_exposed.ensures mark at) ∙ c.if-is_exposed.false)
    ∙ c.loop-i.invariant

pub returns : goal.returns
returns c =
    let len = c.len-i-end.ensures.len in
    let past = c.loop-i-test.false in
    shows_nowhere c.args.rob.now.entries c.args.marks.now.items c.loop-i.i (omega (arith, len, past)) ∙ c.loop-i.invariant
