use Rattle.std.proofs.Common.{◌≤◌, ◌∙◌, length, refl, sym, arith}
use Rattle.core_parts.proofs.Waking.{hidden_from, none_left, none_woken, past_end, wakes_next}
use Rattle.core_parts.proofs.giving.wake_given.Goals as goal

pub loop-i-init : goal.loop-i-init
loop-i-init c = refl

pub returns-then-not-visible : goal.returns-then-not-visible
returns-then-not-visible c =
    none_woken c.loop-i.i c.args.point.now.serial c.args.rob.now.entries c.loop-i.stations (none_left c.args.point.now.serial c.loop-i.i c.args.rob.now.entries (hidden_from c.args.point.now.serial c.args.rob.now.entries c.loop-i.i c.lend-entry.result.now c.requires c.lend-entry.ensures (sym c.visible.ensures.tells ∙ c.if-not-visible.true))) ∙ c.loop-i.invariant

pub loop-i-preserved : goal.loop-i-preserved
loop-i-preserved c =
    wakes_next c.loop-i.i c.args.point.now.serial c.args.rob.now.entries c.loop-i.stations _ c.lend-entry.result.now c.lend-entry.ensures (sym c.visible.ensures.tells ∙ c.if-not-visible.false) c.wake_if_given.ensures ∙ c.loop-i.invariant

pub returns : goal.returns
returns c =
    let end : length c.args.rob.now.entries ≤ c.loop-i.i = omega (arith, c.loop-i-test.false, c.len-i-end.ensures.len) in
    none_woken c.loop-i.i c.args.point.now.serial c.args.rob.now.entries c.loop-i.stations (past_end c.args.point.now.serial c.loop-i.i c.args.rob.now.entries end) ∙ c.loop-i.invariant
