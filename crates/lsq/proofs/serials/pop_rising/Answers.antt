use Rattle.std.proofs.Common.{rules, sym, arith}
use Rattle.std.proofs.lemmas.Fn.{filter_same}
use Rattle.lsq.proofs.Rising.{past, taken}
use Rattle.lsq.proofs.serials.pop_rising.Goals as goal

pub returns-then-serial-first-clause-kept : goal.returns-then-serial-first-clause-kept
returns-then-serial-first-clause-kept g c =
    let first = c.serial-first.ensures in
    let below = c.if-serial-first.true in
    sym (past g.T.Queued.serial c.args.serial c.index.result.now c.args.items.now.items c.requires c.index.ensures (omega (arith, first, below)))

pub returns-then-first-serial-clause-kept : goal.returns-then-first-serial-clause-kept
returns-then-first-serial-clause-kept g c =
    let len = c.len.ensures in
    let some = c.if-len-eq0.false in
    let first = c.serial-first.ensures in
    let at = c.if-first-serial.true in
    taken g.T.Queued.serial c.args.serial c.index.result.now c.args.items.now.items _ c.requires (omega (arith, len, some)) c.index.ensures (omega (arith, first, at)) c.remove.ensures.items

pub returns-clause-kept : goal.returns-clause-kept
returns-clause-kept g c = filter_same _ _ _ (λ x b f' k. search rules) _ _ c.retain.ensures.filtered
