use Rattle.std.proofs.Common.{◌≡◌, ◌∙◌, false, ap, sym}
use Rattle.rob_ring.specs.declared.beside.Sources.{Sources}
use Rattle.window_model.specs.Order.{is_done}
use Rattle.visibility.specs.Pick.{can_resolve}
use Rattle.branch_resolve.proofs.Picking.{not_done}
use Rattle.branch_resolve.proofs.choice.may_resolve_at.Goals as goal

pub returns-then-not-is_done : goal.returns-then-not-is_done
returns-then-not-is_done c s at =
    let test = c.if-not-is_done.true in
    let told = c.is_done.ensures in
    let waits : is_done c.args.entry.now.state ≡ false = cc in
    sym (not_done c.args.desc.now c.args.point.now.serial c.args.entry.now s.roots waits)

pub returns : goal.returns
returns c s at =
    let here = c.sources_at.ensures in
    let same : c.sources_at.result.now ≡ s = cc in
    c.may_resolve.ensures ∙ ap (λ (s : Sources). can_resolve c.args.desc.now c.args.point.now.serial c.args.entry.now s.roots) same
