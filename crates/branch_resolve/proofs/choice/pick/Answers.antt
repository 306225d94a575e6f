use Rattle.std.proofs.Common.{arith, ◌∙◌}
use Rattle.rob_ring.specs.Beside.{each_roots}
use Rattle.rob_ring.proofs.AtPositions.{as_many_roots, roots_here}
use Rattle.branch_resolve.proofs.Picking.{pick_here, pick_on, pick_over, pick_end, there}
use Rattle.branch_resolve.proofs.choice.pick.Goals as goal

pub may_resolve_at-requires : goal.may_resolve_at-requires
may_resolve_at-requires c =
    let within = c.in-Some.ensures.next.within in
    let many = c.requires.each_has_sources in
    omega (arith, within, many)

pub returns-then-may_resolve_at : goal.returns-then-may_resolve_at
returns-then-may_resolve_at c =
    let within = c.in-Some.ensures.next.within in
    let many = c.requires.each_has_sources in
    let s = there c.args.sources.now.items c.in-Some.i (omega (arith, within, many)) in
    let left = pick_over c.args.desc.now _ _ _ _ (as_many_roots c.args.sources.now.items ∙ c.requires.each_has_sources) _ _ c.in-Some.ensures.next c.loop-i.invariant.left in
    pick_here c.args.desc.now c.args.point.now.serial c.in-Some.i c.args.rob.now.entries (each_roots c.args.sources.now.items) c.lend.result.now s.0.roots _ c.may_resolve_at.result
    c.lend.ensures (roots_here c.args.sources.now.items c.in-Some.i s.0 s.1) (c.may_resolve_at.ensures s.0 s.1) left c.if-may_resolve_at.true

pub loop-i-preserved : goal.loop-i-preserved
loop-i-preserved c =
    let next = c.in-Some.ensures.next in
    let within = next.within in
    let many = c.requires.each_has_sources in
    let s = there c.args.sources.now.items c.in-Some.i (omega (arith, within, many)) in
    let left = pick_over c.args.desc.now _ _ _ _ (as_many_roots c.args.sources.now.items ∙ c.requires.each_has_sources) _ _ next c.loop-i.invariant.left in
    record {
      left =
          pick_on c.args.desc.now c.args.point.now.serial c.in-Some.i c.args.rob.now.entries (each_roots c.args.sources.now.items) c.lend.result.now s.0.roots _ c.may_resolve_at.result
          c.lend.ensures (roots_here c.args.sources.now.items c.in-Some.i s.0 s.1) (c.may_resolve_at.ensures s.0 s.1) left c.if-may_resolve_at.false;
      within = omega (arith, within);
    }

pub returns : goal.returns
returns c = pick_end c.args.desc.now _ _ _ _ (as_many_roots c.args.sources.now.items ∙ c.requires.each_has_sources) _ c.loop-i.invariant.within c.in_default.ensures.next c.loop-i.invariant.left
