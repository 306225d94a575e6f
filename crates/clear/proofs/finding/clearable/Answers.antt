use Rattle.std.proofs.Common.{ap, arith, sym, ◌∙◌}
use Rattle.std.specs.Option.{option_map}
use Rattle.lsq.specs.declared.store.Store.{Store}
use Rattle.clear.proofs.Walking.{is_found, none_left, passed, within}
use Rattle.clear.proofs.finding.clearable.Goals as goal

pub returns-then-may_clear : goal.returns-then-may_clear
returns-then-may_clear c =
    is_found c.args.point.now.serial c.args.queues.now.stores c.loop-store.place c.in-Some.store (sym c.store_at.ensures ∙ c.in-Some.is) (sym c.may_clear.ensures ∙ c.if-may_clear.true)
    ∙ ap (option_map (λ (s : Store). s.serial)) c.loop-store.invariant

pub overflow_add-place : goal.overflow_add-place
overflow_add-place c = let l = within c.args.queues.now.stores c.loop-store.place c.in-Some.store (sym c.store_at.ensures ∙ c.in-Some.is) in omega (arith, l, c.requires)

pub loop-store-preserved : goal.loop-store-preserved
loop-store-preserved c =
    passed c.args.point.now.serial c.args.queues.now.stores c.loop-store.place c.in-Some.store (sym c.store_at.ensures ∙ c.in-Some.is) (sym c.may_clear.ensures ∙ c.if-may_clear.false)
    ∙ c.loop-store.invariant

pub loop-store-smaller : goal.loop-store-smaller
loop-store-smaller c = let l = within c.args.queues.now.stores c.loop-store.place c.in-Some.store (sym c.store_at.ensures ∙ c.in-Some.is) in omega (arith, l)

pub returns : goal.returns
returns c =
    none_left c.args.point.now.serial c.args.queues.now.stores c.loop-store.place (sym c.in_default.is ∙ c.store_at.ensures)
    ∙ ap (option_map (λ (s : Store). s.serial)) c.loop-store.invariant
