use Rattle.std.proofs.Common.{ap, sym, ◌∙◌, arith}
use Rattle.fetch_unit.specs.Unit.{FetchUnit}
use Rattle.fetch_unit.proofs.Asked.{fetch_asked}
use Rattle.fetch_unit.proofs.Fetching.{fetches_start, fetches_more, over_early}
use Rattle.fetch_unit.proofs.unit.Fetch.fetch.Goals as goal

pub loop-init : goal.loop-init
loop-init c = fetches_start _ _ _ _ _

pub fetched_at-fetched-requires : goal.fetched_at-fetched-requires
fetched_at-fetched-requires c = record { same_counters = c.loop.invariant.counters ∙ c.requires.same_counters }

pub loop-preserved : goal.loop-preserved
loop-preserved c =
    fetches_more _ _ _ _ _ _ _ _ _ _ _ _ _ _ _ c.loop.invariant (let e = ap (λ (f : FetchUnit). f.width) c.self.view_is in omega (arith, e, c.loop-test.true))
    (sym c.next.ensures ∙ c.in-Some.is) c.fetched_at-fetched.ensures.item c.fetched_at-fetched.ensures.taken c.add.ensures c.follow.ensures.machine c.follow.ensures.sizes c.push.ensures

pub returns-in_default-clause-machine : goal.returns-in_default-clause-machine
returns-in_default-clause-machine c = (over_early _ _ _ _ _ _ _ _ _ c.loop.invariant (sym c.next.ensures ∙ c.in_default.is)).machine

pub returns-in_default-clause-row : goal.returns-in_default-clause-row
returns-in_default-clause-row c = (over_early _ _ _ _ _ _ _ _ _ c.loop.invariant (sym c.next.ensures ∙ c.in_default.is)).row

pub returns-in_default-clause-sizes : goal.returns-in_default-clause-sizes
returns-in_default-clause-sizes c = (over_early _ _ _ _ _ _ _ _ _ c.loop.invariant (sym c.next.ensures ∙ c.in_default.is)).sizes

pub returns-in_default-clause-history_sizes : goal.returns-in_default-clause-history_sizes
returns-in_default-clause-history_sizes c = (over_early _ _ _ _ _ _ _ _ _ c.loop.invariant (sym c.next.ensures ∙ c.in_default.is)).history_sizes

pub returns-in_default-clause-described : goal.returns-in_default-clause-described
returns-in_default-clause-described c = fetch_asked _ _ _ _ c.self.view_is c.self.invariant.2 c.described.ensures c.described-2.ensures

pub returns-clause-described : goal.returns-clause-described
returns-clause-described c = fetch_asked _ _ _ _ c.self.view_is c.self.invariant.2 c.described.ensures c.described-2.ensures
