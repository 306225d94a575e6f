use Rattle.std.proofs.Common.{◌≡◌, ◌∙◌, Some, ap, sym, get_or, arith}
use Rattle.std.specs.List.{position_from}
use Rattle.lsq.specs.declared.store.Store.{Store}
use Rattle.lsq.specs.Pending.{bytes_requested, keeps}
use Rattle.lsq.proofs.Older.{awaited_at, awaited_none, keeper_at, keeper_none, keeper_within}
use Rattle.lsq.proofs.queues.Lsq.keeper.Goals as goal

pub bounds-stores-place-in-Some : goal.bounds-stores-place-in-Some
bounds-stores-place-in-Some c = keeper_within c.args.serial (bytes_requested c.args.request.now) _ c.in-Some.place c.in-Some.ensures

pub bounds-stores-place : goal.bounds-stores-place
bounds-stores-place c = keeper_within c.args.serial (bytes_requested c.args.request.now) _ c.in-Some.place c.in-Some.ensures

pub offset_bounds-stores-place : goal.offset_bounds-stores-place
offset_bounds-stores-place c =
    let within = keeper_within c.args.serial (bytes_requested c.args.request.now) _ c.in-Some.place c.in-Some.ensures in
    let small = c.as_slice-stores.type_inv.1 in
    omega (arith, within, small)

-- ---- a store keeps the load

pub returns-in-Some-clause-oldest : goal.returns-in-Some-clause-oldest
returns-in-Some-clause-oldest c =
    let bytes = bytes_requested c.args.request.now in
    let same : c.as_slice-stores.result.now ≡ c.args.self.now.stores = cc in
    ap (λ (s : Store). Some s.serial) (sym c.index-stores-place.is)
    ∙ keeper_at c.args.serial bytes c.args.self.now.stores c.in-Some.place _ (c.in-Some.ensures ∙ ap (position_from (keeps c.args.serial bytes) 0) same)
    (c.index-stores-place.is ∙ ap (λ stores. get_or stores c.in-Some.place c.index-stores-place.result) same)

pub returns-in-Some-clause-awaited : goal.returns-in-Some-clause-awaited
returns-in-Some-clause-awaited c =
    let bytes = bytes_requested c.args.request.now in
    let same : c.as_slice-stores.result.now ≡ c.args.self.now.stores = cc in
    awaited_at c.args.serial bytes c.args.self.now.stores c.in-Some.place _ (c.in-Some.ensures ∙ ap (position_from (keeps c.args.serial bytes) 0) same)
    (c.index-stores-place.is ∙ ap (λ stores. get_or stores c.in-Some.place c.index-stores-place.result) same)

-- ---- none does

pub returns-in-None-clause-oldest : goal.returns-in-None-clause-oldest
returns-in-None-clause-oldest c =
    let bytes = bytes_requested c.args.request.now in
    let same : c.as_slice-stores.result.now ≡ c.args.self.now.stores = cc in
    keeper_none c.args.serial bytes c.args.self.now.stores (c.in-None.ensures ∙ ap (position_from (keeps c.args.serial bytes) 0) same)

pub returns-in-None-clause-awaited : goal.returns-in-None-clause-awaited
returns-in-None-clause-awaited c =
    let bytes = bytes_requested c.args.request.now in
    let same : c.as_slice-stores.result.now ≡ c.args.self.now.stores = cc in
    awaited_none c.args.serial bytes c.args.self.now.stores (c.in-None.ensures ∙ ap (position_from (keeps c.args.serial bytes) 0) same)
