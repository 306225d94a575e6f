use Rattle.std.proofs.Common.{arith}
use Rattle.std.specs.Prelude.{nat_lt}
use Rattle.lsq.specs.declared.load.Load.{Load}
use Rattle.lsq.specs.declared.store.Store.{Store}
use Rattle.lsq.proofs.Rising.{rises_kept}
use Rattle.lsq.proofs.queues.Lsq.cut.Goals as goal

pub invariant_of-self : goal.invariant_of-self
invariant_of-self c =
    let loads = c.self.invariant.0 in
    let stores = c.self.invariant.1 in (
      omega (arith, loads, c.cut_items.ensures.capacity),
      omega (arith, stores, c.cut_items-2.ensures.capacity),
      λ rising. rises_kept (λ (l : Load). l.serial) (λ l. nat_lt l.serial c.args.first) _ _ (c.self.invariant.2 rising) c.cut_items.ensures.kept,
      λ rising. rises_kept (λ (s : Store). s.serial) (λ s. nat_lt s.serial c.args.first) _ _ (c.self.invariant.3 rising) c.cut_items-2.ensures.kept,
    )
