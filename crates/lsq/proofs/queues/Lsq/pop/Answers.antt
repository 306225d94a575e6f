use Rattle.std.proofs.Common.{not, arith}
use Rattle.std.specs.Prelude.{◌==◌}
use Rattle.lsq.specs.declared.load.Load.{Load}
use Rattle.lsq.specs.declared.store.Store.{Store}
use Rattle.lsq.proofs.Rising.{rises_kept}
use Rattle.lsq.proofs.queues.Lsq.pop.Goals as goal

pub invariant_of-self : goal.invariant_of-self
invariant_of-self c =
    let loads = c.self.invariant.0 in
    let stores = c.self.invariant.1 in (
      omega (arith, loads, c.pop_item.ensures.capacity),
      omega (arith, stores, c.pop_item-2.ensures.capacity),
      λ rising. rises_kept (λ (l : Load). l.serial) (λ l. not (l.serial == c.args.serial)) _ _ (c.self.invariant.2 rising) c.pop_item.ensures.kept,
      λ rising. rises_kept (λ (s : Store). s.serial) (λ s. not (s.serial == c.args.serial)) _ _ (c.self.invariant.3 rising) c.pop_item-2.ensures.kept,
    )
