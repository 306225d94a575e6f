use Rattle.std.proofs.Common.{refl, Some, arith}
use Rattle.lsq.specs.declared.store.Store.{Store}
use Rattle.lsq.proofs.Rising.{rises_changed}
use Rattle.lsq.proofs.queues.Lsq.store_addr.Goals as goal

pub invariant_of-self : goal.invariant_of-self
invariant_of-self c =
    let stores = c.self.invariant.1 in (
      c.self.invariant.0,
      omega (arith, stores, c.address_store.ensures.capacity),
      c.self.invariant.2,
      λ rising. rises_changed (λ (s : Store). s.serial) c.args.serial (λ s. record s { span = Some c.args.span }) (λ s. refl) _ _ (c.self.invariant.3 rising) c.address_store.ensures.items,
    )
