use Rattle.std.proofs.Common.{refl, Some, arith}
use Rattle.lsq.specs.declared.load.Load.{Load}
use Rattle.lsq.proofs.Rising.{rises_changed}
use Rattle.lsq.proofs.queues.Lsq.load_issued.Goals as goal

pub invariant_of-self : goal.invariant_of-self
invariant_of-self c =
    let loads = c.self.invariant.0 in (
      omega (arith, loads, c.issue_load.ensures.capacity),
      c.self.invariant.1,
      λ rising. rises_changed (λ (l : Load). l.serial) c.args.serial (λ l. record l { access = Some c.args.access }) (λ l. refl) _ _ (c.self.invariant.2 rising) c.issue_load.ensures.items,
      c.self.invariant.3,
    )
