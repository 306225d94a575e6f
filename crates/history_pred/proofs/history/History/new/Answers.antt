use Rattle.std.proofs.Common.{refl, arith}
use Rattle.history_pred.proofs.Bounds.{few_directions, few_returns}
use Rattle.history_pred.proofs.history.History.new.Goals as goal

pub invariant_of-result : goal.invariant_of-result
invariant_of-result c =
    let desc = c.args.desc.now in
    let some = desc.stands.counters.0 in (
      omega (arith, some),
      few_directions desc,
      few_returns desc,
      record { desc = desc; as_many_counters = refl; as_many_directions = refl; as_many_returns = refl },
    )
