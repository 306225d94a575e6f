use Rattle.std.proofs.Common.{ap, ◌∙◌, ◌++◌, drop, length}
use Rattle.std.specs.Prelude.{replicate}
use Rattle.history_pred.proofs.Placed.{placed}
use Rattle.history_pred.proofs.stack.with_stack.Goals as goal

pub returns : goal.returns
returns c =
    ap (λ places. record { history = c.args.checkpoint.now.history; depth = length c.args.addresses.now; addresses = places })
    (ap (λ front. front ++ drop (length c.args.addresses.now) (replicate 16 0)) c.copy_from_slice.ensures.after ∙ placed c.args.addresses.now c.requires)
