use Rattle.std.proofs.Common.{◌≡◌, ◌∙◌, ap, ◌<◌, length, arith}
use Rattle.std.specs.Option.{option_or}
use Rattle.lsq.proofs.Wrong.{violated_next}
use Rattle.lsq.proofs.clearing.violated.Goals as goal

pub loop-load-preserved : goal.loop-load-preserved
loop-load-preserved c =
    let lt : c.loop-load.load-index < length c.args.loads.now = omega arith in
    let now : c.or-oldest.result ≡ option_or c.loop-load.oldest c.serial_if_violated.result = c.or-oldest.ensures in
    violated_next c.args.store.now c.args.loads.now c.loop-load.load-index c.load-item.result c.loop-load.oldest c.or-oldest.result lt c.load-item.is c.loop-load.invariant
    (now ∙ ap (option_or c.loop-load.oldest) c.serial_if_violated.ensures)
