use Rattle.std.proofs.Common.{◌<◌, length, arith}
use Rattle.std.proofs.lemmas.List.Edits.{map_over_more}
use Rattle.lsq.specs.Queues.{cleared_at}
use Rattle.lsq.proofs.queues.clear_in.Goals as goal

pub loop-store-preserved : goal.loop-store-preserved
loop-store-preserved c =
    let lt : c.loop-store.store-index < length c.args.stores.now = omega arith in
    let step = map_over_more (cleared_at c.args.serial) c.args.stores.now c.loop-store.stores c.loop-store.store-index c.store-item.result lt c.loop-store.invariant c.store-item.is in
    cc
