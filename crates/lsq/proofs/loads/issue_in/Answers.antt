use Rattle.std.proofs.Common.{◌<◌, length, arith}
use Rattle.std.proofs.lemmas.List.Edits.{map_over_more}
use Rattle.lsq.specs.Queues.{issued_at}
use Rattle.lsq.proofs.loads.issue_in.Goals as goal

pub loop-load-preserved : goal.loop-load-preserved
loop-load-preserved c =
    let lt : c.loop-load.load-index < length c.args.loads.now = omega arith in
    let step = map_over_more (issued_at c.args.serial c.args.access) c.args.loads.now c.loop-load.loads c.loop-load.load-index c.load-item.result lt c.loop-load.invariant c.load-item.is in
    cc
