use Rattle.pair_run.proofs.Opening.{opened}
use Rattle.pair_run.proofs.pair.Pair.new.Goals as goal

pub invariant_of-result : goal.invariant_of-result
invariant_of-result g c =
    let starts = c.in_ok-starts.ensures in
    let cores = c.in_ok-cores.ensures in
    opened c.args.desc.now c.args.one c.args.two c.in_ok-starts.starts.one c.in_ok-starts.starts.two c.same-same_code.result c.in_ok-cores.cores.first c.in_ok-cores.cores.second
    c.in_ok-starts.starts.path (record { base = c.requires.base; size = c.requires.size }) (record { base = c.requires.base2; size = c.requires.size2 })
    c.same-same_code.ensures starts.one starts.two starts.path cores.first cores.second
