use Rattle.std.proofs.Common.{arith, lit<, ap, length}
use Rattle.cache_tags.proofs.Fewer.{fewer}
use Rattle.cache_tags.proofs.line_set.to_front.Goals as goal

pub insert-requires : goal.insert-requires
insert-requires c =
    let h = fewer c.args.line c.args.lines.now.items c.requires.here in
    let k = ap length c.take_out.ensures in
    (lit< tt, (omega arith, omega arith))

pub returns-clause-few : goal.returns-clause-few
returns-clause-few c =
    let h = fewer c.args.line c.args.lines.now.items c.requires.here in
    let k = ap length c.take_out.ensures in
    omega (arith, c.insert.ensures.len)
