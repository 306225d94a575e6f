use Rattle.std.proofs.Common.{rules, sym, ◌∙◌, arith}
use Rattle.std.specs.Prelude.{nat_lt}
use Rattle.std.proofs.lemmas.List.Sorted.{IsPartitionPoint-from_clause}
use Rattle.lsq.proofs.Rising.{below_first, found_at, other_at, parted, past_all}
use Rattle.lsq.proofs.serials.find_rising.Goals as goal

pub returns-then-serial : goal.returns-then-serial
returns-then-serial g c =
    let first = c.serial.ensures in
    let below = c.if-serial.true in
    below_first g.T.Queued.serial c.args.serial c.index-items-0.result c.args.items.now c.requires c.index-items-0.is (omega (arith, first, below))

pub returns-then-place-items : goal.returns-then-place-items
returns-then-place-items g c =
    let t = IsPartitionPoint-from_clause (λ x. nat_lt (g.T.Queued.serial x) c.args.serial) c.args.items.now c.partition_point-place.result c.partition_point-place.ensures.partitioned
    (parted g.T.Queued.serial c.args.serial c.args.items.now c.requires) (λ a r f' k. search rules) in
    let past = c.if-place-items.true in
    past_all g.T.Queued.serial c.args.serial c.args.items.now c.partition_point-place.result c.requires t (omega (arith, past))

pub returns-then-serial-2 : goal.returns-then-serial-2
returns-then-serial-2 g c =
    let t = IsPartitionPoint-from_clause (λ x. nat_lt (g.T.Queued.serial x) c.args.serial) c.args.items.now c.partition_point-place.result c.partition_point-place.ensures.partitioned
    (parted g.T.Queued.serial c.args.serial c.args.items.now c.requires) (λ a r f' k. search rules) in
    let within = c.if-place-items.false in
    let is = c.serial-2.ensures in
    let n = c.if-serial-2.true in
    other_at g.T.Queued.serial c.args.serial c.args.items.now c.partition_point-place.result c.requires t c.index-items-place.result (omega (arith, within)) c.index-items-place.is (λ h. n (is ∙ h))

pub returns : goal.returns
returns g c =
    let within = c.if-place-items.false in
    let is = c.serial-2.ensures in
    let same = c.if-serial-2.false in
    found_at g.T.Queued.serial c.args.serial c.args.items.now c.partition_point-place.result c.index-items-place.result c.requires (omega (arith, within)) c.index-items-place.is (sym is ∙ same)
