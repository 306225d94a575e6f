-- The numbers are added to those of the cycles before.
use Rattle.std.proofs.Common.{◌≡◌, rules}
use Rattle.run_counts.specs.inner.Counting.{sums}
use Rattle.slot_reasons.proofs.Counting.{parts_counted}
use Rattle.slot_reasons.proofs.slots.Slots.add.Goals as goal

pub returns : goal.returns
returns c =
    let added : c.add_each.new.numbers ≡ sums c.args.self.now c.args.others.now = search rules in
    λ cs behind e f. parts_counted cs behind c.args.self.now c.args.others.now _ added e f
