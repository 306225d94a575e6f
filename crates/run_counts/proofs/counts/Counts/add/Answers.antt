-- The numbers are added to those of the rows before.
use Rattle.std.proofs.Common.{◌≡◌, rules}
use Rattle.run_counts.specs.inner.Counting.{sums}
use Rattle.run_counts.proofs.Sums.{parts_counted}
use Rattle.run_counts.proofs.counts.Counts.add.Goals as goal

pub returns : goal.returns
returns c =
    let added : c.add_each.new.numbers ≡ sums c.args.self.now c.args.others.now = search rules in
    λ rows behind e f. parts_counted rows behind c.args.self.now c.args.others.now _ added e f
