use Rattle.std.proofs.Common.{arith, ap, ◌∙◌, ◌≤◌, ◌+◌, ◌-◌, ◌≡◌}
use Rattle.std.specs.Int.{bit_at}
use Rattle.std.proofs.lemmas.Nat.Bits.{bit_at_cat_low, bit_at_cat_high}
use Rattle.word_bits.proofs.wide.joined.Goals as goal

pub returns-clause-low : goal.returns-clause-low
returns-clause-low c b lt = bit_at_cat_low c.args.high 64 c.args.low b lt

pub returns-clause-high : goal.returns-clause-high
returns-clause-high c b =
    let past : 64 ≤ 64 + b = omega arith in
    let is : 64 + b - 64 ≡ b = omega arith in
    bit_at_cat_high c.args.high 64 c.args.low (64 + b) c.ranges.low.fits past ∙ ap (bit_at c.args.high) is
