-- One more is no more than 64 bits hold.
use Rattle.std.proofs.Common.{◌≡◌, ◌+◌, ◌∙◌, ap, set, get_or, arith}
use Rattle.run_counts.specs.Counted.{as_told}
use Rattle.run_counts.proofs.AtMost.{at_most_one_more}
use Rattle.run_counts.proofs.Distinct.{number_set}
use Rattle.run_counts.proofs.counts.add_one.Goals as goal

pub returns-clause-adds : goal.returns-clause-adds
unfolding as_told
returns-clause-adds c =
    let ks = c.args.numbers.now in
    let less = c.requires.less in
    let same : get_or ks c.args.place 0 + 1 ≡ as_told (get_or ks c.args.place 0 + 1) = omega (arith, less) in
    λ at s. ap (set ks c.args.place) same ∙ number_set ks c.args.place at 1 c.told-numbers s

pub returns-clause-few : goal.returns-clause-few
returns-clause-few c = λ most h. at_most_one_more most c.args.numbers.now c.args.place h
