-- One is added to the number that the event names.
use Rattle.std.proofs.Common.{◌≡◌, ◌<◌, ◌-◌, ◌≤◌, ◌^◌, ◌∙◌, ap, None, rules, arith, get_or, subst, sym}
use Rattle.run_counts.specs.Counted.{names, name_of}
use Rattle.run_counts.specs.inner.Counting.{number_with, numbers_by}
use Rattle.run_counts.proofs.Plain.{plain_added}
use Rattle.run_counts.proofs.counts.Counts.count_plain.Goals as goal

pub add_one-requires-clause-less : goal.add_one-requires-clause-less
add_one-requires-clause-less c =
    let same : c.self.inside.numbers ≡ c.args.self.now = search rules in
    let few : get_or c.args.self.now c.in-Some.place 0 ≤ 2 ^ 63 = c.requires.few.each c.in-Some.place c.in-Some.ensures.plain in
    let less : get_or c.args.self.now c.in-Some.place 0 < 2 ^ 64 - 1 = omega (arith, few) in
    subst (λ ks. get_or ks c.in-Some.place 0 < 2 ^ 64 - 1) (sym same) less

pub returns-in-Some-clause-counted : goal.returns-in-Some-clause-counted
returns-in-Some-clause-counted c =
    let same : c.self.inside.numbers ≡ c.args.self.now = search rules in
    λ p before. plain_added before c.args.event.now _ _ p
    (c.add_one.ensures.adds _ c.in-Some.ensures.at.1 ∙ ap (numbers_by (λ name k. number_with name (name_of None c.args.event.now) 1 k) names) same)
