-- One is added to the number of the event's name, and an amount that it tells to a further one.
use Rattle.run_counts.proofs.Events.{added_once, added_twice}
use Rattle.run_counts.proofs.counts.count_event.Goals as goal

pub returns-in-Some-clause-adds : goal.returns-in-Some-clause-adds
returns-in-Some-clause-adds c =
    let f = c.in-Some.ensures.at in
    added_twice c.args.before c.args.event _ _ _ f.0 c.in-Some.n (c.add_at.ensures.adds _ c.place_of.ensures.at) (c.add_at-in-Some.ensures.adds f.0 f.2) f.1

pub returns-in-Some-clause-few : goal.returns-in-Some-clause-few
returns-in-Some-clause-few c = λ p most h. c.add_at-in-Some.ensures.few c.in-Some.ensures.told most (c.add_at.ensures.few (c.place_of.ensures.told p) most h)

pub returns-in_default-clause-adds : goal.returns-in_default-clause-adds
returns-in_default-clause-adds c = added_once c.args.before c.args.event _ _ (c.add_at.ensures.adds _ c.place_of.ensures.at) c.in_default.ensures.at

pub returns-in_default-clause-few : goal.returns-in_default-clause-few
returns-in_default-clause-few c = λ p most h. c.add_at.ensures.few (c.place_of.ensures.told p) most h
