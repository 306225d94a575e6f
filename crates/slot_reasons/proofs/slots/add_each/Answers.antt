-- The numbers are added place by place.
use Rattle.run_counts.specs.Counted.{as_told}
use Rattle.slot_reasons.proofs.Counting.{next_added, all_added}
use Rattle.slot_reasons.proofs.slots.add_each.Goals as goal

pub loop-place-preserved : goal.loop-place-preserved
unfolding as_told
loop-place-preserved c =
    next_added c.args.numbers.now c.args.others.now c.loop-place.numbers c.loop-place.place c.saturating_add.result c.loop-place-test.true c.told-numbers c.told-others c.loop-place.invariant
    c.saturating_add.ensures

pub returns : goal.returns
returns c = all_added c.args.numbers.now c.args.others.now c.loop-place.numbers c.loop-place.place c.loop-place-test.false c.told-numbers c.told-others c.loop-place.invariant
