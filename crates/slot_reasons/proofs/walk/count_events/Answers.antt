-- What is counted and known behind an event is what the next events go on from.
use Rattle.std.proofs.Common.{◌≡◌, ◌+◌, ◌≤◌, ◌^◌, ◌∙◌, subst, arith}
use Rattle.run_counts.specs.inner.Counting.{AtMost}
use Rattle.run_counts.proofs.AtMost.{at_most_more}
use Rattle.slot_reasons.proofs.Events.{next_counted, next_many, next_walked, row_walked}
use Rattle.slot_reasons.proofs.walk.count_events.Goals as goal

pub loop-place-preserved : goal.loop-place-preserved
loop-place-preserved c = record {
  counted = next_counted _ c.loop-place.place _ _ _ c.loop-place-test.true c.count_at.ensures.counts ∙ c.loop-place.invariant.counted;
  long = λ n. next_many _ c.loop-place.place _ _ _ c.loop-place-test.true c.count_at.ensures.counts (c.loop-place.invariant.long n);
  known = next_walked _ c.loop-place.place _ _ _ c.loop-place-test.true c.count_at.ensures.known ∙ c.loop-place.invariant.known;
  few = λ most h. let sum : (most + c.loop-place.place) + 1 ≡ most + (c.loop-place.place + 1) = omega arith in subst (λ n. AtMost n c.count_at.new.counts) sum (c.count_at.ensures.few _ (c.loop-place.invariant.few most h));
  within = let less = c.loop-place-test.true in omega (arith, less);
}

pub count_at-requires-clause-few : goal.count_at-requires-clause-few
count_at-requires-clause-few c =
    let less = c.loop-place-test.true in
    let room = c.events-events.ensures.few in
    let most : 2 ^ 62 + c.loop-place.place ≤ 2 ^ 63 = omega (arith, less, room) in
    at_most_more _ _ _ most (c.loop-place.invariant.few _ c.requires.few)

pub returns-clause-counts : goal.returns-clause-counts
returns-clause-counts c =
    λ rows e. row_walked rows c.args.row.now c.events-events.result.now c.loop-place.place c.args.counts.now _ c.loop-place-test.false c.events-events.ensures.value c.loop-place.invariant.counted
    c.loop-place.invariant.long e

pub returns-clause-few : goal.returns-clause-few
returns-clause-few c = λ most h.
    let many = c.loop-place.invariant.within in
    let room = c.events-events.ensures.few in
    let less : most + c.loop-place.place ≤ most + 256 = omega (arith, many, room) in
    at_most_more _ _ _ less (c.loop-place.invariant.few most h)
