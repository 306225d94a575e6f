-- An event that tells no amount is counted without the event before it.
use Rattle.std.proofs.Common.{◌≡◌, ◌+◌, ◌∙◌, sym, false}
use Rattle.run_counts.specs.inner.Counting.{before_at, is_plain}
use Rattle.slot_reasons.specs.inner.Walked.{event_at}
use Rattle.slot_reasons.proofs.walk.count_at.Goals as goal

pub returns-else-not-count_plain-clause-counts : goal.returns-else-not-count_plain-clause-counts
returns-else-not-count_plain-clause-counts c =
    c.count_plain.ensures.counted (sym c.count_plain.ensures.plain ∙ c.if-not-count_plain.false) (before_at c.args.place c.args.events.now)

pub returns-then-not-count_plain-clause-few : goal.returns-then-not-count_plain-clause-few
returns-then-not-count_plain-clause-few c =
    let told : is_plain (event_at c.args.place c.args.events.now) ≡ false = sym c.count_plain.ensures.plain ∙ c.if-not-count_plain.true in
    λ most h. c.count_told.ensures.few told (most + 1) (c.count_plain.ensures.few most h)
