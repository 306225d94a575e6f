-- The event is counted by the one before it.
use Rattle.std.proofs.Common.{◌∙◌, ap}
use Rattle.run_counts.specs.Counted.{names}
use Rattle.run_counts.specs.inner.Counting.{after_event, numbers_by}
use Rattle.slot_reasons.specs.inner.Walked.{event_at}
use Rattle.slot_reasons.proofs.walk.count_told.Goals as goal

pub returns-clause-counts : goal.returns-clause-counts
returns-clause-counts c =
    c.count_event.ensures.adds
    ∙ ap (λ b. numbers_by (λ name k. after_event name b (event_at c.args.place c.args.events.now) k) names c.args.counts.now) c.before_at-before.ensures
