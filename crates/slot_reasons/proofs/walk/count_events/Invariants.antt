-- What the events that are left make of the numbers and of what is known so far, all make of those before.
use Rattle.std.proofs.Common.{◌≡◌, ◌≤◌, ℕ, ◌+◌, None, false, drop, length}
use Rattle.run_counts.specs.Counted.{names}
use Rattle.run_counts.specs.inner.Counting.{AtMost, after_events, before_at, numbers_by}
use Rattle.slot_reasons.specs.inner.Walked.{has_bit}
use Rattle.slot_reasons.specs.Reasons.{walk}
use Rattle.slot_reasons.proofs.walk.count_events.Given as goal

abbrev pub invariant-loop-place : goal.invariant-loop-place
invariant-loop-place l = record {
  counted : numbers_by (λ name k. after_events name (before_at l.place l.events) (drop l.place l.events) k) names l.counts ≡ numbers_by (λ name k. after_events name None l.events k) names l.initial.counts;
  long : length l.initial.counts ≡ 35 → length l.counts ≡ 35;
  known : walk (has_bit (before_at l.place l.events)) (drop l.place l.events) l.known ≡ walk false l.events l.fn.first;
  few : (most : ℕ) → AtMost most l.initial.counts → AtMost (most + l.place) l.counts;
  within : l.place ≤ length l.events;
}
