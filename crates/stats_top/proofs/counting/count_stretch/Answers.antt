-- The numbers go on with each cycle.
use Rattle.std.proofs.Common.{◌≡◌, ◌≤◌, ◌+◌, ◌*◌, ◌^◌, ◌∙◌, ap₂, sym, subst, None, refl, arith}
use Rattle.run_counts.specs.inner.Counting.{AtMost}
use Rattle.run_counts.proofs.AtMost.{at_most_at_first, at_most_more}
use Rattle.stats_top.specs.Stats.{Numbers}
use Rattle.window_model.specs.Cycle.{cycle}
use Rattle.core_cycle.proofs.Going.{ended_at, running_at}
use Rattle.slot_reasons.specs.Slots.{charge_of, known_after}
use Rattle.stats_top.proofs.Tally.{none_counted, one_counted, counted_ended, counted_all, known_ended, known_all}
use Rattle.stats_top.proofs.counting.count_stretch.Goals as goal

pub loop-done-init : goal.loop-done-init
loop-done-init g c = record { desc = refl; code = refl; sound = c.requires.sound; counted = none_counted _ _ _ _ _ _ c.new-numbers.ensures; few = subst (λ (n : Numbers). AtMost 0 n.counts) (sym c.new-numbers.ensures) at_most_at_first }

pub see_cycle-requires-clause-counts : goal.see_cycle-requires-clause-counts
see_cycle-requires-clause-counts g c =
    let less = c.loop-done-test.true in
    let cycles = c.requires.few in
    let most : 256 * c.loop-done._done ≤ 2 ^ 62 = omega (arith, less, cycles) in
    at_most_more _ _ _ most c.loop-done.invariant.few

pub loop-done-preserved : goal.loop-done-preserved
loop-done-preserved g c =
    let core = c.loop-done.core.machine in
    let running : core.end ≡ None = running_at _ c.end.result c.is_some.result c.end.ensures c.is_some.ensures c.if-is_some.false in
    record {
      desc = c.see_cycle.ensures.desc ∙ c.loop-done.invariant.desc;
      code = c.see_cycle.ensures.code ∙ c.loop-done.invariant.code;
      sound = c.see_cycle.ensures.sound;
      counted = one_counted _ _ _ _ _ _ _ _ _ _ _ _ _ _ _ c.loop-done-test.true running
          (c.see_cycle.ensures.cycled ∙ ap₂ (λ d k. cycle d k core) c.loop-done.invariant.desc c.loop-done.invariant.code)
          (ap₂ (λ d k. charge_of d c.loop-done.carried.known core (cycle d k core)) c.loop-done.invariant.desc c.loop-done.invariant.code)
          (c.see_cycle.ensures.known ∙ ap₂ (λ d k. known_after d c.loop-done.carried.known core (cycle d k core)) c.loop-done.invariant.desc c.loop-done.invariant.code)
          c.see_cycle.ensures.counted c.loop-done.invariant.counted;
      few =
          let next : 256 * c.loop-done._done + 256 ≡ 256 * (c.loop-done._done + 1) = omega arith in
          subst (λ n. AtMost n c.see_cycle.new.numbers.counts) next (c.see_cycle.ensures.few _ c.loop-done.invariant.few);
    }

pub returns-then-is_some-clause-counted : goal.returns-then-is_some-clause-counted
returns-then-is_some-clause-counted g c =
    counted_ended _ _ _ _ _ _ _ _ _ (ended_at _ c.end.result c.is_some.result c.end.ensures c.is_some.ensures c.if-is_some.true) c.loop-done.invariant.counted

pub returns-then-is_some-clause-known : goal.returns-then-is_some-clause-known
returns-then-is_some-clause-known g c =
    known_ended _ _ _ _ _ _ _ _ _ (ended_at _ c.end.result c.is_some.result c.end.ensures c.is_some.ensures c.if-is_some.true) c.loop-done.invariant.counted

pub returns-clause-counted : goal.returns-clause-counted
returns-clause-counted g c = counted_all _ _ _ _ _ _ _ _ _ c.loop-done-test.false c.loop-done.invariant.counted

pub returns-clause-known : goal.returns-clause-known
returns-clause-known g c = known_all _ _ _ _ _ _ _ _ _ c.loop-done-test.false c.loop-done.invariant.counted
