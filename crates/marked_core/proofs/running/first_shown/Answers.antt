use Rattle.std.proofs.Common.{ap, ap₂, ◌∙◌, arith, refl}
use Rattle.elf_loader.specs.inner.Code.{word_at}
use Rattle.window_model.specs.Retire.{hart_of}
use Rattle.window_model.specs.Cycle.{Cycled, cycle}
use Rattle.machine_facts.proofs.FewEvents.{cycle_number}
use Rattle.secret_marks.specs.Shown.{shown_cycle}
use Rattle.secret_marks.specs.Streams.{public_in}
use Rattle.secret_marks.specs.Watch.{watch_cycle}
use Rattle.core_cycle.proofs.Going.{running_at}
use Rattle.marked_core.proofs.Looking.{count_is, counts_ended, counts_next, counts_over, ended_last, ended_none, looks_found, looks_next, watched_as}
use Rattle.marked_core.proofs.running.first_shown.Goals as goal

-- what shows in this cycle is what shows first in the run
pub returns-in-Some-clause-shown : goal.returns-in-Some-clause-shown
returns-in-Some-clause-shown g c =
    let y = c.loop.core in
    let running = running_at y.machine.end c.end.result c.is_some.result c.end.ensures c.is_some.ensures c.if-is_some.false in
    let number = c.cycles.ensures ∙ ap (λ (r : Cycled). r.machine.cycle) c.cycle.ensures.cycled ∙ cycle_number y.desc (word_at y.code) y.machine in
    looks_found _ _ _ _ c.loop.counter _ _ y.machine y.marks c.loop.invariant.looks c.loop-test.true running c.cycle.result
    (c.cycle.ensures.shown ∙ ap₂ (λ streams d. shown_cycle (public_in streams) d y.machine y.marks) c.loop.invariant.public c.loop.invariant.desc) c.in-Some.shown c.cycles.result c.in-Some.is number

-- the run stands one cycle further, in which nothing has shown
pub loop-preserved : goal.loop-preserved
loop-preserved g c =
    let y = c.loop.core in
    let running = running_at y.machine.end c.end.result c.is_some.result c.end.ensures c.is_some.ensures c.if-is_some.false in
    let cycled = c.cycle.ensures.cycled ∙ ap₂ (λ d code. cycle d (word_at code) y.machine) c.loop.invariant.desc c.loop.invariant.code in
    let marks = c.cycle.ensures.marks ∙ watched_as _ _ _ _ _ _ y.machine y.marks c.loop.invariant.public c.loop.invariant.desc c.loop.invariant.code in
    record {
      desc = c.cycle.ensures.desc ∙ c.loop.invariant.desc;
      code = c.cycle.ensures.code ∙ c.loop.invariant.code;
      public = c.cycle.ensures.public ∙ c.loop.invariant.public;
      looks = looks_next _ _ _ _ c.loop.counter _ _ y.machine y.marks c.loop.invariant.looks c.loop-test.true running c.cycle.result
          (c.cycle.ensures.shown ∙ ap₂ (λ streams d. shown_cycle (public_in streams) d y.machine y.marks) c.loop.invariant.public c.loop.invariant.desc) c.cycle.new.self.machine c.cycle.new.self.marks c.in_default.is
          (ap (λ (r : Cycled). r.machine) cycled) marks;
      counts = counts_next _ _ _ _ c.loop.counter _ y.machine c.loop.published c.loop.invariant.counts c.loop-test.true running c.cycle.new.self.machine (ap (λ (r : Cycled). r.machine) cycled)
          c.count_published.result
          (count_is _ _ (hart_of y.machine) _ _ _ _ c.count_published.ensures.value (c.public.ensures ∙ c.cycle.ensures.public ∙ c.loop.invariant.public) c.stream-stream.ensures
          (c.as_slice.ensures.value ∙ ap (λ (r : Cycled). r.piece) cycled))
          (omega (arith, c.count_published.ensures.most, c.as_slice.ensures.few)) _ refl;
    }

-- a run that has ended shows nothing more
pub returns-then-is_some-clause-shown : goal.returns-then-is_some-clause-shown
returns-then-is_some-clause-shown g c =
    ended_none _ _ _ _ c.loop.counter _ _ c.loop.core.machine c.loop.core.marks c.loop.invariant.looks c.end.result c.is_some.result c.end.ensures c.is_some.ensures c.if-is_some.true

pub returns-then-is_some-clause-machine : goal.returns-then-is_some-clause-machine
returns-then-is_some-clause-machine g c = λ z.
    ended_last _ _ _ _ c.loop.counter _ _ c.loop.core.machine c.loop.core.marks c.loop.invariant.looks c.end.result c.is_some.result c.end.ensures c.is_some.ensures c.if-is_some.true

-- nor does it publish anything more
pub returns-then-is_some-clause-published : goal.returns-then-is_some-clause-published
returns-then-is_some-clause-published g c = λ z.
    counts_ended _ _ _ _ c.loop.counter _ c.loop.core.machine c.loop.published c.loop.invariant.counts c.end.result _ c.end.ensures c.is_some.ensures c.if-is_some.true

-- where all cycles are over, all that they published is counted
pub returns-clause-published : goal.returns-clause-published
returns-clause-published g c = λ z. counts_over _ _ _ _ c.loop.counter _ c.loop.core.machine c.loop.published c.loop.invariant.counts c.loop-test.false
