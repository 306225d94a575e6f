use Rattle.std.proofs.Common.{◌∙◌, arith, refl}
use Rattle.path_marks.proofs.Looking.{count_is, left_exits, left_next, left_shows, left_traps}
use Rattle.path_marks.proofs.walking.first_shown.Goals as goal

pub returns-in-Some : goal.returns-in-Some
returns-in-Some c = left_shows _ _ _ _ _ c.loop-done.invariant.left c.loop-done-test.true _ _ c.in-Some.ensures c.pc.ensures

pub returns-in-Exit : goal.returns-in-Exit
returns-in-Exit c = left_exits _ _ _ _ _ c.loop-done.invariant.left c.loop-done-test.true c.in_default.ensures _ _ _ c.in-Exit.ensures.stepped

pub returns-in-Trap : goal.returns-in-Trap
returns-in-Trap c = left_traps _ _ _ _ _ c.loop-done.invariant.left c.loop-done-test.true c.in_default.ensures _ _ _ c.in-Trap.ensures.stepped _ c.pc-in-Trap.ensures

pub loop-done-preserved : goal.loop-done-preserved
loop-done-preserved c = record {
  left = left_next _ _ _ _ _ c.loop-done.invariant.left c.loop-done-test.true c.in_default.ensures c.step.new.self _ c.in-Next.ensures.stepped (c.in-Next.ensures.marks refl) c.in-Next.ensures.code c.in-Next.ensures.public
      c.count_published-published.result
      (count_is _ _ c.loop-done.path.hart _ _ _ _ c.count_published-published.ensures.value (c.public.ensures ∙ c.in-Next.ensures.public) c.stream-stream.ensures c.as_slice.ensures.value)
      (omega (arith, c.count_published-published.ensures.most, c.as_slice.ensures.few)) _ refl;
}
