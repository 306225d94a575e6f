use Rattle.std.proofs.Common.{arith, ap, get_or, refl, ◌∙◌}
use Rattle.std.specs.Int.{bit_at}
use Rattle.std.proofs.lemmas.Nat.Bits.{bit_at-zero}
use Rattle.stations.specs.Places.{able_in, nobody}
use Rattle.stations.proofs.Awaited.{woken_one, woken_rest}
use Rattle.stations.proofs.AbleMarks.{able_but, able_still}
use Rattle.stations.proofs.waking.wake_all.Goals as goal

pub returns-then-waiters-group-eq0-clause-woken : goal.returns-then-waiters-group-eq0-clause-woken
returns-then-waiters-group-eq0-clause-woken c =
    woken_rest c.args.serial c.args.places.now.items c.args.places.now.items c.args.waiters.now 0 c.len-room.result (omega (arith, c.len-room.ensures)) c.requires.noted (λ p lt. absurd (omega (arith, lt))) (λ p low. refl)
    (λ p low high. ap (λ w. bit_at w p) c.if-waiters-group-eq0.true ∙ bit_at-zero p)

pub loop-place-preserved : goal.loop-place-preserved
loop-place-preserved c =
    let at = c.loop-place.invariant in
    let next = c.in-Some.ensures in
    let high = next.high in
    let low = next.low in
    record {
      woken = woken_one c.args.serial _ _ _ _ _ (omega (arith, c.len-room.ensures, at.len)) at.noted at.woken at.rest _ _ next c.wake_at.ensures.here c.wake_at.ensures.others;
      rest = λ p past. c.wake_at.ensures.others p (λ q. absurd (omega (arith, q, past))) ∙ at.rest p (omega (arith, past, low));
      len = omega (arith, c.wake_at.ensures.len, at.len);
      noted = c.wake_at.ensures.noted;
      able = c.mark_able.ensures;
      within = omega (arith, high, c.wake_at.ensures.len, c.len-room.ensures, at.len);
    }

pub returns-clause-woken : goal.returns-clause-woken
returns-clause-woken c =
    let at = c.loop-place.invariant in
    woken_rest c.args.serial _ _ _ _ _ (omega (arith, c.len-room.ensures, at.len)) at.noted at.woken at.rest c.in_default.ensures

pub mark_able-requires-clause-noted : goal.mark_able-requires-clause-noted
mark_able-requires-clause-noted c =
    let at = c.loop-place.invariant in
    able_but _ _ _ c.wake_at.ensures.others _ _ (λ h. ap able_in c.wake_at.ensures.here ∙ able_still c.args.serial (get_or c.loop-place.places.items c.in-Some.place nobody) h) at.able
