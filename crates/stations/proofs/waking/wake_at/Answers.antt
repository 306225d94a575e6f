use Rattle.std.proofs.Common.{◌≡◌, ◌<◌, ◌≤◌, ◌%◌, length, get_or, ap, sym, ◌∙◌, false, arith}
use Rattle.std.proofs.lemmas.List.{get_or_default, get_or-set_same}
use Rattle.std.proofs.Math.ListN.{length-set}
use Rattle.stations.specs.Places.{awaits_in, nobody, after_wakeup}
use Rattle.stations.proofs.Awaited.{noted_out, noted_woken}
use Rattle.stations.proofs.waking.wake_at.Goals as goal

pub returns-then-not-awaits_in-clause-noted : goal.returns-then-not-awaits_in-clause-noted
returns-then-not-awaits_in-clause-noted c =
    let places = c.args.places.now.items in
    let within : c.args.place < length places = omega (arith, c.requires.within, c.args.places.now.ok.0) in
    let woke : c.wake.new.self ≡ after_wakeup c.args.serial (get_or places c.args.place nobody) =
    c.wake.ensures ∙ ap (after_wakeup c.args.serial) (c.index_mut.ensures.value ∙ get_or_default places c.args.place _ nobody within) in
    let now : c.index.result.now ≡ c.wake.new.self = c.index.ensures ∙ get_or-set_same places c.args.place c.wake.new.self _ within in
    let none : awaits_in (c.args.serial % 256) c.wake.new.self ≡ false =
    sym (c.awaits_in.ensures ∙ ap (awaits_in (c.args.serial % 256)) now) ∙ c.if-not-awaits_in.true in
    let few : length places ≤ 128 = omega (arith, c.requires.few, c.args.places.now.ok.0) in
    let long : length c.args.waiters.now ≡ 256 = simp length-set at c.with_wide_bit.array_long in
    noted_out c.args.serial places c.args.place c.wake.new.self within woke c.args.waiters.now (c.args.serial % 256)
    c.with_wide_bit.result (omega (arith, long)) few none c.with_wide_bit.ensures.others c.requires.noted

pub returns-else-not-awaits_in-clause-noted : goal.returns-else-not-awaits_in-clause-noted
returns-else-not-awaits_in-clause-noted c =
    let places = c.args.places.now.items in
    let within : c.args.place < length places = omega (arith, c.requires.within, c.args.places.now.ok.0) in
    let woke : c.wake.new.self ≡ after_wakeup c.args.serial (get_or places c.args.place nobody) =
    c.wake.ensures ∙ ap (after_wakeup c.args.serial) (c.index_mut.ensures.value ∙ get_or_default places c.args.place _ nobody within) in
    noted_woken c.args.serial places c.args.place c.wake.new.self within woke c.args.waiters.now c.requires.noted
