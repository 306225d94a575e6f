use Rattle.std.proofs.Common.{◌≡◌, length, ap, ap₂, ◌∙◌, arith}
use Rattle.std.specs.Prelude.{map}
use Rattle.stations.specs.Stations.{Stations, struck}
use Rattle.stations.proofs.Leaving.{taken_differ}
use Rattle.stations.proofs.Placing.{held_woken, placed_woken}
use Rattle.stations.proofs.by_age.Stations.wake.Goals as goal

pub wake_all-requires-clause-few : goal.wake_all-requires-clause-few
wake_all-requires-clause-few c = let few = c.self.invariant.4 in omega (arith, few)

pub wake_all-requires-clause-noted : goal.wake_all-requires-clause-noted
wake_all-requires-clause-noted c = c.self.invariant.5

pub wake_all-requires-clause-no_more : goal.wake_all-requires-clause-no_more
wake_all-requires-clause-no_more c =
    let all = c.self.invariant.1 in
    let few = c.self.invariant.4 in
    omega (arith, all, few)

pub wake_all-requires-clause-differ : goal.wake_all-requires-clause-differ
wake_all-requires-clause-differ c = taken_differ _ _ _ c.self.invariant.0.once

pub wake_all-requires-clause-able : goal.wake_all-requires-clause-able
wake_all-requires-clause-able c = c.self.invariant.6

pub invariant_of-self : goal.invariant_of-self
invariant_of-self c =
    let inside = c.self.invariant in
    let held = held_woken c.args.serial c.self.inside.places.items c.wake_all.new.places.items c.wake_all.ensures.woken c.self.inside.ages.items in
    let long : length c.wake_all.new.places.items ≡ length c.self.inside.places.items = omega (arith, c.wake_all.ensures.len) in (
      placed_woken c.args.serial _ _ _ _ inside.0 long held,
      omega (arith, inside.1, c.wake_all.ensures.len),
      omega (arith, inside.2, c.wake_all.ensures.len),
      omega (arith, inside.3, c.wake_all.ensures.len),
      omega (arith, inside.4, c.wake_all.ensures.len),
      c.wake_all.ensures.noted,
      c.wake_all.ensures.able,
    )

pub returns : goal.returns
returns c =
    ap₂ (λ h r. record { held = h; room = r })
    (held_woken c.args.serial c.self.inside.places.items c.wake_all.new.places.items c.wake_all.ensures.woken c.self.inside.ages.items ∙ ap (λ (v : Stations). map (struck c.args.serial) v.held) c.self.view_is)
    (c.wake_all.ensures.len ∙ ap (λ (v : Stations). v.room) c.self.view_is)
