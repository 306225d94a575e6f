use Rattle.std.proofs.Common.{◌≢◌, ◌<◌, ◌≤◌, length, ap, arith, subst}
use Rattle.std.specs.List.{All, AllPairs}
use Rattle.std.proofs.lemmas.List.{length-map}
use Rattle.stations.specs.Stations.{Stations}
use Rattle.stations.specs.Places.{station_in}
use Rattle.stations.proofs.Numbers.{taken_below}
use Rattle.stations.proofs.Reading.{places_below, places_differ}
use Rattle.stations.proofs.by_age.Stations.place.Goals as goal

pub returns-clause-below : goal.returns-clause-below
returns-clause-below c =
    let held = ap (λ (v : Stations). length v.held) c.self.view_is in
    let room = ap (λ (v : Stations). v.room) c.self.view_is in
    let long = length-map c.self.inside.ages.items (station_in c.self.inside.places.items) in
    let lt : c.args.i < length c.self.inside.ages.items = omega (arith, c.requires, held, long) in
    let below = taken_below _ _ _ c.self.invariant.0.once c.args.i c.index.result.now lt in
    omega (arith, below, c.index.ensures, room)

pub returns-clause-differ : goal.returns-clause-differ
returns-clause-differ c = subst (λ (v : Stations). AllPairs (λ a b. a.place ≢ b.place) v.held) c.self.view_is (places_differ c.self.inside.places.items c.self.inside.ages.items c.self.inside.free.items c.self.invariant.0)

pub returns-clause-few : goal.returns-clause-few
returns-clause-few c =
    let few = c.self.invariant.4 in
    let small : length c.self.inside.places.items ≤ 96 = omega (arith, few) in
    subst (λ (v : Stations). All (λ s. s.place < 96) v.held) c.self.view_is (places_below c.self.inside.places.items c.self.inside.ages.items (taken_below _ _ _ c.self.invariant.0.once) small)
