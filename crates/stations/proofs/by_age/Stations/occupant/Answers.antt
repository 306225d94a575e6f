use Rattle.std.proofs.Common.{◌<◌, length, ap, subst, ◌≡◌, Some, arith}
use Rattle.std.specs.Prelude.{slice_get}
use Rattle.std.proofs.lemmas.List.{length-map}
use Rattle.stations.specs.Stations.{Stations}
use Rattle.stations.specs.Places.{station, station_in}
use Rattle.stations.proofs.Numbers.{taken_below}
use Rattle.stations.proofs.Reading.{entry_at}
use Rattle.stations.proofs.by_age.Stations.occupant.Goals as goal

pub index-requires : goal.index-requires
index-requires c =
    let held = ap (λ (v : Stations). length v.held) c.self.view_is in
    let long = length-map c.self.inside.ages.items (station_in c.self.inside.places.items) in
    let lt : c.args.i < length c.self.inside.ages.items = omega (arith, c.requires, held, long) in
    let below = taken_below _ _ _ c.self.invariant.0.once c.args.i c.index-place.result.now lt in
    omega (arith, below, c.index-place.ensures)

pub returns : goal.returns
returns c =
    let held = ap (λ (v : Stations). length v.held) c.self.view_is in
    let long = length-map c.self.inside.ages.items (station_in c.self.inside.places.items) in
    let lt : c.args.i < length c.self.inside.ages.items = omega (arith, c.requires, held, long) in
    let below = taken_below _ _ _ c.self.invariant.0.once c.args.i c.index-place.result.now lt in
    let here = entry_at c.self.inside.places.items c.self.inside.ages.items c.args.i c.index-place.result.now c.index.result.now lt c.index-place.ensures (omega (arith, below, c.index-place.ensures)) c.index.ensures in
    (c.index-place.result.now, subst (λ (v : Stations). slice_get v.held c.args.i ≡ Some (station c.index-place.result.now c.index.result.now)) c.self.view_is here)
