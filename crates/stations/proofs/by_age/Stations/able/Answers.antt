use Rattle.std.proofs.Common.{◌≡◌, length, ap, arith, subst, Some}
use Rattle.std.specs.Prelude.{slice_get}
use Rattle.std.specs.Option.{option_map}
use Rattle.std.proofs.lemmas.List.{length-map}
use Rattle.stations.specs.Stations.{Stations, is_able}
use Rattle.stations.specs.Places.{held_of, station_in}
use Rattle.stations.proofs.AbleMarks.{able_told}
use Rattle.stations.proofs.by_age.Stations.able.Goals as goal

pub has_wide_bit-requires : goal.has_wide_bit-requires
has_wide_bit-requires c =
    let held = ap (λ (v : Stations). length v.held) c.self.view_is in
    let long = length-map c.self.inside.ages.items (station_in c.self.inside.places.items) in
    let all = c.self.invariant.1 in
    let few = c.self.invariant.4 in
    omega (arith, c.requires, held, long, all, few)

pub returns : goal.returns
returns c =
    let held = ap (λ (v : Stations). length v.held) c.self.view_is in
    let long = length-map c.self.inside.ages.items (station_in c.self.inside.places.items) in
    let all = c.self.invariant.1 in
    let few = c.self.invariant.4 in
    subst (λ (v : Stations). option_map is_able (slice_get v.held c.args.i) ≡ Some c.has_wide_bit.result) c.self.view_is
    (able_told (held_of c.self.inside.places.items c.self.inside.ages.items) c.args.i c.self.inside.able c.has_wide_bit.result (omega (arith, c.requires, held)) (omega (arith, c.requires, held, long, all, few)) c.self.invariant.6 c.has_wide_bit.ensures)
