use Rattle.std.proofs.Common.{length, ap, arith, subst}
use Rattle.std.proofs.lemmas.List.{length-map}
use Rattle.stations.specs.Stations.{NextAble, Stations}
use Rattle.stations.specs.Places.{held_of, station_in}
use Rattle.stations.proofs.AbleMarks.{next_few, next_told}
use Rattle.stations.proofs.by_age.Stations.next_able.Goals as goal

pub next_wide_bit-requires : goal.next_wide_bit-requires
next_wide_bit-requires c =
    let held = ap (λ (v : Stations). length v.held) c.self.view_is in
    let long = length-map c.self.inside.ages.items (station_in c.self.inside.places.items) in
    let all = c.self.invariant.1 in
    let few = c.self.invariant.4 in
    omega (arith, c.requires, held, long, all, few)

pub returns-clause-next : goal.returns-clause-next
returns-clause-next c =
    let long = length-map c.self.inside.ages.items (station_in c.self.inside.places.items) in
    let all = c.self.invariant.1 in
    let few = c.self.invariant.4 in
    subst (λ (v : Stations). NextAble v.held c.args.from c.next_wide_bit.result) c.self.view_is
    (next_told (held_of c.self.inside.places.items c.self.inside.ages.items) c.self.inside.able c.args.from c.next_wide_bit.result (omega (arith, long, all, few)) c.self.invariant.6 c.next_wide_bit.ensures)

pub returns-clause-few : goal.returns-clause-few
returns-clause-few c =
    let long = length-map c.self.inside.ages.items (station_in c.self.inside.places.items) in
    let all = c.self.invariant.1 in
    let few = c.self.invariant.4 in
    next_few (held_of c.self.inside.places.items c.self.inside.ages.items) c.self.inside.able c.args.from c.next_wide_bit.result (omega (arith, long, all, few)) c.self.invariant.6 c.next_wide_bit.ensures
