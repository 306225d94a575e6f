use Rattle.std.proofs.Common.{◌<◌, ◌++◌, ◌∷◌, [], length, ap, ap₂, sym, ◌∙◌, arith, subst}
use Rattle.std.specs.Prelude.{IsPermutation}
use Rattle.std.specs.List.{All, range_with_len}
use Rattle.stations.specs.Stations.{Station, Stations}
use Rattle.word_bits.specs.Bits.{one_if}
use Rattle.stations.specs.Places.{NotesAble, held_of, station, station_in}
use Rattle.std.proofs.lemmas.List.{length-map, length-set}
use Rattle.stations.proofs.Awaited.{noted_push}
use Rattle.stations.proofs.AbleMarks.{able_push}
use Rattle.stations.proofs.Numbers.{below}
use Rattle.stations.proofs.Placing.{new_station, held_push, placed_push}
use Rattle.stations.proofs.by_age.Stations.insert.Goals as goal

pub note_waiter-requires : goal.note_waiter-requires
note_waiter-requires c =
    let once = subst (λ free. IsPermutation (range_with_len 0 (length c.self.inside.places.items)) (c.self.inside.ages.items ++ free)) c.take_free-place.ensures.items c.self.invariant.0.once in
    let lt = below _ _ _ _ once in
    let few = c.self.invariant.4 in
    omega (arith, lt, few)

pub with_wide_bit-self-inside-requires : goal.with_wide_bit-self-inside-requires
with_wide_bit-self-inside-requires c =
    let held = ap (λ (v : Stations). length v.held) c.self.view_is in
    let room = ap (λ (v : Stations). v.room) c.self.view_is in
    let long = length-map c.self.inside.ages.items (station_in c.self.inside.places.items) in
    let few = c.self.invariant.4 in
    omega (arith, c.len-position.ensures, c.requires.room, held, room, long, few)

pub index_mut-requires : goal.index_mut-requires
index_mut-requires c =
    let once = subst (λ free. IsPermutation (range_with_len 0 (length c.self.inside.places.items)) (c.self.inside.ages.items ++ free)) c.take_free-place.ensures.items c.self.invariant.0.once in
    let lt = below _ _ _ _ once in
    omega (arith, lt)

pub invariant_of-self : goal.invariant_of-self
invariant_of-self c =
    let inside = c.self.invariant in
    let once = subst (λ free. IsPermutation (range_with_len 0 (length c.self.inside.places.items)) (c.self.inside.ages.items ++ free)) c.take_free-place.ensures.items inside.0.once in
    let lt = below _ _ _ _ once in
    let youngest = subst (λ (v : Stations). All (λ s. s.serial < c.args.serial) v.held) (sym c.self.view_is) c.requires.youngest in
    let youngest2 = subst (λ serial. All (λ (s : Station). s.serial < serial) (held_of c.self.inside.places.items c.self.inside.ages.items)) (sym c.new-occupant.ensures.serial) youngest in (
      rw c.push_within.ensures.items (placed_push c.self.inside.places.items c.self.inside.ages.items c.self.inside.free.items c.take_free-place.new.free.items c.take_free-place.result c.new-occupant.result inside.0 c.take_free-place.ensures.items youngest2),
      omega (arith, inside.1, c.take_free-place.ensures.len, c.push_within.ensures.len),
      omega (arith, inside.2, c.push_within.ensures.capacity),
      omega (arith, inside.3, c.take_free-place.ensures.capacity),
      let long = length-set c.self.inside.places.items c.take_free-place.result c.new-occupant.result in omega (arith, inside.4, long),
      noted_push _ _ _ _ _ lt (omega (arith, inside.4)) inside.5 c.note_waiter.ensures.here c.note_waiter.ensures.others,
      let long = length-map c.self.inside.ages.items (station_in c.self.inside.places.items) in
          let pushed = ap (held_of _) c.push_within.ensures.items
          ∙ held_push c.self.inside.places.items c.self.inside.ages.items c.self.inside.free.items c.take_free-place.new.free.items c.take_free-place.result c.new-occupant.result inside.0 c.take_free-place.ensures.items in
          subst (λ held. NotesAble held c.with_wide_bit-self-inside.result) (sym pushed)
          (able_push (held_of c.self.inside.places.items c.self.inside.ages.items) (station c.take_free-place.result c.new-occupant.result) c.len-position.result c.self.inside.able c.with_wide_bit-self-inside.result (omega (arith, c.len-position.ensures, long)) (c.with_wide_bit-self-inside.ensures.here ∙ ap one_if c.is_able.ensures) c.with_wide_bit-self-inside.ensures.others inside.6),
    )

pub returns : goal.returns
returns c = (
  c.take_free-place.result,
  ap₂ (λ h r. record { held = h; room = r })
      (ap (held_of _) c.push_within.ensures.items
      ∙ held_push c.self.inside.places.items c.self.inside.ages.items c.self.inside.free.items c.take_free-place.new.free.items c.take_free-place.result c.new-occupant.result c.self.invariant.0 c.take_free-place.ensures.items
      ∙ ap₂ (λ (v : Stations) s. v.held ++ s ∷ []) c.self.view_is (new_station c.take_free-place.result c.new-occupant.result _ _ _ c.new-occupant.ensures.serial c.new-occupant.ensures.wants c.new-occupant.ensures.awaits))
      (ap (λ (v : Stations). v.room) c.self.view_is),
)
