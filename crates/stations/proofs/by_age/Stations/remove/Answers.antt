use Rattle.std.proofs.Common.{length, ap, ap₂, sym, subst, ◌∙◌, arith}
use Rattle.std.specs.List.{remove}
use Rattle.std.proofs.lemmas.List.{length-map}
use Rattle.stations.specs.Stations.{Stations}
use Rattle.stations.specs.Places.{NotesAble, held_of, station_in}
use Rattle.stations.proofs.MarkGone.{able_remove}
use Rattle.stations.proofs.Placing.{placed_remove, held_remove}
use Rattle.stations.proofs.by_age.Stations.remove.Goals as goal

pub without_mark-self-inside-requires : goal.without_mark-self-inside-requires
without_mark-self-inside-requires c =
    let held = ap (λ (v : Stations). length v.held) c.self.view_is in
    let long = length-map c.self.inside.ages.items (station_in c.self.inside.places.items) in
    let all = c.self.invariant.1 in
    let few = c.self.invariant.4 in
    omega (arith, c.requires, held, long, all, few)

pub invariant_of-self : goal.invariant_of-self
invariant_of-self c =
    let inside = c.self.invariant in
    let held = ap (λ (v : Stations). length v.held) c.self.view_is in
    let long = length-map c.self.inside.ages.items (station_in c.self.inside.places.items) in (
      placed_remove _ _ _ _ _ _ _ inside.0 (omega (arith, c.requires, held, long)) c.remove-place.ensures.value c.remove-place.ensures.items c.push_within.ensures.items,
      omega (arith, inside.1, c.remove-place.ensures.len, c.push_within.ensures.len),
      omega (arith, inside.2, c.remove-place.ensures.capacity),
      omega (arith, inside.3, c.push_within.ensures.capacity),
      inside.4,
      inside.5,
      let left = ap (held_of c.self.inside.places.items) c.remove-place.ensures.items ∙ held_remove c.self.inside.places.items c.self.inside.ages.items c.args.i in
          subst (λ held. NotesAble held c.without_mark-self-inside.result) (sym left)
          (able_remove (held_of c.self.inside.places.items c.self.inside.ages.items) c.args.i c.self.inside.able c.without_mark-self-inside.result (omega (arith, c.requires, held)) (omega (arith, long, inside.1, inside.4)) c.without_mark-self-inside.ensures.older c.without_mark-self-inside.ensures.younger c.without_mark-self-inside.ensures.last inside.6),
    )

pub returns : goal.returns
returns c =
    ap₂ (λ h r. record { held = h; room = r })
    (ap (held_of c.self.inside.places.items) c.remove-place.ensures.items ∙ held_remove c.self.inside.places.items c.self.inside.ages.items c.args.i ∙ ap (λ (v : Stations). remove v.held c.args.i) c.self.view_is)
    (ap (λ (v : Stations). v.room) c.self.view_is)
