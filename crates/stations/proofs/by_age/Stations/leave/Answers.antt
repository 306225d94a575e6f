use Rattle.std.proofs.Common.{◌<◌, ◌≡◌, length, ap, ap₂, ◌∙◌, arith, refl, Some, slice_get}
use Rattle.std.proofs.lemmas.Option.{slice_get_read}
use Rattle.word_bits.specs.Bits.{one_if}
use Rattle.std.proofs.lemmas.List.{length-map}
use Rattle.stations.specs.Stations.{Stations, left_wanting}
use Rattle.stations.specs.Places.{station_in}
use Rattle.stations.proofs.Leaving.{held_left, noted_left, placed_left, taken_differ}
use Rattle.stations.proofs.AbleMarks.{able_changed}
use Rattle.stations.proofs.Numbers.{taken_below}
use Rattle.stations.proofs.by_age.Stations.leave.Goals as goal

pub leave_at-able-requires : goal.leave_at-able-requires
leave_at-able-requires c =
    let held = ap (λ (v : Stations). length v.held) c.self.view_is in
    let long = length-map c.self.inside.ages.items (station_in c.self.inside.places.items) in
    let lt : c.args.i < length c.self.inside.ages.items = omega (arith, c.requires, held, long) in
    let below = taken_below _ _ _ c.self.invariant.0.once c.args.i c.index.result.now lt in
    omega (arith, below, c.index.ensures)

pub with_wide_bit-self-inside-requires : goal.with_wide_bit-self-inside-requires
with_wide_bit-self-inside-requires c =
    let held = ap (λ (v : Stations). length v.held) c.self.view_is in
    let long = length-map c.self.inside.ages.items (station_in c.self.inside.places.items) in
    let all = c.self.invariant.1 in
    let few = c.self.invariant.4 in
    omega (arith, c.requires, held, long, all, few)

pub invariant_of-self : goal.invariant_of-self
invariant_of-self c =
    let inside = c.self.invariant in
    let held = ap (λ (v : Stations). length v.held) c.self.view_is in
    let long = length-map c.self.inside.ages.items (station_in c.self.inside.places.items) in
    let lt : c.args.i < length c.self.inside.ages.items = omega (arith, c.requires, held, long) in
    let left = held_left _ _ _ _ c.leave_at-able.ensures.here c.leave_at-able.ensures.others c.self.inside.ages.items c.args.i (taken_differ _ _ _ inside.0.once) lt c.index.ensures in
    let as_long : length c.leave_at-able.new.places.items ≡ length c.self.inside.places.items = omega (arith, c.leave_at-able.ensures.len) in (
      placed_left c.args.i c.args.wants _ _ _ _ inside.0 as_long left,
      omega (arith, inside.1, c.leave_at-able.ensures.len),
      omega (arith, inside.2, c.leave_at-able.ensures.len),
      omega (arith, inside.3, c.leave_at-able.ensures.len),
      omega (arith, inside.4, c.leave_at-able.ensures.len),
      noted_left _ _ _ _ c.leave_at-able.ensures.here c.leave_at-able.ensures.others _ inside.5,
      let at : slice_get c.self.inside.ages.items c.args.i ≡ Some c.index.result.now = slice_get_read _ _ _ _ refl lt c.index.ensures in
          able_changed _ _ _ c.leave_at-able.ensures.others c.self.inside.ages.items c.args.i c.self.inside.able c.with_wide_bit-self-inside.result (taken_differ _ _ _ inside.0.once) at (c.with_wide_bit-self-inside.ensures.here ∙ ap one_if c.leave_at-able.ensures.able) c.with_wide_bit-self-inside.ensures.others inside.6,
    )

pub returns : goal.returns
returns c =
    let held = ap (λ (v : Stations). length v.held) c.self.view_is in
    let long = length-map c.self.inside.ages.items (station_in c.self.inside.places.items) in
    let lt : c.args.i < length c.self.inside.ages.items = omega (arith, c.requires, held, long) in
    ap₂ (λ h r. record { held = h; room = r })
    (held_left _ _ _ _ c.leave_at-able.ensures.here c.leave_at-able.ensures.others c.self.inside.ages.items c.args.i (taken_differ _ _ _ c.self.invariant.0.once) lt c.index.ensures ∙ ap (λ (v : Stations). left_wanting c.args.i c.args.wants v.held) c.self.view_is)
    (c.leave_at-able.ensures.len ∙ ap (λ (v : Stations). v.room) c.self.view_is)
