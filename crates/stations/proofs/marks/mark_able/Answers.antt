use Rattle.std.proofs.Common.{◌≡◌, ◌∙◌, sym, ap, arith, true, get_or, length, ◌<◌}
use Rattle.std.proofs.lemmas.List.{get_or_default}
use Rattle.std.proofs.lemmas.Option.{slice_get_within}
use Rattle.stations.specs.Places.{able_in, nobody}
use Rattle.stations.proofs.AbleMarks.{mark_at, mark_none, mark_nowhere}
use Rattle.stations.proofs.marks.mark_able.Goals as goal

pub returns-then-not-is_able : goal.returns-then-not-is_able
returns-then-not-is_able c =
    let within : c.args.place < length c.args.places.now.items = omega (arith, c.requires.within, c.args.places.now.ok.0) in
    mark_none _ _ _ _ c.requires.noted
    (ap able_in (get_or_default c.args.places.now.items c.args.place nobody c.index-occupant.result.now within ∙ sym c.index-occupant.ensures) ∙ sym c.is_able.ensures ∙ c.if-not-is_able.true)

pub with_wide_bit-requires : goal.with_wide_bit-requires
with_wide_bit-requires c =
    let within = slice_get_within c.args.ages.now.items c.in-Some.position c.args.place c.in-Some.ensures in
    omega (arith, within, c.requires.few, c.args.ages.now.ok.0)

pub returns-in-Some : goal.returns-in-Some
returns-in-Some c =
    let within : c.args.place < length c.args.places.now.items = omega (arith, c.requires.within, c.args.places.now.ok.0) in
    let may : able_in (get_or c.args.places.now.items c.args.place nobody) ≡ true =
    ap able_in (get_or_default c.args.places.now.items c.args.place nobody c.index-occupant.result.now within ∙ sym c.index-occupant.ensures) ∙ sym c.is_able.ensures ∙ c.if-not-is_able.false in
    mark_at _ _ _ _ c.requires.noted c.in-Some.position c.with_wide_bit.result c.requires.differ may c.in-Some.ensures c.with_wide_bit.ensures.here c.with_wide_bit.ensures.others

pub returns-in_default : goal.returns-in_default
returns-in_default c = mark_nowhere _ _ _ _ c.requires.noted c.in_default.ensures
