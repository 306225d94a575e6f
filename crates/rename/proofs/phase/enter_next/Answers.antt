-- The oldest item that fits comes in, and the parts stand for the window with its entry.
use Rattle.std.proofs.Common.{refl, ap, subst, sym, ◌∙◌}
use Rattle.std.specs.Prelude.{option_copied}
use Rattle.std.specs.List.{All}
use Rattle.window_model.specs.Rename.{entry_of_item}
use Rattle.refinement.proofs.Room.{held_older, writes_older}
use Rattle.rename.specs.Entering.{HasPlace}
use Rattle.rename.proofs.Awaiting.{writers_in_flight}
use Rattle.rename.proofs.Standing.{counted, enter_shown, enter_whole, entered_by, room_for}
use Rattle.rename.proofs.phase.enter_next.Goals as goal

pub next_fitting-requires-clause-counted : goal.next_fitting-requires-clause-counted
next_fitting-requires-clause-counted g c = counted _ c.parts.invariant

pub awaits_of-awaits-requires-clause-in_flight : goal.awaits_of-awaits-requires-clause-in_flight
awaits_of-awaits-requires-clause-in_flight g c =
    subst (All (HasPlace c.parts.inside.rob.entries)) (sym c.sources_of-sources.ensures.writers) (writers_in_flight _ (entry_of_item c.parts.inside.desc c.parts.inside.next_serial c.in-Some.item.now) c.parts.invariant.refines)

pub add_write-requires-clause-youngest : goal.add_write-requires-clause-youngest
add_write-requires-clause-youngest g c = writes_older _ c.parts.invariant.refines

pub add_station-requires-clause-youngest : goal.add_station-requires-clause-youngest
add_station-requires-clause-youngest g c = held_older _ c.parts.invariant.refines

pub add_write-requires-clause-room : goal.add_write-requires-clause-room
add_write-requires-clause-room g c = (room_for _ c.in-Some.item.now c.parts.invariant (sym c.next_fitting.ensures ∙ ap option_copied c.in-Some.is)).write

pub add_station-requires-clause-room : goal.add_station-requires-clause-room
add_station-requires-clause-room g c = (room_for _ c.in-Some.item.now c.parts.invariant (sym c.next_fitting.ensures ∙ ap option_copied c.in-Some.is)).station

pub add_access-requires-clause-load : goal.add_access-requires-clause-load
add_access-requires-clause-load g c = (room_for _ c.in-Some.item.now c.parts.invariant (sym c.next_fitting.ensures ∙ ap option_copied c.in-Some.is)).load

pub add_access-requires-clause-store : goal.add_access-requires-clause-store
add_access-requires-clause-store g c = (room_for _ c.in-Some.item.now c.parts.invariant (sym c.next_fitting.ensures ∙ ap option_copied c.in-Some.is)).store

pub push_within-requires : goal.push_within-requires
push_within-requires g c = (room_for _ c.in-Some.item.now c.parts.invariant (sym c.next_fitting.ensures ∙ ap option_copied c.in-Some.is)).sources

pub add_entry-requires : goal.add_entry-requires
add_entry-requires g c = (room_for _ c.in-Some.item.now c.parts.invariant (sym c.next_fitting.ensures ∙ ap option_copied c.in-Some.is)).entry

pub invariant_of-parts : goal.invariant_of-parts
invariant_of-parts g c =
    let fit = sym c.next_fitting.ensures ∙ ap option_copied c.in-Some.is in
    enter_whole _ c.in-Some.item.now _ _ _ _ _ _ _ _ c.parts.invariant
    (entered_by _ c.in-Some.item.now _ _ _ _ _ _ _ _ _ c.parts.invariant c.sources_of-sources.ensures.writers c.sources_of-sources.ensures.roots c.awaits_of-awaits.ensures
    c.add_entry.ensures c.push_within.ensures c.add_write.ensures.table c.add_write.ensures.same_room c.add_station.ensures c.add_access.ensures c.drop_oldest.ensures)
    refl fit

pub returns-clause-entered : goal.returns-clause-entered
returns-clause-entered g c =
    let fit = sym c.next_fitting.ensures ∙ ap option_copied c.in-Some.is in
    enter_shown _ c.in-Some.item.now _ _ _ _ _ _ _ _ c.parts.invariant
    (entered_by _ c.in-Some.item.now _ _ _ _ _ _ _ _ _ c.parts.invariant c.sources_of-sources.ensures.writers c.sources_of-sources.ensures.roots c.awaits_of-awaits.ensures
    c.add_entry.ensures c.push_within.ensures c.add_write.ensures.table c.add_write.ensures.same_room c.add_station.ensures c.add_access.ensures c.drop_oldest.ensures)
    refl fit _ c.parts.view_is
