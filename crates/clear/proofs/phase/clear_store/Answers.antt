-- The load stands where its serial says, and at the exit the machine is the one that the definition leaves.
use Rattle.std.proofs.Common.{subst, sym, ◌∙◌}
use Rattle.std.specs.Prelude.{IfSome}
use Rattle.core_parts.specs.Dropped.{StopsBelow}
use Rattle.clear.proofs.Anew.{anew_row, anew_shown, load_inside, load_stops}
use Rattle.clear.proofs.phase.clear_store.Goals as goal

pub fetch_anew-requires-clause-within : goal.fetch_anew-requires-clause-within
fetch_anew-requires-clause-within g c =
    load_inside c.args.parts.now c.args.serial c.requires.loads_pass c.requires.found c.in-Some.violated (sym c.in-Some.is ∙ c.clear_in_place.ensures.violated) _ c.clear_in_place.new.parts c.parts.view_is c.clear_in_place.ensures.machine
    c.parts.invariant.refines.rise _ c.position_of-position.ensures.count

pub fetch_anew-requires-clause-stops : goal.fetch_anew-requires-clause-stops
fetch_anew-requires-clause-stops g c =
    load_stops c.args.parts.now c.args.serial c.requires.loads_pass c.requires.found c.in-Some.violated (sym c.in-Some.is ∙ c.clear_in_place.ensures.violated) _ c.clear_in_place.new.parts c.parts.view_is c.clear_in_place.ensures.machine
    c.parts.invariant.refines.rise _ c.position_of-position.ensures.count
    (subst (λ o. IfSome o (λ load. StopsBelow load c.clear_in_place.new.parts.point c.clear_in_place.new.parts.machine.window)) c.in-Some.is c.clear_in_place.ensures.stops)

pub returns-clause-machine : goal.returns-clause-machine
returns-clause-machine g c =
    anew_shown c.args.parts.now c.args.serial c.requires.loads_pass c.requires.found c.in-Some.violated (sym c.in-Some.is ∙ c.clear_in_place.ensures.violated) _ c.clear_in_place.new.parts c.parts.view_is c.clear_in_place.ensures.machine
    c.parts.invariant.refines.rise _ c.position_of-position.ensures.count _ c.fetch_anew.ensures.machine

pub returns-clause-row : goal.returns-clause-row
returns-clause-row g c =
    anew_row c.args.parts.now c.args.serial c.requires.loads_pass c.requires.found c.in-Some.violated (sym c.in-Some.is ∙ c.clear_in_place.ensures.violated) _ c.clear_in_place.new.parts c.parts.view_is c.clear_in_place.ensures.machine
    c.parts.invariant.refines.rise _ c.position_of-position.ensures.count _ _ _ c.push.ensures c.fetch_anew.ensures.row
