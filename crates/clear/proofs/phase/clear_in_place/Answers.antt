-- The store stands where its serial says, and is cleared there and in the queue.
use Rattle.clear.proofs.InPlace.{is_inside, in_place_shown, in_place_stops, in_place_violates, in_place_whole}
use Rattle.clear.proofs.phase.clear_in_place.Goals as goal

pub clear-requires : goal.clear-requires
clear-requires g c = is_inside _ _ _ c.parts.invariant c.parts.view_is c.requires.loads_pass c.requires.found _ c.position_of-position.ensures.count

pub invariant_of-parts : goal.invariant_of-parts
invariant_of-parts g c = in_place_whole _ _ _ c.parts.invariant c.parts.view_is c.requires.loads_pass c.requires.found _ _ _ c.position_of-position.ensures.count c.clear.ensures c.clear-2.ensures.cleared

pub returns-clause-machine : goal.returns-clause-machine
returns-clause-machine g c = in_place_shown _ _ _ c.parts.invariant c.parts.view_is c.requires.loads_pass c.requires.found _ _ _ c.position_of-position.ensures.count c.clear.ensures c.clear-2.ensures.cleared

pub returns-clause-violated : goal.returns-clause-violated
returns-clause-violated g c =
    in_place_violates _ _ _ c.parts.invariant c.parts.view_is c.requires.loads_pass c.requires.found _ _ _ c.position_of-position.ensures.count c.clear.ensures c.clear-2.ensures.cleared _ c.clear-2.ensures.violated

pub returns-clause-stops : goal.returns-clause-stops
returns-clause-stops g c =
    in_place_stops _ _ _ c.parts.invariant c.parts.view_is c.requires.loads_pass c.requires.found _ _ _ c.position_of-position.ensures.count c.clear.ensures c.clear-2.ensures.cleared _ c.clear-2.ensures.violated
