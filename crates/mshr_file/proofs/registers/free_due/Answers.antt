use Rattle.std.proofs.Common.{ap, sym, ◌∙◌}
use Rattle.std.specs.List.{position}
use Rattle.window_model.specs.Fill.{is_due}
use Rattle.mshr_file.proofs.Places.{found, freed, not_found, not_freed}
use Rattle.mshr_file.proofs.registers.free_due.Goals as goal

pub returns-in-Some-clause-found : goal.returns-in-Some-clause-found
returns-in-Some-clause-found c =
    let place = c.in-Some.ensures ∙ ap (position (is_due c.args.cycle)) c.as_slice.ensures.value in
    sym (found (is_due c.args.cycle) _ _ _ place c.remove.ensures.value)

pub returns-in-Some-clause-freed : goal.returns-in-Some-clause-freed
returns-in-Some-clause-freed c =
    let place = c.in-Some.ensures ∙ ap (position (is_due c.args.cycle)) c.as_slice.ensures.value in
    c.remove.ensures.items ∙ freed (is_due c.args.cycle) _ _ place

pub returns-in-None-clause-found : goal.returns-in-None-clause-found
returns-in-None-clause-found c =
    let none = c.in-None.ensures ∙ ap (position (is_due c.args.cycle)) c.as_slice.ensures.value in
    sym (not_found (is_due c.args.cycle) _ none)

pub returns-in-None-clause-freed : goal.returns-in-None-clause-freed
returns-in-None-clause-freed c =
    let none = c.in-None.ensures ∙ ap (position (is_due c.args.cycle)) c.as_slice.ensures.value in
    not_freed (is_due c.args.cycle) _ none
