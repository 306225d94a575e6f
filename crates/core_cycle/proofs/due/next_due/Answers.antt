use Rattle.std.proofs.Common.{◌∙◌, ap}
use Rattle.core_parts.specs.Described.{Described}
use Rattle.core_cycle.proofs.Soonest.{soonest}
use Rattle.core_cycle.proofs.due.next_due.Goals as goal

pub returns-clause-soonest : goal.returns-clause-soonest
returns-clause-soonest g c =
    soonest c.args.parts.now.machine _ _ _ _ _ _ _ _ (ap (λ (s : Described). s.machine.cycle) c.parts.view_is)
    (ap (λ d. d.free_from) c.divider.ensures ∙ ap (λ (s : Described). s.machine.divider.free_from) c.parts.view_is)
    (c.misses.ensures ∙ ap (λ (s : Described). s.machine.misses) c.parts.view_is) (ap (λ (s : Described). s.machine.window) c.parts.view_is)
    c.sooner-free.ensures.either c.lines_due-comes.ensures.either c.entries_due.ensures.either
