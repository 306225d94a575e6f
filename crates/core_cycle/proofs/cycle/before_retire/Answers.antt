use Rattle.std.proofs.Common.{ap, ◌∙◌, length}
use Rattle.core_cycle.proofs.Moving.{clear_silent, completed_advanced, completed_silent, described_advanced, resolve_silent}
use Rattle.core_cycle.proofs.Fronts.{Resolved, fronts_machine, fronts_row}
use Rattle.core_cycle.proofs.cycle.before_retire.Given as given
use Rattle.core_cycle.proofs.cycle.before_retire.Goals as goal

pub advance_after_complete-requires-clause-undone : goal.advance_after_complete-requires-clause-undone
advance_after_complete-requires-clause-undone g c = completed_advanced c.args.parts.now c.fill.new.parts c.complete.new.parts c.fill.ensures.machine c.complete.ensures.machine c.requires.advanced

pub advance_after_complete-requires-clause-advanced : goal.advance_after_complete-requires-clause-advanced
advance_after_complete-requires-clause-advanced g c = λ same.
    completed_silent c.args.parts.now c.fill.new.parts c.complete.new.parts c.fill.ensures.machine c.complete.ensures.machine c.requires.advanced
    c.fill.new.row c.complete.new.row c.complete.ensures.row (same ∙ ap length c.events-filled.ensures.value)

pub advance_after-requires : goal.advance_after-requires
advance_after-requires g c = record {
  advanced = λ same.
      described_advanced c.advance_after_complete.new.parts c.resolve.new.parts _ c.resolve.ensures.machine
      (resolve_silent _ c.advance_after_complete.new.parts.machine c.complete.new.row c.resolve.new.row (same ∙ ap length c.events-completed.ensures.value)
      c.advance_after_complete.ensures.advanced _ c.resolve.ensures.row);
}

pub advance_after-requires-2 : goal.advance_after-requires-2
advance_after-requires-2 g c = record {
  advanced = λ same.
      described_advanced c.advance_after.new.parts c.clear.new.parts _ c.clear.ensures.machine
      (clear_silent _ c.advance_after.new.parts.machine c.resolve.new.row c.clear.new.row (same ∙ ap length c.events-resolved.ensures.value)
      c.advance_after.ensures.advanced c.advance_after.new.parts.desc c.clear.ensures.row);
}

-- the parts as the phases before Clear leave them
front : (g : given.Over) (c : goal.After-advance_after-2 g) → Resolved c.args.parts.now c.fill.new.parts c.complete.new.parts c.advance_after_complete.new.parts c.resolve.new.parts c.advance_after.new.parts
front g c = record {
  filled = c.fill.ensures.machine;
  completed = c.complete.ensures.machine;
  moved = c.advance_after_complete.ensures.others;
  resolved = c.resolve.ensures.machine;
  moved_again = c.advance_after.ensures.others;
}

pub returns-clause-machine : goal.returns-clause-machine
returns-clause-machine g c =
    fronts_machine _ _ _ _ _ _ (front g c) c.clear.new.parts c.advance_after-2.new.parts c.clear.ensures.machine c.advance_after-2.ensures.others

pub returns-clause-row : goal.returns-clause-row
returns-clause-row g c =
    fronts_row _ _ _ _ _ _ (front g c) c.args.row.now c.fill.new.row c.complete.new.row c.resolve.new.row c.clear.new.row c.fill.ensures.row c.complete.ensures.row c.resolve.ensures.row c.clear.ensures.row
