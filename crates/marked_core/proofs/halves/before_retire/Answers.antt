use Rattle.std.proofs.Common.{◌≡◌, ap, ◌∙◌, None, length, refl, subst, sym}
use Rattle.core_parts.specs.Described.{Described}
use Rattle.core_cycle.proofs.Moving.{clear_silent, completed_advanced, completed_silent, described_advanced, resolve_silent}
use Rattle.core_cycle.proofs.Fronts.{Resolved, fronts_machine, fronts_row}
use Rattle.secret_marks.specs.Shown.{resolved_shown}
use Rattle.marked_core.proofs.Unexposed.{complete_unexposed}
use Rattle.marked_core.proofs.Lengths.{complete_keeps}
use Rattle.marked_core.proofs.Steps.{over_phase, over_point}
use Rattle.marked_core.proofs.Watching.{front_marks, front_shows}
use Rattle.marked_core.proofs.halves.before_retire.Given as given
use Rattle.marked_core.proofs.halves.before_retire.Goals as goal

pub advance_after_complete-requires-clause-undone : goal.advance_after_complete-requires-clause-undone
advance_after_complete-requires-clause-undone g c = completed_advanced c.args.parts.now c.fill.new.parts c.complete.new.parts c.fill.ensures.machine c.complete.ensures.machine c.requires.advanced

pub advance_after_complete-requires-clause-advanced : goal.advance_after_complete-requires-clause-advanced
advance_after_complete-requires-clause-advanced g c = λ same.
    completed_silent c.args.parts.now c.fill.new.parts c.complete.new.parts c.fill.ensures.machine c.complete.ensures.machine c.requires.advanced
    c.fill.new.row c.complete.new.row c.complete.ensures.row (same ∙ ap length c.events-filled.ensures.value)

pub resolve_marked-shown-requires-clause-step : goal.resolve_marked-shown-requires-clause-step
resolve_marked-shown-requires-clause-step g c =
    over_point c.complete.new.parts c.advance_after_complete.new.parts _ _ c.advance_after_complete.ensures.others
    (over_phase c.fill.new.parts c.complete.new.parts _ _ c.complete.ensures.machine (complete_keeps c.fill.new.parts.machine)
    (over_phase c.args.parts.now c.fill.new.parts _ _ c.fill.ensures.machine refl c.requires.step))

pub resolve_marked-shown-requires-clause-noted : goal.resolve_marked-shown-requires-clause-noted
resolve_marked-shown-requires-clause-noted g c = λ h.
    let ms = c.args.marks.now.window.items in
    let window = ap (λ (s : Described). s.machine.window) c.advance_after_complete.ensures.others ∙ ap (λ (s : Described). s.machine.window) c.complete.ensures.machine in
    subst (λ w. resolved_shown w ms ≡ None) (sym window)
    (complete_unexposed c.fill.new.parts.machine ms (subst (λ (s : Described). resolved_shown s.machine.window ms ≡ None) (sym c.fill.ensures.machine) (c.requires.noted h)))

pub advance_after-requires : goal.advance_after-requires
advance_after-requires g c = record {
  advanced = λ same.
      described_advanced c.advance_after_complete.new.parts c.resolve_marked-shown.new.parts _ c.resolve_marked-shown.ensures.machine
      (resolve_silent _ c.advance_after_complete.new.parts.machine c.complete.new.row c.resolve_marked-shown.new.row (same ∙ ap length c.events-completed.ensures.value)
      c.advance_after_complete.ensures.advanced _ c.resolve_marked-shown.ensures.row);
}

pub clear_marked-requires-clause-step : goal.clear_marked-requires-clause-step
clear_marked-requires-clause-step g c = over_point c.resolve_marked-shown.new.parts c.advance_after.new.parts _ _ c.advance_after.ensures.others c.resolve_marked-shown.ensures.step

pub advance_after-requires-2 : goal.advance_after-requires-2
advance_after-requires-2 g c = record {
  advanced = λ same.
      described_advanced c.advance_after.new.parts c.clear_marked.new.parts _ c.clear_marked.ensures.machine
      (clear_silent _ c.advance_after.new.parts.machine c.resolve_marked-shown.new.row c.clear_marked.new.row (same ∙ ap length c.events-resolved.ensures.value)
      c.advance_after.ensures.advanced c.advance_after.new.parts.desc c.clear_marked.ensures.row);
}

-- the parts as the phases before Clear leave them
front : (g : given.Over) (c : goal.After-advance_after-2 g) → Resolved c.args.parts.now c.fill.new.parts c.complete.new.parts c.advance_after_complete.new.parts c.resolve_marked-shown.new.parts c.advance_after.new.parts
front g c = record {
  filled = c.fill.ensures.machine;
  completed = c.complete.ensures.machine;
  moved = c.advance_after_complete.ensures.others;
  resolved = c.resolve_marked-shown.ensures.machine;
  moved_again = c.advance_after.ensures.others;
}

pub returns-clause-machine : goal.returns-clause-machine
returns-clause-machine g c =
    fronts_machine _ _ _ _ _ _ (front g c) c.clear_marked.new.parts c.advance_after-2.new.parts c.clear_marked.ensures.machine c.advance_after-2.ensures.others

pub returns-clause-row : goal.returns-clause-row
returns-clause-row g c =
    fronts_row _ _ _ _ _ _ (front g c) c.args.row.now c.fill.new.row c.complete.new.row c.resolve_marked-shown.new.row c.clear_marked.new.row c.fill.ensures.row c.complete.ensures.row c.resolve_marked-shown.ensures.row c.clear_marked.ensures.row

pub returns-clause-marks : goal.returns-clause-marks
returns-clause-marks g c =
    front_marks _ _ _ _ _ _ (front g c) _ _ c.resolve_marked-shown.ensures.marks c.clear_marked.new.parts c.clear_marked.ensures.machine _ c.clear_marked.ensures.marks

pub returns-clause-shown : goal.returns-clause-shown
returns-clause-shown g c =
    front_shows _ _ _ _ _ _ (front g c) _ _ c.resolve_marked-shown.ensures.marks _ c.resolve_marked-shown.ensures.shown

pub returns-clause-step : goal.returns-clause-step
returns-clause-step g c = over_point c.clear_marked.new.parts c.advance_after-2.new.parts _ _ c.advance_after-2.ensures.others c.clear_marked.ensures.step
