use Rattle.std.proofs.Common.{ap, length, sym, ◌∙◌}
use Rattle.secret_marks.specs.Shown.{resolved_shown}
use Rattle.marked_core.proofs.Lengths.{resolve_shortens}
use Rattle.marked_core.proofs.Steps.{marks_cut, step_cut}
use Rattle.marked_core.proofs.phases.resolve_marked.Goals as goal

pub resolved_shown-requires : goal.resolved_shown-requires
resolved_shown-requires g c = record {
  step =
      (step_cut c.args.parts.now c.resolve.new.parts _ c.args.marks.now (record (c.args.marks.now) { window = c.cut.new.window }) c.resolve.ensures.machine c.requires.step c.entries.result c.entries.ensures.value
      (resolve_shortens _ _) c.cut.ensures).entries
      ∙ sym (ap length c.rob.ensures);
}

pub returns-clause-marks : goal.returns-clause-marks
returns-clause-marks g c = marks_cut c.args.marks.now c.cut.new.window _ c.resolve.new.parts c.entries.ensures.value c.cut.ensures

pub returns-clause-shown : goal.returns-clause-shown
returns-clause-shown g c = c.resolved_shown.ensures ∙ ap (λ es. resolved_shown es c.cut.new.window.items) c.rob.ensures

pub returns-clause-step : goal.returns-clause-step
returns-clause-step g c = step_cut c.args.parts.now c.resolve.new.parts _ c.args.marks.now _ c.resolve.ensures.machine c.requires.step c.entries.result c.entries.ensures.value (resolve_shortens _ _) c.cut.ensures
