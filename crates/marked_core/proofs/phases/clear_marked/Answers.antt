use Rattle.marked_core.proofs.Lengths.{clear_shortens}
use Rattle.marked_core.proofs.Steps.{marks_cut, step_cut}
use Rattle.marked_core.proofs.phases.clear_marked.Goals as goal

pub returns-clause-marks : goal.returns-clause-marks
returns-clause-marks g c = marks_cut c.args.marks.now c.cut.new.window _ c.clear.new.parts c.entries-left.ensures.value c.cut.ensures

pub returns-clause-step : goal.returns-clause-step
returns-clause-step g c = step_cut c.args.parts.now c.clear.new.parts _ c.args.marks.now _ c.clear.ensures.machine c.requires.step c.entries-left.result c.entries-left.ensures.value (clear_shortens c.args.parts.now.desc c.args.parts.now.machine) c.cut.ensures
