use Rattle.std.proofs.Common.{ap, arith}
use Rattle.core_parts.specs.Described.{Described}
use Rattle.marked_core.proofs.Lengths.{rename_lengthens}
use Rattle.marked_core.proofs.Steps.{marks_extended, step_extended}
use Rattle.marked_core.proofs.phases.rename_marked.Goals as goal

pub extend-requires : goal.extend-requires
extend-requires g c =
    let desc = ap (λ (s : Described). s.desc.core_rob) c.rename.ensures.machine in
    record { room = omega (arith, desc, c.entries.ensures.value, c.entries.ensures.sized.entries, c.requires.step.room) }

pub returns-clause-marks : goal.returns-clause-marks
returns-clause-marks g c = marks_extended c.args.marks.now c.extend.new.window _ c.rename.new.parts c.entries.ensures.value c.extend.ensures

pub returns-clause-step : goal.returns-clause-step
returns-clause-step g c =
    step_extended c.args.parts.now c.rename.new.parts _ c.args.marks.now _ c.rename.ensures.machine c.requires.step c.entries.result c.entries.ensures.value (rename_lengthens _ _) c.extend.ensures
