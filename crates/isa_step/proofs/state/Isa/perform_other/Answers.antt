use Rattle.std.proofs.Common.{sym, ap, ◌∙◌}
use Rattle.rv_types.specs.Isa.{step_of}
use Rattle.rv_types.specs.declared.Instr.{Instr}
use Rattle.isa_step.specs.Outcome.{outcome}
use Rattle.isa_step.proofs.state.Isa.perform_other.Goals as goal

pub returns-in_default : goal.returns-in_default
returns-in_default c =
    let s = c.args.self.now.hart in
    record { stepped = c.execute.ensures.stepped ∙ ap (λ (i : Instr). outcome s (step_of s i)) (sym c.requires.stands); code = c.execute.ensures.code }
