use Rattle.std.proofs.Common.{◌∙◌, ◌-◌, ◌+◌, sym, subst}
use Rattle.rv_types.specs.Isa.{isa}
use Rattle.elf_loader.specs.inner.Code.{CodeText, word_at}
use Rattle.isa_step.proofs.Runs.{Rest, at_next}
use Rattle.isa_step.proofs.state.Isa.run.Goals as goal

pub loop-done-preserved : goal.loop-done-preserved
loop-done-preserved c =
    let whole = isa (word_at c.args.self.now.code) c.args.self.now.hart c.args.n in
    let r = at_next _ _ _ _ whole _ _ c.loop-done-test.true c.in-Next.ensures.stepped c.loop-done.invariant.rest in
    let P : CodeText → Type 0 = λ code. Rest whole (isa (word_at code) c.step.new.self.hart (c.args.n - (c.loop-done.done + 1))) (c.loop-done.done + 1) in
    record { rest = subst P (sym c.in-Next.ensures.code) r; code = c.in-Next.ensures.code ∙ c.loop-done.invariant.code }
