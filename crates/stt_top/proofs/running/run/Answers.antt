-- The loop writes the output of each step as it is taken.
use Rattle.std.proofs.Common.{◌∙◌, ◌-◌, ◌+◌, sym, subst, refl, arith, Some, ℕ}
use Rattle.std.proofs.lemmas.Result.{MatchResult-from_err}
use Rattle.rv_types.specs.Isa.{isa}
use Rattle.rv_types.specs.declared.End.TheVariants.{Trap}
use Rattle.elf_loader.specs.inner.Code.{CodeText, word_at}
use Rattle.stt_top.specs.inner.Running.{RanAs}
use Rattle.stt_top.proofs.Turns.{Turned, at_start, at_next, at_part, at_exit, at_trap, at_end}
use Rattle.stt_top.proofs.running.run.Goals as goal

pub loop-done-init : goal.loop-done-init
loop-done-init g c = record { turned = at_start _ _ _ _; code = refl }

pub returns-in_err-write_piece-in-Next : goal.returns-in_err-write_piece-in-Next
returns-in_err-write_piece-in-Next g c =
    MatchResult-from_err _ _ _ c.from_residual.ensures.0
    (λ _. at_part _ _ _ _ _ _ _ _ _ _ c.loop-done-test.true c.in-Next.ensures.stepped c.loop-done.invariant.turned c.in_err-write_piece-in-Next.ensures)

pub returns-in-Exit : goal.returns-in-Exit
returns-in-Exit g c = at_exit _ _ _ _ _ _ _ _ _ _ c.loop-done-test.true c.in-Exit.ensures.stepped c.loop-done.invariant.turned

pub returns-in-Trap : goal.returns-in-Trap
returns-in-Trap g c =
    let whole = isa (word_at c.args.state.now.code) c.args.state.now.hart c.args.steps in
    let P : ℕ → Type 0 = λ pc. RanAs whole c.step.new.self.hart c.loop-done.done (Some (Trap c.in-Trap.cause pc)) (g.S.Sink.told c.args.out.now) (g.S.Sink.told c.loop-done.out) in
    subst P (sym c.pc.ensures) (at_trap _ _ _ _ _ whole _ _ _ _ c.loop-done-test.true c.in-Trap.ensures.stepped c.loop-done.invariant.turned)

pub loop-done-preserved : goal.loop-done-preserved
loop-done-preserved g c =
    let whole = isa (word_at c.args.state.now.code) c.args.state.now.hart c.args.steps in
    let P : CodeText → Type 0 = λ code. Turned whole (isa (word_at code) c.step.new.self.hart (c.args.steps - (c.loop-done.done + 1))) (c.loop-done.done + 1)
    (g.S.Sink.told c.args.out.now) (g.S.Sink.told c.write_piece.new.out) in
    record {
      turned = subst P (sym c.in-Next.ensures.code)
          (at_next _ _ _ _ whole _ _ _ _ _ c.loop-done-test.true c.in-Next.ensures.stepped c.loop-done.invariant.turned c.in_ok-write_piece-in-Next.ensures);
      code = c.in-Next.ensures.code ∙ c.loop-done.invariant.code;
    }

pub returns : goal.returns
returns g c = at_end _ _ _ _ _ _ _ (omega arith) (omega arith) c.loop-done.invariant.turned
