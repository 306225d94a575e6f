use Rattle.std.proofs.Common.{ap, refl, sym, ◌∙◌}
use Rattle.std.specs.Prelude.{◌-◌}
use Rattle.elf_loader.specs.inner.Code.{word_at}
use Rattle.rv_types.specs.Isa.{reg}
use Rattle.rv_types.specs.Memory.{Ram}
use Rattle.window_model.specs.Fetch.{instr_at}
use Rattle.secret_marks.specs.Streams.{public_in}
use Rattle.constant_time.specs.PathMarks.{PathMarks, after_step}
use Rattle.path_marks.specs.State.{MarkedState}
use Rattle.path_marks.proofs.Going.{going, marks_behind, memory_stays, piece_inside, store_inside}
use Rattle.path_marks.proofs.Words.{goes_there, some_there}
use Rattle.path_marks.proofs.marked.MarkedPath.step.Goals as goal

-- ---- the run goes on

pub publish-requires : goal.publish-requires
publish-requires c =
    let s = c.self.inside.isa.hart in
    let code = word_at c.self.inside.isa.code in
    let goes = going code s _ _ _ c.step-stepped.ensures.stepped c.in-Next.is in
    let step = goes_there code s _ _ _ (some_there code s _ _ goes) goes in
    record {
      inside = piece_inside s _ _ _ _ _ _ _ _ step c.as_slice.ensures.value c.saturating_sub-at.ensures (ap (λ r. reg r 11) c.regs-2.ensures)
          (c.base-base.ensures.value ∙ ap (λ (m : Ram). m.base) c.ram.ensures) (c.move_next.ensures.memory ∙ c.self.invariant);
    }

pub invariant_of-self : goal.invariant_of-self
invariant_of-self c =
    c.publish.ensures.memory ∙ c.move_next.ensures.memory ∙ c.self.invariant ∙ sym (memory_stays _ _ _ _ _ c.step-stepped.ensures.stepped).size

pub returns-in-Next-clause-marks : goal.returns-in-Next-clause-marks
returns-in-Next-clause-marks c = λ e.
    let s = c.self.inside.isa.hart in
    let code = word_at c.self.inside.isa.code in
    let goes = going code s _ _ _ c.step-stepped.ensures.stepped c.in-Next.is in
    let some = some_there code s _ _ goes in
    let step = goes_there code s _ _ _ some goes in
    let base = c.base-base.ensures.value ∙ ap (λ (m : Ram). m.base) c.ram.ensures in
    let at = c.saturating_sub-at.ensures ∙ ap (λ b. reg c.regs-2.result.now 11 - b) base in
    let inside = store_inside s _ _ _ _ _ _ step refl refl c.self.invariant in
    let behind : MarkedState → PathMarks = λ x. after_step (public_in x.public) x.hart (instr_at (word_at x.code x.hart.pc)) c.step-stepped.new.out x.marks in
    marks_behind c.self.inside.public (code s.pc) s _ _ _ _ _ _ _ _ _ _ _ _ _ some step refl refl
    (c.move_next.ensures.marks _ some inside) c.as_slice.ensures.value (ap (λ r. reg r 10) c.regs.ensures) at (ap (λ r. reg r 11) c.regs-2.ensures) c.publish.ensures.bytes
    ∙ ap behind c.self.view_is

-- ---- the run ends

pub invariant_of-self-in_default : goal.invariant_of-self-in_default
invariant_of-self-in_default c =
    c.move_next.ensures.memory ∙ c.self.invariant ∙ sym (memory_stays _ _ _ _ _ c.step-stepped.ensures.stepped).size
