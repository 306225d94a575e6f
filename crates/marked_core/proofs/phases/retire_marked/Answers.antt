use Rattle.std.proofs.Common.{◌≡◌, ◌+◌, ◌-◌, ◌≤◌, ap, ap₂, arith, length, refl, subst, sym, ◌∙◌}
use Rattle.secret_marks.specs.Marks.{marks_after_leaving}
use Rattle.entry_marks.specs.Oldest.{IsCopiedFrom}
use Rattle.entry_marks.specs.Walk.{marks_of}
use Rattle.secret_marks.specs.Streams.{public_in}
use Rattle.marked_core.proofs.Published.{inside, publishes}
use Rattle.marked_core.proofs.Steps.{step_left}
use Rattle.marked_core.proofs.Taken.{count_left, enough_copied, inside_each, size_stays}
use Rattle.marked_core.proofs.phases.retire_marked.Goals as goal

pub leaving-copies-requires : goal.leaving-copies-requires
leaving-copies-requires g c = record { step = c.requires.step.entries ∙ sym (ap length c.rob.ensures) }

pub leave-requires-clause-copied : goal.leave-requires-clause-copied
leave-requires-clause-copied g c =
    let copied = subst (λ w. IsCopiedFrom w c.args.marks.now.window.items c.leaving-copies.result.entries.items) c.rob.ensures c.leaving-copies.ensures in
    enough_copied c.args.parts.now c.retire.new.parts c.retire.ensures.machine c.entries-before.ensures.sized c.saturating_sub-gone.result
    (omega (arith, c.saturating_sub-gone.ensures, c.entries-before.ensures.value, c.entries.ensures.value)) _ _ copied

pub leave-requires-clause-inside : goal.leave-requires-clause-inside
leave-requires-clause-inside g c =
    let copied = subst (λ w. IsCopiedFrom w c.args.marks.now.window.items c.leaving-copies.result.entries.items) c.rob.ensures c.leaving-copies.ensures in
    inside_each c.args.parts.now c.retire.new.parts c.retire.ensures.machine c.entries-before.ensures.sized c.saturating_sub-gone.result
    (omega (arith, c.saturating_sub-gone.ensures, c.entries-before.ensures.value, c.entries.ensures.value)) _ _ copied _ _ c.base.ensures c.requires.memory

pub publish-requires : goal.publish-requires
publish-requires g c = record {
  inside = λ n.
      let p = c.as_slice.ensures.value ∙ c.retire.ensures.piece in
      let bytes = c.leave.ensures.memory ∙ c.requires.memory in
      subst (λ q. c.place-place.result + length q ≤ length c.leave.new.marks.bytes.items) refl
      (inside c.args.parts.now.desc c.args.parts.now.machine c.entries-before.ensures.sized.call_alone c.as_slice.result.now c.place-place.result _ p c.place-place.ensures bytes n);
}

pub returns-clause-marks : goal.returns-clause-marks
returns-clause-marks g c =
    let copied = subst (λ w. IsCopiedFrom w c.args.marks.now.window.items c.leaving-copies.result.entries.items) c.rob.ensures c.leaving-copies.ensures in
    let count : c.saturating_sub-gone.result ≡ length c.args.parts.now.machine.window - length c.retire.new.parts.machine.window =
    omega (arith, c.saturating_sub-gone.ensures, c.entries-before.ensures.value, c.entries.ensures.value) in
    let leaves =
    c.leave.ensures.marks c.args.parts.now.machine.window copied
    ∙ ap₂ (λ base n. marks_after_leaving base n c.args.parts.now.machine.window (marks_of c.args.marks.now) c.args.marks.now.window.items) c.base.ensures count in
    publishes (public_in c.args.public) c.args.parts.now.machine c.leave.new.marks c.publish.new.bytes.items _ c.retire.new.piece c.as_slice.result.now c.stream-stream.result c.place-place.result
    c.publish.ensures.bytes c.stream-stream.ensures c.place-place.ensures c.as_slice.ensures.value leaves

pub returns-clause-step : goal.returns-clause-step
returns-clause-step g c =
    step_left c.args.parts.now c.retire.new.parts _ c.args.marks.now _ c.saturating_sub-gone.result c.retire.ensures.machine c.requires.step
    (count_left c.args.parts.now c.retire.new.parts c.retire.ensures.machine c.entries-before.ensures.sized c.saturating_sub-gone.result
    (omega (arith, c.saturating_sub-gone.ensures, c.entries-before.ensures.value, c.entries.ensures.value)))
    c.leave.ensures.window

pub returns-clause-memory : goal.returns-clause-memory
returns-clause-memory g c =
    c.publish.ensures.memory
    ∙ c.leave.ensures.memory
    ∙ c.requires.memory
    ∙ sym (size_stays c.args.parts.now c.retire.new.parts c.retire.ensures.machine c.entries-before.ensures.sized c.saturating_sub-gone.result
    (omega (arith, c.saturating_sub-gone.ensures, c.entries-before.ensures.value, c.entries.ensures.value)))
