use Rattle.std.proofs.Common.{◌≡◌, ◌∙◌, [], None, ap, arith, refl, subst, sym}
use Rattle.std.specs.List.{AllByRecursion as Each}
use Rattle.elf_loader.specs.inner.Code.{word_at}
use Rattle.machine_facts.proofs.FewEvents.{cycle_number}
use Rattle.window_model.specs.Cycle.{cycle}
use Rattle.window_model.specs.State.{Machine}
use Rattle.marked_core.specs.InStep.{IssuedBy, NotYet}
use Rattle.quiet_cycles.specs.Still.{empty_row}
use Rattle.secret_marks.specs.Marks.{Marks}
use Rattle.secret_marks.specs.Shown.{or_else, resolved_shown}
use Rattle.secret_marks.specs.Streams.{public_in}
use Rattle.entry_marks.specs.Walk.{marks_of}
use Rattle.core_parts.specs.Described.{Described}
use Rattle.core_cycle.specs.Kept.{Kept}
use Rattle.core_cycle.proofs.Cycling.{Fronts, code_backed, count_stays, cycle_is, cycle_retires, desc_backed, end_stays, machine_is, machine_left, serial_stays, settled_left, text_aligned}
use Rattle.core_cycle.proofs.Passing.{kept_after}
use Rattle.marked_core.proofs.Stamps.{cycle_issued, found_not_yet}
use Rattle.marked_core.specs.Watched.{shown_to_clear}
use Rattle.marked_core.proofs.Steps.{over_phase}
use Rattle.marked_core.proofs.Unexposed.{cycle_unexposed, none_told, none_waits}
use Rattle.marked_core.proofs.Watching.{bytes_backed, bytes_fronted, cycle_marks, cycle_shows}
use Rattle.marked_core.proofs.clocking.clock.Goals as goal

pub before_retire-resolved-requires-clause-step : goal.before_retire-resolved-requires-clause-step
before_retire-resolved-requires-clause-step g c = over_phase _ c.begin.new.self _ _ c.begin.ensures refl c.requires.between.step

pub before_retire-resolved-requires-clause-noted : goal.before_retire-resolved-requires-clause-noted
before_retire-resolved-requires-clause-noted g c = λ h.
    subst (λ (s : Described). resolved_shown s.machine.window c.args.marks.now.window.items ≡ None) (sym c.begin.ensures) (c.requires.between.noted h)

pub retire_marked-asked-requires-clause-running : goal.retire_marked-asked-requires-clause-running
retire_marked-asked-requires-clause-running g c =
    end_stays _ _ c.before_retire-resolved.new.parts (record { begins = c.begin.ensures; goes = c.before_retire-resolved.ensures.machine }) ∙ c.requires.running

pub retire_marked-asked-requires-clause-counts : goal.retire_marked-asked-requires-clause-counts
retire_marked-asked-requires-clause-counts g c =
    let same = count_stays _ _ c.before_retire-resolved.new.parts (record { begins = c.begin.ensures; goes = c.before_retire-resolved.ensures.machine }) in
    omega (arith, same, c.requires.few, c.requires.between.kept.counted.retired)

pub retire_marked-asked-requires-clause-memory : goal.retire_marked-asked-requires-clause-memory
retire_marked-asked-requires-clause-memory g c =
    bytes_fronted _ _ c.before_retire-resolved.new.parts (record { begins = c.begin.ensures; goes = c.before_retire-resolved.ensures.machine }) c.args.marks.now c.before_retire-resolved.new.marks
    c.before_retire-resolved.ensures.marks c.requires.between.memory

pub after_retire-operand-requires-clause-settled : goal.after_retire-operand-requires-clause-settled
after_retire-operand-requires-clause-settled g c =
    settled_left _ _ c.before_retire-resolved.new.parts (record { begins = c.begin.ensures; goes = c.before_retire-resolved.ensures.machine }) c.retire_marked-asked.new.parts c.retire_marked-asked.ensures.machine c.requires.between.kept.timely

pub after_retire-operand-requires-clause-serials : goal.after_retire-operand-requires-clause-serials
after_retire-operand-requires-clause-serials g c =
    let same =
    serial_stays _ _ c.before_retire-resolved.new.parts (record { begins = c.begin.ensures; goes = c.before_retire-resolved.ensures.machine }) c.retire_marked-asked.new.parts c.retire_marked-asked.ensures.machine in
    omega (arith, same, c.requires.few, c.requires.between.kept.counted.serials)

pub after_retire-operand-requires-clause-fresh : goal.after_retire-operand-requires-clause-fresh
after_retire-operand-requires-clause-fresh g c =
    let s = c.args.parts.now in
    let p : Fronts s c.begin.new.self c.before_retire-resolved.new.parts = record { begins = c.begin.ensures; goes = c.before_retire-resolved.ensures.machine } in
    subst (λ (x : Machine). Each (NotYet x.cycle) x.window) (sym (machine_left s c.begin.new.self c.before_retire-resolved.new.parts p c.retire_marked-asked.new.parts c.retire_marked-asked.ensures.machine))
    (found_not_yet s.desc s.machine c.requires.between.issued c.requires.between.kept.timely.parts)

pub returns-clause-cycled : goal.returns-clause-cycled
returns-clause-cycled g c =
    let number = ap (λ (s : Described). s.machine.cycle) c.parts.view_is ∙ ap (λ (s : Described). s.machine.cycle) c.begin.ensures in
    cycle_is _ _ c.before_retire-resolved.new.parts (record { begins = c.begin.ensures; goes = c.before_retire-resolved.ensures.machine }) c.retire_marked-asked.new.parts c.retire_marked-asked.ensures.machine c.after_retire-operand.new.parts c.after_retire-operand.ensures.machine _ _ _ _
    c.retire_marked-asked.new.piece
    (record { begins = c.begin-2.ensures ∙ ap empty_row number; fronts = c.before_retire-resolved.ensures.row; retires = c.retire_marked-asked.ensures.row; backs = c.after_retire-operand.ensures.row })
    c.retire_marked-asked.ensures.piece

pub returns-clause-commits : goal.returns-clause-commits
returns-clause-commits g c =
    cycle_retires _ _ c.before_retire-resolved.new.parts (record { begins = c.begin.ensures; goes = c.before_retire-resolved.ensures.machine }) c.retire_marked-asked.new.parts c.retire_marked-asked.ensures.machine c.after_retire-operand.new.parts c.after_retire-operand.ensures.machine
    (text_aligned c.args.parts.now.code) c.requires.between.kept c.requires.running _ c.retire_marked-asked.ensures.piece

pub returns-clause-marks : goal.returns-clause-marks
returns-clause-marks g c =
    cycle_marks (public_in c.args.public) _ _ c.before_retire-resolved.new.parts (record { begins = c.begin.ensures; goes = c.before_retire-resolved.ensures.machine }) _ _ c.before_retire-resolved.ensures.marks c.retire_marked-asked.new.parts c.retire_marked-asked.ensures.machine _ c.retire_marked-asked.ensures.piece _ c.retire_marked-asked.ensures.marks _
    c.after_retire-operand.ensures.marks

pub returns-clause-shown : goal.returns-clause-shown
returns-clause-shown g c =
    c.or_else-2.ensures
    ∙ ap (or_else c.before_retire-resolved.result) c.or_else.ensures
    ∙ cycle_shows (public_in c.args.public) _ _ c.before_retire-resolved.new.parts (record { begins = c.begin.ensures; goes = c.before_retire-resolved.ensures.machine }) _ _ c.before_retire-resolved.ensures.marks c.retire_marked-asked.new.parts c.retire_marked-asked.ensures.machine _ c.retire_marked-asked.ensures.piece _ c.retire_marked-asked.ensures.marks _ _ _
    c.before_retire-resolved.ensures.shown c.retire_marked-asked.ensures.shown c.after_retire-operand.ensures.shown

pub returns-clause-between : goal.returns-clause-between
returns-clause-between g c =
    let s = c.args.parts.now in
    let s1 = c.begin.new.self in
    let s2 = c.before_retire-resolved.new.parts in
    let s3 = c.retire_marked-asked.new.parts in
    let s4 = c.after_retire-operand.new.parts in
    let p : Fronts s s1 s2 = record { begins = c.begin.ensures; goes = c.before_retire-resolved.ensures.machine } in
    let same = machine_is s s1 s2 p s3 c.retire_marked-asked.ensures.machine s4 c.after_retire-operand.ensures.machine in
    let desc = desc_backed s s1 s2 p s3 c.retire_marked-asked.ensures.machine s4 c.after_retire-operand.ensures.machine in
    let code = code_backed s s1 s2 p s3 c.retire_marked-asked.ensures.machine s4 c.after_retire-operand.ensures.machine in
    let watched =
    cycle_marks (public_in c.args.public) s s1 s2 p _ _ c.before_retire-resolved.ensures.marks s3 c.retire_marked-asked.ensures.machine _ c.retire_marked-asked.ensures.piece _ c.retire_marked-asked.ensures.marks _ c.after_retire-operand.ensures.marks in
    let told = c.before_retire-resolved.ensures.shown ∙ ap (λ (s : Described). shown_to_clear s.desc s.machine (marks_of c.args.marks.now)) c.begin.ensures in
    record {
      kept =
          subst (λ code. Kept (word_at code) s4) (sym code)
          (kept_after (word_at s.code) s s4 same (text_aligned s.code) c.requires.between.kept c.requires.running desc c.after_retire-operand.ensures.advanced);
      step = c.after_retire-operand.ensures.step;
      issued =
          subst (λ (x : Machine). Each (IssuedBy x.cycle) x.window) (sym same)
          (subst (λ n. Each (IssuedBy n) (cycle s.desc (word_at s.code) s.machine).machine.window) (sym (cycle_number s.desc (word_at s.code) s.machine))
          (cycle_issued s.desc (word_at s.code) s.machine c.requires.between.issued));
      noted = λ none.
          subst (λ (x : Machine). resolved_shown x.window c.after_retire-operand.new.marks.window.items ≡ None) (sym same)
          (subst (λ (m : Marks). resolved_shown (cycle s.desc (word_at s.code) s.machine).machine.window m.window ≡ None) (sym watched)
          (cycle_unexposed (public_in c.args.public) s.desc (word_at s.code) s.machine (marks_of c.args.marks.now) (none_waits _ _ _ _ [] _ c.requires.between.kept.consistent.entries) c.requires.between.issued
          c.requires.between.kept.timely.parts (sym told ∙ none_told c.before_retire-resolved.result c.is_none.result c.is_none.ensures none)));
      memory = bytes_backed s3 s4 c.after_retire-operand.ensures.machine c.retire_marked-asked.new.marks c.after_retire-operand.new.marks c.after_retire-operand.ensures.marks c.retire_marked-asked.ensures.memory;
    }
