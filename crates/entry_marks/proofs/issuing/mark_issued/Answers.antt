use Rattle.std.proofs.Common.{◌≡◌, ◌+◌, ◌-◌, ◌<◌, List, length, get_or, slice_set, ap, refl, sym, ◌∙◌, arith}
use Rattle.std.proofs.lemmas.List.{length-set}
use Rattle.circular_buffer.specs.Buffer.{Buffer}
use Rattle.window_model.specs.Order.{before_at}
use Rattle.secret_marks.specs.declared.EntryMarks.{EntryMarks}
use Rattle.secret_marks.specs.Marks.{Marks, issued_marks}
use Rattle.entry_marks.specs.Beside.{marks_before}
use Rattle.entry_marks.specs.Walk.{marks_of, marks_with}
use Rattle.entry_marks.proofs.Before.{found_at}
use Rattle.entry_marks.proofs.Naming.{behind, behind_last, behind_older, behind_within, none_between, none_walked, stands_within, stay_to}
use Rattle.entry_marks.proofs.YoungestFirst.{gets, left_from}
use Rattle.entry_marks.proofs.issuing.mark_issued.Goals as goal

pub loop-k-init : goal.loop-k-init
loop-k-init g c =
    let begun = c.args.marks.now in
    let window = c.args.parts.now.machine.window in
    let issued = c.args.issued.now in
    let step = c.requires.step in
    let all = length issued in
    let none = none_between c.args.parts.now.machine.cycle window issued c.requires.named all (omega arith) in
    let stays = stay_to c.args.parts.now.machine.cycle c.args.parts.now.machine.ram.base (marks_of begun) window begun.window.items step (behind issued all) (length window) (behind_within c.args.parts.now.machine.cycle window issued c.requires.named all (omega arith)) (omega arith)
    (λ j e low high here. none j e low (λ lt. absurd (omega (arith, lt))) here) in
    record {
      marks = ap (marks_with begun) (sym (none_walked c.args.parts.now.machine.cycle c.args.parts.now.machine.ram.base (marks_of begun) window begun.window.items step) ∙ stays);
      step = refl;
      room = refl;
    }

pub loop-k-preserved : goal.loop-k-preserved
loop-k-preserved g c =
    let was = c.loop-k.invariant in
    let more = c.loop-k-test.true in
    let few = c.loop-k.auto.k in
    let begun = c.args.marks.now in
    let window = c.args.parts.now.machine.window in
    let issued = c.args.issued.now in
    let named = c.requires.named in
    let now = c.loop-k.marks.window.items in
    let k = c.loop-k.k - 1 in
    let i = get_or issued k 0 in
    let lt : k < length issued = omega (arith, more, few) in
    let last = behind_last issued c.loop-k.k k (omega (arith, more)) in
    let within = stands_within c.args.parts.now.machine.cycle window issued named k lt in
    let (e, here) = found_at window i within in
    let older = behind_older c.args.parts.now.machine.cycle window issued named k lt in
    let stays = stay_to c.args.parts.now.machine.cycle c.args.parts.now.machine.ram.base (marks_of begun) window begun.window.items c.requires.step (behind issued k) i older (omega (arith, within))
    (λ j f low high there. none_between c.args.parts.now.machine.cycle window issued named k (omega (arith, lt)) j f low (λ lt. high) there) in
    let (own, own_here, written) = gets c.args.parts.now.machine.cycle c.args.parts.now.machine.ram.base (marks_of begun) window begun.window.items c.requires.step (i + 1) i refl e here now
    (ap (λ (m : Marks). m.window) was.marks ∙ ap (left_from c.args.parts.now.machine.cycle c.args.parts.now.machine.ram.base (marks_of begun) window begun.window.items) last) in
    let same : (marks : List EntryMarks) → marks_with c.loop-k.marks marks ≡ marks_with begun marks = λ marks. ap (λ (m : Marks). record m { window = marks }) was.marks in
    record {
      marks = ap (λ (b : Buffer EntryMarks). marks_with c.loop-k.marks b.items) c.put_marks.ensures
          ∙ ap (λ mark. marks_with c.loop-k.marks (slice_set now i mark)) (c.marks_after-new.ensures begun.window.items e own here own_here)
          ∙ ap (λ m. marks_with c.loop-k.marks (slice_set now i (issued_marks c.args.parts.now.machine.cycle c.args.parts.now.machine.ram.base m (before_at window i) (marks_before now i) e own))) (same begun.window.items)
          ∙ same (slice_set now i (issued_marks c.args.parts.now.machine.cycle c.args.parts.now.machine.ram.base (marks_of begun) (before_at window i) (marks_before now i) e own))
          ∙ ap (λ marks. marks_with begun marks) (written ∙ stays);
      step = ap (λ (b : Buffer EntryMarks). length b.items) c.put_marks.ensures ∙ length-set now i _ ∙ was.step;
      room = ap (λ (b : Buffer EntryMarks). b.capacity) c.put_marks.ensures ∙ was.room;
    }

pub returns-clause-marks : goal.returns-clause-marks
returns-clause-marks g c =
    let was = c.loop-k.invariant in
    let end = c.loop-k-test.false in
    let begun = c.args.marks.now in
    let none : c.loop-k.k ≡ 0 = omega (arith, end) in
    was.marks ∙ ap (λ n. marks_with begun (left_from c.args.parts.now.machine.cycle c.args.parts.now.machine.ram.base (marks_of begun) c.args.parts.now.machine.window begun.window.items (behind c.args.issued.now n))) none
