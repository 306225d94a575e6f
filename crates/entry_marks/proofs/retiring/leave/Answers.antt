use Rattle.std.proofs.Common.{◌+◌, ◌-◌, drop, ap, sym, ◌∙◌, arith}
use Rattle.secret_marks.specs.Marks.{marks_after_leaving}
use Rattle.entry_marks.specs.Walk.{marks_with}
use Rattle.entry_marks.proofs.Before.{found_at, indexed}
use Rattle.entry_marks.proofs.Copies.{few_done, leaves_next}
use Rattle.entry_marks.proofs.retiring.leave.Goals as goal

pub loop-k-preserved : goal.loop-k-preserved
loop-k-preserved c =
    let was = c.loop-k.invariant in
    let k = c.loop-k.k in
    let more = c.loop-k-test.true in
    let all = c.requires.copied in
    let owns = c.args.marks.now.window.items in
    record {
      marks = λ window copied.
          let count = copied.count in
          let few = few_done window in
          let step = copied.step in
          let (e, here) = found_at window k (omega (arith, more, all, count, few)) in
          let (mark, here2) = found_at owns k (omega (arith, more, all, count, few, step)) in
          let here3 = indexed c.args.leaving.now.entries.items _ k _ (omega (arith, more, all)) c.as_slice-entries.ensures.value c.index-entries-k.is in
          ap (λ m. marks_after_leaving c.args.base (c.args.count - (k + 1)) (drop (k + 1) window) m (drop (k + 1) owns))
          (c.move_marks.ensures.marks e mark (drop k owns) (drop (k + 1) owns) (copied.each k e mark _ here here2 here3))
          ∙ sym (leaves_next c.args.base c.args.count window owns (marks_with c.loop-k.marks (drop k owns)) k e mark more here here2)
          ∙ was.marks window copied;
      window = c.move_marks.ensures.window ∙ was.window;
      memory = c.move_marks.ensures.memory ∙ was.memory;
    }
