use Rattle.std.proofs.Common.{◌+◌, length, ap, sym, subst, ◌∙◌, arith, length-append}
use Rattle.entry_marks.proofs.Copies.{Copies, all_counted, copied_more, ends_count, one_counted}
use Rattle.entry_marks.proofs.retiring.leaving.Goals as goal

pub returns-then-not-is_done : goal.returns-then-not-is_done
returns-then-not-is_done c =
    let was = c.loop-i.invariant in
    let count = was.count in
    let more = c.loop-i-test.true in
    let ends = ends_count c.args.rob.now.entries c.loop-i.i c.lend-entry.result.now c.lend-entry.ensures (sym c.is_done.ensures ∙ c.if-not-is_done.true) was.done in
    record { step = c.requires.step; count = omega (arith, count, more, ends); each = was.each }

pub loop-i-preserved : goal.loop-i-preserved
loop-i-preserved c =
    let was = c.loop-i.invariant in
    let window = c.args.rob.now.entries in
    let marks = c.args.marks.now.items in
    record {
      each = subst (λ copies. Copies window marks copies) (sym c.push.ensures.items)
          (copied_more window marks c.loop-i.entries.items c.loop-i.i _ _ _ was.count c.lend-entry.ensures c.marks_at.ensures c.copy_of.ensures was.each);
      count = ap (λ copies. length copies) c.push.ensures.items ∙ length-append c.loop-i.entries.items _ ∙ ap (λ k. k + 1) was.count;
      done = one_counted window c.loop-i.i c.lend-entry.result.now c.lend-entry.ensures (sym c.is_done.ensures ∙ c.if-not-is_done.false) was.done;
    }

pub returns : goal.returns
returns c =
    let was = c.loop-i.invariant in
    record { step = c.requires.step; count = was.count ∙ all_counted c.args.rob.now.entries c.loop-i.i (omega (arith, c)) was.done; each = was.each }
