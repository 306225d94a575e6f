use Rattle.std.proofs.Common.{◌++◌, replicate, ap, ◌∙◌, arith}
use Rattle.circular_buffer.specs.Buffer.{buffer}
use Rattle.secret_marks.specs.Marks.{new_entry}
use Rattle.entry_marks.proofs.marks.extend.Goals as goal

pub returns : goal.returns
returns c =
    let upto = c.loop-k.invariant.upto in
    let end = c.loop-k-test.false in
    c.loop-k.invariant.is
    ∙ ap (λ n. buffer (c.args.window.now.items ++ replicate n new_entry) c.args.window.now.capacity) (omega (arith, upto, end))
