use Rattle.std.proofs.Common.{ap, ◌+◌, ◌-◌, ◌++◌, map, ◌∙◌}
use Rattle.rv_types.specs.Memory.{range}
use Rattle.secret_marks.specs.Ranges.{secret_in}
use Rattle.mark_words.proofs.Secrets.{marks_next}
use Rattle.mark_words.proofs.secret.secret_bytes.Goals as goal

-- the marks made so far, and those of the bytes that are left, are all, as one more is made
pub loop-i-preserved : goal.loop-i-preserved
loop-i-preserved c =
    let rest = map (secret_in c.args.secret.now) (range (c.args.base + (c.loop-i.i + 1)) (c.args.size - (c.loop-i.i + 1))) in
    ap (λ bytes. bytes ++ rest) c.in_ok-push.ensures.items
    ∙ marks_next (secret_in c.args.secret.now) c.args.base c.args.size c.loop-i.bytes.items c.is_secret.result c.loop-i.i c.loop-i-test.true c.is_secret.ensures c.loop-i.invariant
