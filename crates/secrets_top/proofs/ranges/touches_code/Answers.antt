-- Where a byte of the range isn't code, the range touches code if a byte behind that one does.
use Rattle.std.proofs.Common.{sym, ◌∙◌}
use Rattle.elf_loader.specs.inner.Code.{word_at}
use Rattle.secrets_top.specs.Ranges.{in_code}
use Rattle.secrets_top.proofs.Touching.{passed}
use Rattle.secrets_top.proofs.ranges.touches_code.Goals as goal

pub loop-place-preserved : goal.loop-place-preserved
loop-place-preserved c =
    sym (passed (in_code (word_at c.args.code.now)) c.args.range.now.addr c.args.range.now.bytes c.loop-place.place c.in_code.result c.loop-place-test.true c.in_code.ensures c.if-in_code.false)
    ∙ c.loop-place.invariant
