-- The stretches so far are counted, and their lines are written.
use Rattle.std.proofs.Common.{◌≡◌}
use Rattle.elf_loader.specs.inner.Code.{word_at}
use Rattle.stats_top.specs.inner.Counting.{Sound}
use Rattle.stats_top.proofs.Tally.{StretchesLeft}
use Rattle.stats_top.proofs.counting.count_stretches.Given as goal

abbrev pub decreases-loop-left : goal.decreases-loop-left
decreases-loop-left g l = l.left

abbrev pub invariant-loop-left : goal.invariant-loop-left
invariant-loop-left g l = record {
  desc : l.core.desc ≡ l.initial.core.desc;
  code : word_at l.core.code ≡ word_at l.initial.core.code;
  sound : Sound l.core.desc l.core.machine;
  written : StretchesLeft l.every.cycles l.numbers l.initial.core.desc (word_at l.initial.core.code) l.cycles l.left l.initial.core.machine l.core.machine l.carried.known
      (g.S.Sink.told l.initial.out) (g.S.Sink.told l.out);
}
