-- The cycles so far are counted.
use Rattle.std.proofs.Common.{◌≡◌, ◌*◌}
use Rattle.elf_loader.specs.inner.Code.{word_at}
use Rattle.run_counts.specs.inner.Counting.{AtMost}
use Rattle.stats_top.specs.inner.Counting.{Sound}
use Rattle.stats_top.proofs.Tally.{CountedSoFar}
use Rattle.stats_top.proofs.counting.count_stretch.Given as goal

abbrev pub invariant-loop-done : goal.invariant-loop-done
invariant-loop-done g l = record {
  desc : l.core.desc ≡ l.initial.core.desc;
  code : word_at l.core.code ≡ word_at l.initial.core.code;
  sound : Sound l.core.desc l.core.machine;
  counted : CountedSoFar l.numbers l.initial.core.desc (word_at l.initial.core.code) l.cycles l._done l.initial.core.machine l.core.machine l.initial.carried.known l.carried.known;
  few : AtMost (256 * l._done) l.numbers.counts;
}
