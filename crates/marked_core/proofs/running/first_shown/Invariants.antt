-- Nothing has shown in the cycles so far, and what they published is counted.
use Rattle.std.proofs.Common.{◌≡◌}
use Rattle.elf_loader.specs.inner.Code.{word_at}
use Rattle.secret_marks.specs.Streams.{public_in}
use Rattle.marked_core.proofs.Looking.{Counts, Looks}
use Rattle.marked_core.proofs.running.first_shown.Given as goal

abbrev pub invariant-loop : goal.invariant-loop
invariant-loop g l = record {
  desc : l.core.desc ≡ l.initial.core.desc;
  code : l.core.code ≡ l.initial.core.code;
  public : l.core.public ≡ l.initial.core.public;
  looks : Looks (public_in l.initial.core.public) l.initial.core.desc (word_at l.initial.core.code) l.cycles l.counter l.initial.core.machine l.initial.core.marks l.core.machine l.core.marks;
  counts : Counts (public_in l.initial.core.public) l.initial.core.desc (word_at l.initial.core.code) l.cycles l.counter l.initial.core.machine l.core.machine l.published;
}
