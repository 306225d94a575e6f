-- The rows of the cycles so far are written.
use Rattle.std.proofs.Common.{◌≡◌}
use Rattle.stt_top.proofs.Cycles.{RowsLeft}
use Rattle.stt_top.proofs.clocking.write_rows.Given as goal

abbrev pub invariant-loop-done : goal.invariant-loop-done
invariant-loop-done g l = record {
  desc : g.C.Clocked.desc l.core ≡ g.C.Clocked.desc l.initial.core;
  code : g.C.Clocked.code l.core ≡ g.C.Clocked.code l.initial.core;
  rows : RowsLeft (g.C.Clocked.desc l.initial.core) (g.C.Clocked.code l.initial.core) l.cycles l._done (g.C.Clocked.machine l.initial.core) (g.C.Clocked.machine l.core) (g.S.Sink.told l.initial.out) (g.S.Sink.told l.out);
}
