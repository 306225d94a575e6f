use Rattle.std.proofs.Common.{◌≡◌, ◌-◌}
use Rattle.rv_types.specs.Isa.{isa}
use Rattle.elf_loader.specs.inner.Code.{word_at}
use Rattle.stt_top.proofs.Turns.{Turned}
use Rattle.stt_top.proofs.running.run.Given as goal

abbrev pub invariant-loop-done : goal.invariant-loop-done
invariant-loop-done g l = record {
  turned : Turned (isa (word_at l.initial.state.code) l.initial.state.hart l.steps) (isa (word_at l.state.code) l.state.hart (l.steps - l.done)) l.done (g.S.Sink.told l.initial.out) (g.S.Sink.told l.out);
  code : l.state.code ≡ l.initial.state.code;
}
