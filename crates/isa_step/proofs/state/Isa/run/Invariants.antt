use Rattle.std.proofs.Common.{◌≡◌, ◌-◌}
use Rattle.rv_types.specs.Isa.{isa}
use Rattle.elf_loader.specs.inner.Code.{word_at}
use Rattle.isa_step.proofs.Runs.{Rest}
use Rattle.isa_step.proofs.state.Isa.run.Given as goal

abbrev pub invariant-loop-done : goal.invariant-loop-done
invariant-loop-done l = record {
  rest : Rest (isa (word_at l.initial.self.code) l.initial.self.hart l.n) (isa (word_at l.self.code) l.self.hart (l.n - l.done)) l.done;
  code : l.self.code ≡ l.initial.self.code;
}
