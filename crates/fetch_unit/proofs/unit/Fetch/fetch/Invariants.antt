use Rattle.std.proofs.Common.{◌-◌}
use Rattle.elf_loader.specs.inner.Code.{word_at}
use Rattle.fetch_unit.proofs.Fetching.{FetchesOn}
use Rattle.fetch_unit.proofs.unit.Fetch.fetch.Given as goal

abbrev pub invariant-loop : goal.invariant-loop
invariant-loop l = FetchesOn (word_at l.code) l.predictor l.initial.self l.initial.history l.initial.row (l.initial.self.width - l.counter) l.self l.history l.row
