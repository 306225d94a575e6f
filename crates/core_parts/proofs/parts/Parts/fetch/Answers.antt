use Rattle.elf_loader.specs.inner.Code.{word_at}
use Rattle.core_parts.proofs.Fetched.{fetch_whole, fetch_shown, fetch_row, same_counters}
use Rattle.core_parts.proofs.parts.Parts.fetch.Goals as goal

pub fetch-requires-clause-same_counters : goal.fetch-requires-clause-same_counters
fetch-requires-clause-same_counters g c = same_counters _ c.self.invariant

pub invariant_of-self : goal.invariant_of-self
invariant_of-self g c = fetch_whole (word_at c.self.inside.code) _ _ _ c.self.invariant c.fetch.ensures.machine c.fetch.ensures.sizes c.fetch.ensures.history_sizes

pub returns-clause-machine : goal.returns-clause-machine
returns-clause-machine g c = fetch_shown _ c.fetch.new.self c.fetch.new.history _ c.self.invariant c.fetch.ensures.machine c.self.view_is

pub returns-clause-row : goal.returns-clause-row
returns-clause-row g c = fetch_row _ _ _ _ c.self.invariant c.fetch.ensures.row c.self.view_is
