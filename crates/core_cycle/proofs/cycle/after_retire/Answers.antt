use Rattle.std.proofs.Common.{ap, ◌∙◌, length}
use Rattle.core_cycle.proofs.Cycling.{fetched_advanced}
use Rattle.core_cycle.proofs.Moving.{described_advanced, rename_silent}
use Rattle.core_cycle.proofs.cycle.after_retire.Goals as goal

pub advance_after-requires : goal.advance_after-requires
advance_after-requires g c = record {
  advanced = λ same.
      described_advanced c.issue.new.parts c.rename.new.parts _ c.rename.ensures.machine
      (rename_silent _ c.issue.new.parts.machine c.issue.new.row c.rename.new.row (same ∙ ap length c.events-issued.ensures.value) c.issue.ensures.advanced _ c.rename.ensures.row);
}

pub returns-clause-advanced : goal.returns-clause-advanced
returns-clause-advanced g c = fetched_advanced c.advance_after.new.parts c.fetch.new.self c.fetch.ensures.machine c.advance_after.ensures.advanced
