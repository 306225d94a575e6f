use Rattle.std.proofs.Common.{ap, ◌∙◌, length}
use Rattle.elf_loader.specs.inner.Code.{word_at}
use Rattle.core_cycle.proofs.Cycling.{fetched_advanced, fetched_window}
use Rattle.core_cycle.proofs.Moving.{described_advanced, rename_silent}
use Rattle.marked_core.proofs.Steps.{over_phase, over_point}
use Rattle.marked_core.proofs.halves.after_retire.Goals as goal

pub advance_after-requires : goal.advance_after-requires
advance_after-requires g c = record {
  advanced = λ same.
      described_advanced c.issue_marked-shown.new.parts c.rename_marked.new.parts _ c.rename_marked.ensures.machine
      (rename_silent _ c.issue_marked-shown.new.parts.machine c.issue_marked-shown.new.row c.rename_marked.new.row (same ∙ ap length c.events-issued.ensures.value) c.issue_marked-shown.ensures.advanced _ c.rename_marked.ensures.row);
}

pub returns-clause-advanced : goal.returns-clause-advanced
returns-clause-advanced g c = fetched_advanced c.advance_after.new.parts c.fetch.new.self c.fetch.ensures.machine c.advance_after.ensures.advanced

pub returns-clause-step : goal.returns-clause-step
returns-clause-step g c =
    let s = c.advance_after.new.parts in
    over_phase s c.fetch.new.self _ _ c.fetch.ensures.machine (ap length (fetched_window s.desc (word_at s.code) s.machine))
    (over_point c.rename_marked.new.parts s _ _ c.advance_after.ensures.others c.rename_marked.ensures.step)
