-- What phases make of the machine that a core holds (docs/machine.md, "A cycle").
use Rattle.elf_loader.specs.inner.Code.{word_at}
use Rattle.window_model.specs.State.{After}
use Rattle.window_model.specs.Cycle.{after_retire, before_retire}
use Rattle.core_parts.specs.Described.{Described}

-- what the phases before Retire leave of the machine
abbrev pub phases_before : Described → After
phases_before s = before_retire s.desc s.machine

-- what the phases after Retire leave of the machine
abbrev pub phases_after : Described → After
phases_after s = after_retire s.desc (word_at s.code) s.machine
