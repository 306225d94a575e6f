-- When marks stand beside the parts of a core.
use Rattle.std.specs.Prelude.{◌≡◌, ℕ, ◌+◌, Bool, true, false, List, None, length}
use Rattle.std.specs.List.{AllByRecursion as Each}
use Rattle.elf_loader.specs.inner.Code.{word_at}
use Rattle.window_model.specs.declared.Entry.{Entry}
use Rattle.committed_state.specs.Consistent.{IsDueBy}
use Rattle.core_parts.specs.Described.{Described}
use Rattle.core_cycle.specs.Kept.{Kept}
use Rattle.secret_marks.specs.declared.EntryMarks.{EntryMarks}
use Rattle.secret_marks.specs.Marks.{is_at}
use Rattle.secret_marks.specs.Shown.{resolved_shown}
use Rattle.entry_marks.specs.declared.marks.Marks.{Marks}

-- marks are in step with the parts: every entry in flight has its marks, and there is room for those of as many as may
-- be in flight
pub record InStep (s : Described) (m : Marks) : Type 0 where
  pub entries : length m.window.items ≡ length s.machine.window
  pub room : m.window.capacity ≡ s.desc.core_rob

-- an entry, if it has issued, did so by this cycle
abbrev pub IssuedBy : ℕ → Entry → Type 0
IssuedBy cycle e = IsDueBy cycle e.issued

-- the entry has not issued in this cycle, nor, if it is a store, its data part
abbrev pub NotYet : ℕ → Entry → Type 0
NotYet cycle e = (is_at cycle e.issued ≡ false) × (is_at (cycle + 1) e.data_due ≡ false)

-- where it is noted that nothing resolved is marked, no branch or JALR is resolved with a marked outcome
abbrev pub AsNoted : Bool → List Entry → List EntryMarks → Type 0
AsNoted unexposed window marks = unexposed ≡ true → resolved_shown window marks ≡ None

-- between two cycles there holds of the parts what holds of any core's; each entry and each byte of memory has its
-- mark, what has issued did so by this cycle, and nothing resolved is marked where that is noted
pub record Between (s : Described) (m : Marks) (unexposed : Bool) : Type 0 where
  pub kept : Kept (word_at s.code) s
  pub step : InStep s m
  pub memory : length m.bytes.items ≡ length s.machine.ram.bytes
  pub issued : Each (IssuedBy s.machine.cycle) s.machine.window
  pub noted : AsNoted unexposed s.machine.window m.window.items
