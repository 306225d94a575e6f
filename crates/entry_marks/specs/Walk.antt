-- What the walks over marks look at, when it stands for a machine.
use Rattle.std.specs.Prelude.{◌≡◌, ℕ, List, length, slice_get, Some}
use Rattle.window_model.specs.declared.Entry.{Entry}
use Rattle.window_model.specs.Order.{before_at}
use Rattle.rob_ring.specs.declared.beside.Sources.{Sources}
use Rattle.lsq.specs.Queues.{Queues}
use Rattle.refinement.specs.InFlight.{InFlight}
use Rattle.refinement.specs.Refines.{Refines}
use Rattle.secret_marks.specs.declared.EntryMarks.{EntryMarks}
use Rattle.secret_marks.specs.Marks.{Marks}
use Rattle.entry_marks.specs.declared.marks.Marks.{Marks as Beside}
use Rattle.entry_marks.specs.declared.walk.Walk.{Walk}
use Rattle.entry_marks.specs.Beside.{marks_before}

-- the sources and queues, with some other parts, refine the window, and each entry has its marks
pub record RefinesBeside (window : List Entry) (sources : List Sources) (queues : Queues) (marks : List EntryMarks) : Type 0 where
  pub rest : InFlight
  pub refines : Refines (record rest { window = window; sources = sources; queues = queues })
  pub step : length marks ≡ length window

-- the sources and queues that a walk looks at refine its window, and each entry has its marks
abbrev pub WalkInvariant : Walk → Type 0
WalkInvariant w = RefinesBeside w.rob.now.entries w.sources.now.items w.lsq.now w.marks.now.items

-- the entry stands at position i, counted from the oldest
abbrev pub StandsAt : Walk → ℕ → Entry → Type 0
StandsAt w i e = slice_get w.rob.now.entries i ≡ Some e

-- the entries older than a position, youngest first
abbrev pub entries_at : Walk → ℕ → List Entry
entries_at w i = before_at w.rob.now.entries i

-- the marks of the entries older than a position, youngest first
abbrev pub marks_at : Walk → ℕ → List EntryMarks
marks_at w i = marks_before w.marks.now.items i

-- the marks of a walk's registers and memory, with these of a window
abbrev pub with_window : Walk → List EntryMarks → Marks
with_window w window = record { regs = w.regs.now; bytes = w.bytes.now.items; window = window }

-- the marks that the code has of registers and memory, with these of a window in the place of its own
abbrev pub marks_with : Beside → List EntryMarks → Marks
marks_with b window = record { regs = b.regs; bytes = b.bytes.items; window = window }

-- the marks that the code has, with those of its own window
abbrev pub marks_of : Beside → Marks
marks_of b = marks_with b b.window.items
