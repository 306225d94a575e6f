-- The marks of a window by position (docs/theorems.md, "Secrets that are loaded").
use Rattle.std.specs.Prelude.{ℕ, ◌-◌, Bool, false, List, length, take, reverse, get_or, slice_get, Option, Some, None}
use Rattle.window_model.specs.declared.Entry.{Entry}
use Rattle.window_model.specs.Retire.{addr_of}
use Rattle.window_model.specs.Serials.{below}
use Rattle.refinement.specs.Writers.{in_flight}
use Rattle.secret_marks.specs.declared.EntryMarks.{EntryMarks}
use Rattle.secret_marks.specs.declared.WordMarks.{WordMarks}
use Rattle.secret_marks.specs.Words.{mark_at, unmarked}

-- the marks of the entries older than a position, youngest first
abbrev pub marks_before : List EntryMarks → ℕ → List EntryMarks
marks_before marks i = reverse (take i marks)

-- the marks, where there is an entry that has them
abbrev pub if_entry : Option Entry → Option EntryMarks → Option EntryMarks
if_entry None mark = None
if_entry (Some e) mark = mark

-- the marks of the entry with a serial, if it is in flight
abbrev pub mark_of : List Entry → List EntryMarks → Option ℕ → Option EntryMarks
mark_of window marks None = None
mark_of window marks (Some serial) = if_entry (in_flight window (Some serial)) (slice_get marks (length (below serial window)))

-- the marks of an entry's value, or where there is no entry those of the retired register
abbrev pub result_or : Option EntryMarks → WordMarks → WordMarks
result_or None retired = retired
result_or (Some mark) retired = mark.result

-- the marks of a source by the serial of its writer: unmarked where there is no source
abbrev pub marks_by : List WordMarks → List Entry → List EntryMarks → Option ℕ → Option ℕ → WordMarks
marks_by regs window marks None writer = unmarked
marks_by regs window marks (Some r) writer = result_or (mark_of window marks writer) (get_or regs r unmarked)

-- the mark of a byte that an entry with these marks stores; none where there is no entry
abbrev pub stored_at : ℕ → Option Entry → Option EntryMarks → Bool
stored_at a (Some e) (Some mark) = mark_at mark.stored (a - addr_of e.outcome)
stored_at a _ _ = false

-- the mark of a byte by the serial of the store that gives it, if that is in flight, or memory's where none does
abbrev pub given_by : List Entry → List EntryMarks → Bool → ℕ → Option ℕ → Bool
given_by window marks memory a None = memory
given_by window marks memory a (Some serial) = stored_at a (in_flight window (Some serial)) (slice_get marks (length (below serial window)))
