-- Beside Row.antt: what only clauses of the code and lemmas cite.
use Rattle.std.specs.Prelude.{ℕ, ◌+◌, ◌≤◌, List, ◌++◌, length}
use Rattle.window_model.specs.declared.Event.{Event}
use Rattle.window_model.specs.Row.{Row}

-- for how many events a row has room
abbrev pub row_room : ℕ
row_room = 256

-- the row has room for n more events
abbrev pub HasRoom : ℕ → Row → Type 0
HasRoom n row = length row.events + n ≤ row_room

-- the row with these events behind its own
abbrev pub with_events : Row → List Event → Row
with_events row events = record row { events = row.events ++ events }

-- the new row has at most n more events than the old one
abbrev pub IsLonger : ℕ → Row → Row → Type 0
IsLonger n old new = length new.events ≤ length old.events + n

-- ---- the most events of each phase, under every description

-- the most entries that are in flight, in either version: core.rob is at most this
abbrev pub most_entries : ℕ
most_entries = 192

-- the most events of Fill: one for each miss register
abbrev pub most_filled : ℕ
most_filled = 8

-- the most events of Complete: one for each entry
abbrev pub most_done : ℕ
most_done = most_entries

-- the most events of Resolve: what became of one branch or JALR, what the predictor learnt, and a squash
abbrev pub most_resolved : ℕ
most_resolved = 3

-- the most events of Clear: a store that is cleared, a load that passed it wrongly, the load's bit, and a squash
abbrev pub most_cleared : ℕ
most_cleared = 4

-- the most events of Retire: one for each of four entries, and two of the one store that retires a cycle; a call has
-- one more, and is alone
abbrev pub most_retired : ℕ
most_retired = 6

-- the most events of Issue: four arithmetic ones, a multiplication, a division, a store's address and data, and of one
-- load its two lines and the one that is prefetched
abbrev pub most_issued : ℕ
most_issued = 11

-- the most events of Rename, and also of Fetch: as many as are fetched in a cycle
abbrev pub most_fetched : ℕ
most_fetched = 4

-- the most events of the phases before Retire: Fill, Complete, Resolve and Clear
abbrev pub most_before_retire : ℕ
most_before_retire = most_filled + most_done + most_resolved + most_cleared

-- the most events of the phases after Retire: Issue, Rename and Fetch
abbrev pub most_after_retire : ℕ
most_after_retire = most_issued + most_fetched + most_fetched
