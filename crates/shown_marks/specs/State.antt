-- What is looked at, when it stands for a machine, and an entry in its place (docs/architecture.md, "How the parts
-- refine the window").
use Rattle.std.specs.Prelude.{◌≡◌, List, length}
use Rattle.std.specs.List.{AllByRecursion as Each}
use Rattle.machine_facts.specs.Sized.{HasParts, Together}
use Rattle.window_model.specs.declared.Entry.{Entry}
use Rattle.window_model.specs.Order.{before_at}
use Rattle.window_model.specs.Ready.{holds}
use Rattle.visibility.specs.Point.{HasAdvanced}
use Rattle.refinement.specs.InFlight.{InFlight}
use Rattle.refinement.specs.Refines.{Refines}
use Rattle.secret_marks.specs.declared.EntryMarks.{EntryMarks}
use Rattle.secret_marks.specs.Marks.{Marks}
use Rattle.entry_marks.specs.Beside.{marks_before}
use Rattle.entry_marks.specs.Walk.{with_window}
use Rattle.issue.specs.declared.candidate.Candidate.{Candidate}
use Rattle.issue.specs.Candidates.{IsCandidate}
use Rattle.shown_marks.specs.declared.seen.Seen.{Seen}

-- the window that the walk looks at, oldest entry first
abbrev pub window_of : Seen → List Entry
window_of s = s.walk.rob.now.entries

-- the marks of the window's entries, oldest first
abbrev pub each_marks : Seen → List EntryMarks
each_marks s = s.walk.marks.now.items

-- the marks beside the machine
abbrev pub marks_in : Seen → Marks
marks_in s = with_window s.walk (each_marks s)

-- what is in flight: the parts that are looked at, and of these others what they don't hold
abbrev pub flight_of : InFlight → Seen → InFlight
flight_of rest s = record rest {
  version = s.desc.now.version;
  holds = holds s.desc.now.stt_defence;
  window = window_of s;
  sources = s.walk.sources.now.items;
  held = s.stations.now.held;
  queues = s.walk.lsq.now;
  point = s.point.now;
}

-- the parts refine the window, the point has just moved, each entry has its marks, and of a store that waits a part
-- hasn't issued
pub record ShowsInvariant (s : Seen) : Type 0 where
  pub rest : InFlight
  pub refines : Refines (flight_of rest s)
  pub step : length (each_marks s) ≡ length (window_of s)
  pub store_parts : Each HasParts (window_of s)
  pub together : Each (Together s.desc.now) (window_of s)
  pub advanced : HasAdvanced s.point.now (window_of s)
  pub model : s.point.now.model ≡ s.desc.now.stt_model

-- ---- an entry in its place

-- the entries older than the one in its place, youngest first
abbrev pub before_of : Seen → Candidate → List Entry
before_of s p = before_at (window_of s) p.position

-- the marks of the entries older than this one, youngest first
abbrev pub marks_before_of : Seen → Candidate → List EntryMarks
marks_before_of s p = marks_before (each_marks s) p.position

-- the entry has its turn on what is looked at
pub record HasTurn (s : Seen) (p : Candidate) : Type 0 where
  pub stands : ShowsInvariant s
  pub candidate : IsCandidate s.desc.now (window_of s) p
