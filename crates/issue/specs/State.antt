-- The state that the phase looks at, where its parts stand for a machine, and an entry in its place (docs/machine.md,
-- "Issue"; docs/architecture.md, "How the parts refine the window").
use Rattle.std.specs.Prelude.{◌≡◌, ℕ, ◌+◌, ◌^◌, ◌≤◌, List, length, slice_get, Some}
use Rattle.std.specs.List.{AllByRecursion as Each}
use Rattle.machine_desc.specs.declared.Desc.{Desc}
use Rattle.machine_facts.specs.Sized.{HasParts, Together}
use Rattle.machine_facts.specs.Timely.{WaitsOrDone}
use Rattle.window_model.specs.declared.Entry.{Entry}
use Rattle.window_model.specs.Around.{Around}
use Rattle.machine_desc.specs.Questions.{loads_pass}
use Rattle.window_model.specs.Order.{before_at}
use Rattle.window_model.specs.Ready.{holds}
use Rattle.rename_taint.specs.declared.Write.{Write}
use Rattle.visibility.specs.Point.{HasAdvanced}
use Rattle.refinement.specs.InFlight.{InFlight}
use Rattle.refinement.specs.Refines.{Refines}
use Rattle.issue.specs.declared.candidate.Candidate.{Candidate}
use Rattle.issue.specs.declared.seen.Seen.{Seen}
use Rattle.issue.specs.Candidates.{IsCandidate}

-- what an entry looks at besides the older ones
abbrev pub around_of : Seen → Around
around_of s = record { cycle = s.cycle; regs = s.regs.now; ram = s.ram.now; dependence = s.dependence.now; cache = s.tags.now.sets; second = s.second.now.sets; misses = s.mshrs.now.misses; free_from = s.free_from }

-- the window that the phase looks at
abbrev pub window_of : Seen → List Entry
window_of s = s.rob.now.entries

-- what is in flight, with the next serial and the writes of the rename table
abbrev pub flight_of : ℕ → List Write → Seen → InFlight
flight_of next writes s = record {
  version = s.desc.now.version;
  holds = holds s.desc.now.stt_defence;
  tracked = loads_pass s.desc.now;
  next = next;
  window = s.rob.now.entries;
  sources = s.sources.now.items;
  writes = writes;
  held = s.stations.now.held;
  queues = s.lsq.now;
  point = s.point.now;
}

-- the parts refine the window, the point has just moved, the bits of dependence, both levels of the cache and the
-- registers are of the description, and memory ends where it is said to
pub record IssueInvariant (s : Seen) : Type 0 where
  pub next : ℕ
  pub writes : List Write
  pub refines : Refines (flight_of next writes s)
  -- a store that waits lacks a part, and its parts go together
  pub store_parts : Each HasParts s.rob.now.entries
  pub together : Each (Together s.desc.now) s.rob.now.entries
  -- no store executes as the phase begins
  pub settled : Each WaitsOrDone s.rob.now.entries
  pub advanced : HasAdvanced s.point.now s.rob.now.entries
  pub model : s.point.now.model ≡ s.desc.now.stt_model
  pub bits : length s.dependence.now ≡ s.desc.now.predictor_depend
  pub cache : s.tags.now.desc ≡ s.desc.now
  pub second : s.second.now.desc ≡ s.desc.now
  pub registers : s.mshrs.now.room ≡ s.desc.now.cache_mshrs
  pub fits : length s.mshrs.now.misses ≤ s.mshrs.now.room
  pub memory : s.memory_end ≡ s.ram.now.base + length s.ram.now.bytes
  pub low : s.memory_end ≤ 2 ^ 32

-- ---- an entry in its place

-- the older ones, youngest first
abbrev pub before_of : Seen → Candidate → List Entry
before_of s p = before_at s.rob.now.entries p.position

-- what a definition of the machine says of the entry in its place
abbrev pub here : {A : Type 0} → (Desc → Around → List Entry → Entry → A) → Seen → Candidate → A
here f s p = f s.desc.now (around_of s) (before_of s p) p.entry.now

-- the entry stands at this position of the window
abbrev pub StandsAt : Seen → ℕ → Entry → Type 0
StandsAt s i e = slice_get s.rob.now.entries i ≡ Some e

-- the entry has its turn on what the phase looks at
pub record HasTurn (s : Seen) (p : Candidate) : Type 0 where
  pub stands : IssueInvariant s
  pub candidate : IsCandidate s.desc.now (window_of s) p
