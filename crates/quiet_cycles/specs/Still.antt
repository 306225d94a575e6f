-- Cycles in which nothing happens, and what is due after them (docs/machine.md, "Cycles in which nothing happens").
use Rattle.std.specs.Prelude.{◌≡◌, ◌⊎◌, ℕ, zero, suc, ◌+◌, ◌<◌, ◌≤◌, List, [], ◌∷◌, All, Any}
use Rattle.rv_types.specs.Memory.{Code}
use Rattle.machine_desc.specs.declared.Desc.{Desc}
use Rattle.window_model.specs.declared.Progress.{Progress}
use Rattle.window_model.specs.declared.Progress.TheVariants.{Busy}
use Rattle.window_model.specs.State.{Machine}
use Rattle.window_model.specs.Row.{Row}
use Rattle.window_model.specs.Cycle.{cycle}

-- ---- cycles in which nothing happens

-- the machine as it is, but for the number of its last cycle
abbrev pub at_cycle : ℕ → Machine → Machine
at_cycle c x = record x { cycle = c }

-- the row of a cycle without events
abbrev pub empty_row : ℕ → Row
empty_row c = record { cycle = c; events = [] }

-- the rows of k cycles without events, from cycle c on
abbrev pub empty_rows : ℕ → ℕ → List Row
empty_rows c zero = []
empty_rows c (suc k) = empty_row c ∷ empty_rows (c + 1) k

-- the next cycle leaves all as it is but its number, has no event and puts nothing out
abbrev pub Still : Desc → Code → Machine → Type 0
Still d code x = cycle d code x ≡ record { machine = at_cycle (x.cycle + 1) x; row = empty_row (x.cycle + 1); piece = [] }

-- every cycle after this one and before cycle n leaves all as it is but its number, has no event and puts nothing out
abbrev pub StillUntil : ℕ → Desc → Code → Machine → Type 0
StillUntil n d code x = (c : ℕ) → x.cycle ≤ c → c + 1 < n → Still d code (at_cycle c x)

-- ---- what is due before cycle n

-- what is due later than this cycle isn't due before cycle n
abbrev pub NotDueBefore : ℕ → ℕ → ℕ → Type 0
NotDueBefore n cycle due = cycle < due → n ≤ due

-- what an entry of this progress is busy with isn't due before cycle n, if it is due later than this cycle
abbrev pub NotDoneBefore : ℕ → ℕ → Progress → Type 0
NotDoneBefore n cycle (Busy due) = NotDueBefore n cycle due
NotDoneBefore n cycle _ = Unit {0}

-- nothing is due after this cycle and before cycle n
pub record NothingDueBefore (n : ℕ) (x : Machine) : Type 0 where
  -- no entry becomes Done before cycle n
  pub entries : All (λ e. NotDoneBefore n x.cycle e.state) x.window
  -- no line comes before cycle n
  pub lines : All (λ m. NotDueBefore n x.cycle m.due) x.misses
  -- the divider doesn't become free before cycle n
  pub divider : NotDueBefore n x.cycle x.divider.free_from

-- ---- what is due in cycle n

-- what is due later than this cycle is due in cycle n
abbrev pub IsDueIn : ℕ → ℕ → ℕ → Type 0
IsDueIn n cycle due = (cycle < due) × (due ≡ n)

-- what an entry of this progress is busy with is due in cycle n, later than this cycle
abbrev pub IsDoneIn : ℕ → ℕ → Progress → Type 0
IsDoneIn n cycle (Busy due) = IsDueIn n cycle due
IsDoneIn n cycle _ = ⊥

-- later than this cycle, in cycle n, an entry becomes Done, a line comes, or the divider becomes free
abbrev pub SomethingDueIn : ℕ → Machine → Type 0
SomethingDueIn n x =
    Any (λ e. IsDoneIn n x.cycle e.state) x.window ⊎ Any (λ m. IsDueIn n x.cycle m.due) x.misses
    ⊎ IsDueIn n x.cycle x.divider.free_from
