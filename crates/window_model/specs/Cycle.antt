-- One cycle, and whole runs (docs/machine.md, "A cycle", "Runs").
use Rattle.std.specs.Prelude.{ℕ, zero, suc, ◌+◌, List, [], ◌∷◌, ◌++◌, Option}
use Rattle.rv_types.specs.Memory.{Code, Ram}
use Rattle.rv_types.specs.Isa.{with_piece}
use Rattle.rv_types.specs.declared.End.{End}
use Rattle.machine_desc.specs.declared.Desc.{Desc}
use Rattle.window_model.specs.State.{Machine, After, opening, then_does, nothing}
use Rattle.window_model.specs.Fill.{fill, complete}
use Rattle.window_model.specs.Resolve.{resolve}
use Rattle.window_model.specs.Clear.{clear}
use Rattle.window_model.specs.Retire.{retire, unless_ended}
use Rattle.window_model.specs.Issue.{issue}
use Rattle.window_model.specs.Row.{Row}
use Rattle.window_model.specs.Rename.{rename}
use Rattle.window_model.specs.Fetch.{fetch}

-- what a cycle comes to: the state that it leaves, the row and the piece of output
pub record Cycled : Type 0 where
  pub machine : Machine
  pub row : Row
  pub piece : List ℕ

-- the state as its next cycle begins: the cycle's number rises by one
abbrev pub begins_cycle : Machine → Machine
begins_cycle x = record x { cycle = x.cycle + 1 }

-- the phases before Retire: Fill, Complete, Resolve and Clear, each on what the one before left
abbrev pub before_retire : Desc → Machine → After
before_retire d x = then_does (fill d x) (λ y. then_does (complete y) (λ z. then_does (resolve d z) (clear d)))

-- the phases after Retire: Issue, Rename and Fetch, unless the run has ended
abbrev pub after_retire : Desc → Code → Machine → After
after_retire d code x = unless_ended x.end (nothing x) (then_does (issue d x) (λ y. then_does (rename d y) (fetch d code)))

-- one cycle: the seven phases, each on what the one before left; Resolve has two parts, of which Clear is the second
unfoldable pub cycle : Desc → Code → Machine → Cycled
cycle d code x =
    let before = before_retire d (begins_cycle x) in
    let r = retire d before.machine in
    let after = after_retire d code r.machine in
    let events = before.events ++ r.events ++ after.events in
    record { machine = after.machine; row = record { cycle = x.cycle + 1; events = events }; piece = r.piece }

-- the state after k cycles, fewer where the run ended
abbrev pub after_cycles : Desc → Code → ℕ → Machine → Machine
after_cycles d code zero x = x
after_cycles d code (suc k) x = unless_ended x.end x (after_cycles d code k (cycle d code x).machine)

-- the rows of at most n cycles
abbrev pub rows : Desc → Code → ℕ → Machine → List Row
rows d code zero x = []
rows d code (suc n) x = unless_ended x.end [] (let c = cycle d code x in c.row ∷ rows d code n c.machine)

-- the pieces of output of at most n cycles, in turn, but for the empty ones
abbrev pub pieces : Desc → Code → ℕ → Machine → List (List ℕ)
pieces d code zero x = []
pieces d code (suc n) x = unless_ended x.end [] (let c = cycle d code x in with_piece c.piece (pieces d code n c.machine))

-- what a run comes to: its rows, how it ended, and how many instructions retired in how many cycles
pub record Trace : Type 0 where
  pub rows : List Row
  pub end : Option End
  pub retired : ℕ
  pub cycles : ℕ

-- a run of at most n cycles from a state
abbrev pub trace_from : Desc → Code → ℕ → Machine → Trace
trace_from d code n x =
    let last = after_cycles d code n x in
    record { rows = rows d code n x; end = last.end; retired = last.retired; cycles = last.cycle }

-- the state after k cycles from the opening, fewer where the run ended
abbrev pub at : Desc → Code → ℕ → Ram → ℕ → Machine
at d code entry ram k = after_cycles d code k (opening d entry ram)

-- a run of at most n cycles from the opening
abbrev pub trace : Desc → Code → ℕ → Ram → ℕ → Trace
trace d code entry ram n = trace_from d code n (opening d entry ram)
