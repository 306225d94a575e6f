-- What is seen of the stations: the entries that wait, by age, and what each of them waits for.
use Rattle.std.specs.Prelude.{◌≡◌, ℕ, zero, suc, ◌<◌, ◌≤◌, Bool, true, false, ◌==◌, List, [], ◌∷◌, length, map, Option, Some, None, is_none, slice_get, slice_index_or, if◌then◌else◌}
use Rattle.std.specs.Option.{option_map}
use Rattle.std.specs.List.{AllPairs, list_all, list_any}
use Rattle.stations.specs.declared.wants.Part.{Part}
use Rattle.stations.specs.declared.wants.Part.TheVariants as part
use Rattle.stations.specs.declared.wants.Wants.{Wants}
use Rattle.stations.specs.declared.wants.Wants.TheVariants as wants

-- an entry that waits: what it needs before it or a part of it may issue, the serials that it awaits, at most two, and
-- the place that it has
pub record Station : Type 0 where
  pub serial : ℕ
  pub wants : Wants
  pub awaits : List (Option ℕ)
  pub place : ℕ

-- the entries that wait, oldest first, and how many places there are
pub record Stations : Type 0 where
  pub held : List Station
  pub room : ℕ

-- serials rise from the oldest entry on
abbrev pub Rise : List Station → Type 0
Rise held = AllPairs (λ a b. a.serial < b.serial) held

-- what a source awaits, but for this serial
abbrev pub strike : ℕ → Option ℕ → Option ℕ
strike serial None = None
strike serial (Some awaited) = if awaited == serial then None else Some awaited

-- the entry no longer awaits the serial
abbrev pub struck : ℕ → Station → Station
struck serial s = record s { awaits = map (strike serial) s.awaits }

-- the entry awaits nothing any more
abbrev pub awaits_none : Station → Bool
awaits_none s = list_all is_none s.awaits

-- the source of this number is awaited no more, or there is none
abbrev pub nothing_at : ℕ → List (Option ℕ) → Bool
nothing_at source awaits = is_none (slice_index_or awaits source None)

-- what an entry needs is there: all its sources, one of them, the first or the second
abbrev pub able_as : Wants → List (Option ℕ) → Bool
able_as wants.Whole awaits = list_all is_none awaits
able_as wants.Either awaits = list_any is_none awaits
able_as wants.Address awaits = nothing_at 0 awaits
able_as wants.Data awaits = nothing_at 1 awaits

-- the entry, or a part of it, may issue
abbrev pub is_able : Station → Bool
is_able s = able_as s.wants s.awaits

-- of the entries from one position on and before another none may issue, nor a part of one
abbrev pub NoneAble : List Station → ℕ → ℕ → Type 0
NoneAble held from to = (k : ℕ) → from ≤ k → k < to → option_map is_able (slice_get held k) ≡ Some false

-- i is the first position from this one on whose entry may issue, or a part of it
pub record IsNextAble (held : List Station) (from i : ℕ) : Type 0 where
  pub low : from ≤ i
  pub within : i < length held
  pub before : NoneAble held from i
  pub here : option_map is_able (slice_get held i) ≡ Some true

-- the next position from one on whose entry may issue, or a part of it, None where there is none
abbrev pub NextAble : List Station → ℕ → Option ℕ → Type 0
NextAble held from None = NoneAble held from (length held)
NextAble held from (Some i) = IsNextAble held from i

-- which of an entry's sources a part needs
abbrev pub source_of : Part → ℕ
source_of part.Address = 0
source_of part.Data = 1

-- the source that a part of the entry needs is there
abbrev pub ready_part : Part → Station → Bool
ready_part p s = nothing_at (source_of p) s.awaits

-- the entry needs something else from now on
abbrev pub now_wants : Wants → Station → Station
now_wants next s = record s { wants = next }

-- the entries, of which the one at a position needs something else from now on: at 1, of s ∷ t ∷ later, it's t
abbrev pub left_wanting : ℕ → Wants → List Station → List Station
left_wanting i next [] = []
left_wanting zero next (s ∷ later) = now_wants next s ∷ later
left_wanting (suc i) next (s ∷ later) = s ∷ left_wanting i next later
