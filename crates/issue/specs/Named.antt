-- Which entries Issue has issued, by their positions (docs/machine.md, "Issue").
use Rattle.std.specs.Prelude.{◌≡◌, ◌≢◌, ◌<◌, ◌⊎◌, ℕ, List, map, slice_get}
use Rattle.std.specs.List.{All, AllPairs, Contains}
use Rattle.window_model.specs.declared.Entry.{Entry}
use Rattle.core_parts.specs.declared.decided.Put.{Put}

-- positions of entries in flight, oldest first
pub record Positions : Type 0 where
  pub items : List ℕ

-- the positions of the entries that are put in their places
abbrev pub positions_of : List Put → List ℕ
positions_of puts = map (λ p. p.position) puts

-- the positions are those of the entries that have issued, or of which a part has, oldest first: there the window isn't
-- as it was, and everywhere else it is
pub record NamesIssued (old new : List Entry) (positions : List ℕ) : Type 0 where
  pub by_age : AllPairs (λ i j. i < j) positions
  pub each : All (λ i. slice_get new i ≢ slice_get old i) positions
  pub others : (i : ℕ) → (slice_get new i ≡ slice_get old i) ⊎ Contains positions i
