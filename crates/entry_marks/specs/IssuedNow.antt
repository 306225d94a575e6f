-- Which entries are named as those that issued (docs/machine.md, "Issue").
use Rattle.std.specs.Prelude.{◌≡◌, ℕ, ◌+◌, ◌<◌, Bool, true, ◌||◌, List, length, Some, slice_get}
use Rattle.std.specs.List.{All, AllPairs, Contains}
use Rattle.window_model.specs.declared.Entry.{Entry}
use Rattle.secret_marks.specs.Marks.{is_at}

-- the entry issued in this cycle, or a store's data part did
abbrev pub has_issued : ℕ → Entry → Bool
has_issued cycle e = is_at cycle e.issued || is_at (cycle + 1) e.data_due

-- the positions are of entries of the window, oldest first, and each entry that has issued in this cycle has one of
-- them
pub record NamesEachIssued (cycle : ℕ) (window : List Entry) (positions : List ℕ) : Type 0 where
  pub by_age : AllPairs (λ i j. i < j) positions
  pub within : All (λ i. i < length window) positions
  pub each : (i : ℕ) (e : Entry) → slice_get window i ≡ Some e → has_issued cycle e ≡ true → Contains positions i
