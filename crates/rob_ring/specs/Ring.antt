-- What is seen of the reorder buffer.
use Rattle.std.specs.Prelude.{◌≡◌, ℕ, ◌≤◌, ◌<◌, Bool, true, not, List, length, Option, Some, None}
use Rattle.std.specs.Slice.Scan.{HoldsNowhere, holds_at}
use Rattle.window_model.specs.declared.Entry.{Entry}
use Rattle.window_model.specs.Order.{is_busy}
use Rattle.window_model.specs.Taint.{safe, settled}
pub use Rattle.window_model.specs.Serials.{below}

-- the entries in flight, oldest first, and for how many there is room
pub record Ring : Type 0 where
  pub entries : List Entry
  pub room : ℕ

-- the entry executes
abbrev pub in_execution : Entry → Bool
in_execution e = is_busy e.state

-- the entry isn't settled: a branch or JALR that isn't resolved, or a store that isn't cleared
abbrev pub is_open : Entry → Bool
is_open e = not (settled e)

-- something may yet squash what comes after the entry
abbrev pub is_unsafe : Entry → Bool
is_unsafe e = not (safe e)

-- i is the first position from this one on whose entry passes
pub record IsNext (p : Entry → Bool) (entries : List Entry) (from i : ℕ) : Type 0 where
  pub low : from ≤ i
  pub within : i < length entries
  pub before : HoldsNowhere (holds_at p entries) from i
  pub here : holds_at p entries i ≡ true

-- the position of the next entry that passes the test, None where no entry from there on does
abbrev pub Next : (Entry → Bool) → List Entry → ℕ → Option ℕ → Type 0
Next p entries from None = HoldsNowhere (holds_at p entries) from (length entries)
Next p entries from (Some i) = IsNext p entries from i
