-- What the visibility point keeps between two moves, as the window changes (docs/architecture.md, "How the parts
-- refine the window").
use Rattle.std.specs.Prelude.{◌≡◌, ℕ, ◌<◌, true, false, List}
use Rattle.std.specs.List.{All}
use Rattle.window_model.specs.declared.Entry.{Entry}
use Rattle.window_model.specs.Order.{is_waiting}
use Rattle.visibility.specs.Point.{Point, CanAdvance, NotPast}

-- the point can move on, it is not past the next serial, and no entry that waits is marked as resolved
pub record PointStands (point : Point) (next : ℕ) (window : List Entry) : Type 0 where
  pub can : CanAdvance point window
  pub past : NotPast point next
  pub unresolved : All (λ e. is_waiting e.state ≡ true → e.resolved ≡ false) window

-- all are below this one
abbrev pub Below : ℕ → List Entry → Type 0
Below next window = All (λ e. e.serial < next) window
