-- The visibility point (docs/machine.md, "Safe and visible"): what it may be before it moves, and what it then is.
use Rattle.std.specs.Prelude.{◌≡◌, ℕ, ◌+◌, ◌-◌, ◌^◌, ◌<◌, ◌≤◌, Bool, true, false, not, nat_le, List, [], ◌∷◌, Option, Some, None, if◌then◌else◌, reverse}
use Rattle.std.specs.List.{All, find}
use Rattle.machine_desc.specs.declared.SttModel.{SttModel}
use Rattle.window_model.specs.declared.Entry.{Entry}
use Rattle.window_model.specs.Along.{Along}
use Rattle.window_model.specs.Taint.{protects, visible}
pub use Rattle.window_model.specs.Taint.{permits}

-- entries up to this serial are visible under this model
pub record Point : Type 0 where
  pub serial : ℕ
  pub model : SttModel

-- before anything is in flight serial 0 alone is visible; under a model that doesn't protect every serial is
abbrev pub first_point : SttModel → Point
first_point model = record { serial = if protects model then 0 else 2 ^ 64 - 1; model = model }

-- under a model that doesn't protect the point shows every serial, whatever the window is
abbrev pub ShowsAll : Point → Type 0
ShowsAll p = protects p.model ≡ false → p.serial ≡ 2 ^ 64 - 1

-- under a model that protects it isn't past this serial
abbrev pub NotPast : Point → ℕ → Type 0
NotPast p serial = protects p.model ≡ true → p.serial ≤ serial

-- a value with this youngest root is tainted
abbrev pub is_hidden : ℕ → Option ℕ → Bool
is_hidden point None = false
is_hidden point (Some root) = not (nat_le root point)

-- the serial after the last entry's, this one where there is none
abbrev pub next_after : ℕ → List Entry → ℕ
next_after serial [] = serial
next_after serial (e ∷ es) = next_after (e.serial + 1) es

-- the serial of the entry that was found, this one where there is none
abbrev pub serial_of : Option Entry → ℕ → ℕ
serial_of None next = next
serial_of (Some e) next = e.serial

-- where the point of a model that protects goes: to the oldest entry that doesn't permit younger ones to be visible,
-- or to the serial after the youngest. An empty window leaves it
abbrev pub stops_at : List Entry → Point → ℕ
stops_at window p = serial_of (find (λ e. not (permits p.model e)) window) (next_after p.serial window)

-- the point has moved there. That of a model that doesn't protect stays
abbrev pub moved_over : List Entry → Point → Point
moved_over window p = record p { serial = if protects p.model then stops_at window p else p.serial }

-- the entries below the point permit younger ones to be visible
abbrev pub AllPermit : Point → List Entry → Type 0
AllPermit p window = All (λ e. e.serial < p.serial → permits p.model e ≡ true) window

-- the point isn't past the serial after the youngest
abbrev pub IsNear : Point → List Entry → Type 0
IsNear p window = NotPast p (next_after p.serial window)

-- the point says exactly which entries of the window are visible
abbrev pub IsPoint : Point → List Entry → Type 0
IsPoint p window = Along (λ before e. nat_le e.serial p.serial ≡ visible p.model before) [] window

-- what the point is before it moves over the window
pub record CanAdvance (p : Point) (window : List Entry) : Type 0 where
  pub permit : AllPermit p window
  pub near : IsNear p window

-- the point once it has moved over a window that isn't empty
pub record HasMoved (p : Point) (window : List Entry) : Type 0 where
  -- the point says which entries are visible
  pub each : IsPoint p window
  -- serials below the window's are visible
  pub smaller : (s : ℕ) → All (λ e. s < e.serial) window → s ≤ p.serial
  -- a serial above the window's is visible only where an entry behind the window would be
  pub next : (s : ℕ) → All (λ e. e.serial < s) window → s ≤ p.serial → visible p.model (reverse window) ≡ true
  -- the point can move again
  pub again : CanAdvance p window

-- the point once it has moved over the window; it stays where there is none
abbrev pub HasAdvanced : Point → List Entry → Type 0
HasAdvanced p [] = Unit {0}
HasAdvanced p (e ∷ es) = HasMoved p (e ∷ es)
