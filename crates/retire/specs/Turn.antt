-- What one turn does with the head (docs/machine.md, "Retire").
use Rattle.std.specs.Prelude.{◌≡◌, ℕ, Bool, if◌then◌else◌, List, [], ◌∷◌, Option, None, Some, slice_get}
use Rattle.rv_types.specs.declared.Cause.{Cause}
use Rattle.rv_types.specs.declared.End.{End}
use Rattle.rv_types.specs.declared.End.TheVariants.{Exit}
use Rattle.window_model.specs.declared.Entry.{Entry}
use Rattle.window_model.specs.Retire.{may_leave, store_waits, trap_of}
use Rattle.retire.specs.declared.turn.Turn.{Turn}
use Rattle.retire.specs.declared.turn.Turn.TheVariants.{Waits, Traps, Leaves}

-- a head that may leave traps, or else waits as a store, or else retires
abbrev pub turn_by : Bool → Option Cause → Entry → Turn
turn_by stored (Some cause) e = Traps cause e.item.pc
turn_by stored None e = if store_waits stored e then Waits else Leaves

-- the turn of a head, where a store has retired in this cycle or not
abbrev pub turn_of : Bool → Entry → Turn
turn_of stored e = if may_leave e then turn_by stored (trap_of e) e else Waits

-- the turn of a window
abbrev pub turn_at : Bool → List Entry → Turn
turn_at stored [] = Waits
turn_at stored (e ∷ rest) = turn_of stored e

-- the entry is the window's oldest, and its turn is to retire
pub record Goes (stored : Bool) (window : List Entry) (e : Entry) : Type 0 where
  pub turn : turn_at stored window ≡ Leaves
  pub head : slice_get window 0 ≡ Some e

-- how a call ends the run, if it exits with a value
abbrev pub end_of : Option ℕ → Option End
end_of None = None
end_of (Some v) = Some (Exit v)
