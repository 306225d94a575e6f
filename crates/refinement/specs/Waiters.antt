-- What holds results back, and what an entry that waits awaits and wants (docs/machine.md, "Writers and roots" and
-- "Issue"). `before` is always a list of the older entries, youngest first.
use Rattle.std.specs.Prelude.{ℕ, Bool, true, false, not, ◌&&◌, ◌==◌, nat_le, List, [], ◌∷◌, map, Option, Some, None, if◌then◌else◌}
use Rattle.std.specs.List.{cons_option}
use Rattle.std.specs.Option.{option_map}
use Rattle.rv_types.specs.Regs.{two, writes_of}
use Rattle.window_model.specs.declared.Entry.{Entry}
use Rattle.window_model.specs.Order.{has_address, has_data, is_done, is_load, is_store, is_waiting, sources, writer}
use Rattle.rename_taint.specs.declared.Write.{Write}
use Rattle.rename_taint.specs.Writes.{root_written}
use Rattle.stations.specs.Stations.{Station}
use Rattle.stations.specs.declared.wants.Wants.{Wants}
use Rattle.stations.specs.declared.wants.Wants.TheVariants.{Whole, Either, Address, Data}

-- ---- results that are held back

-- whether the results of loads are held back until they are visible, and up to which serial entries are
pub record Hold : Type 0 where
  pub holds : Bool
  pub point : ℕ

-- the entry gives its value: it is Done, and no load that is held back
abbrev pub gives_at : Hold → Entry → Bool
gives_at h e = not (h.holds && is_load e.item.kind && not (nat_le e.serial h.point)) && is_done e.state

-- the serial of the oldest entry, the next one where there is none: smaller ones have retired, or were dropped
abbrev pub oldest_of : ℕ → List Entry → ℕ
oldest_of next [] = next
oldest_of next (e ∷ es) = e.serial

-- ---- writes

-- what an entry with these roots writes, if it writes a register
abbrev pub write_of : Entry → List (Option ℕ) → Option Write
write_of e roots = option_map (λ r. record { serial = e.serial; register = r; root = root_written e.item.kind e.serial roots }) (writes_of e.item.instr)

-- ---- stations

-- the serial of a writer that doesn't give its value
abbrev pub awaited_of : Hold → Option Entry → Option ℕ
awaited_of h None = None
awaited_of h (Some e) = if gives_at h e then None else Some e.serial

-- the serial that a source awaits, if there is one
abbrev pub awaited_serial : Hold → List Entry → Option ℕ → Option ℕ
awaited_serial h before None = None
awaited_serial h before (Some r) = awaited_of h (writer before r)

-- the serials that an entry's first and second source await
abbrev pub awaits_of : Hold → List Entry → Entry → List (Option ℕ)
awaits_of h before e = map (awaited_serial h before) (two (sources e))

-- what a store wants whose address and data part have issued or not
abbrev pub wants_by : Bool → Bool → Wants
wants_by false false = Either
wants_by false true = Address
wants_by true issued = Data

-- what an entry that waits wants: a store, but in version 1, the source of a part that hasn't issued; any other all its
-- sources
abbrev pub wants_of : ℕ → Entry → Wants
wants_of version e = if is_store e.item.kind && not (version == 1) then wants_by (has_address e) (has_data e) else Whole

-- a station, whichever its place is
pub record Waiter : Type 0 where
  pub serial : ℕ
  pub awaits : List (Option ℕ)
  pub wants : Wants

-- the station of a place
abbrev pub waiter_in : Station → Waiter
waiter_in s = record { serial = s.serial; awaits = s.awaits; wants = s.wants }

-- the station that an entry is to have, by what its sources await
abbrev pub waiter_of : ℕ → List (Option ℕ) → Entry → Waiter
waiter_of version awaits e = record { serial = e.serial; awaits = awaits; wants = wants_of version e }

-- what an entry leaves in the stations: its own, if it waits
abbrev pub waiter_footprint : ℕ → List (Option ℕ) → Entry → Option Waiter
waiter_footprint version awaits e = if is_waiting e.state then Some (waiter_of version awaits e) else None

-- what the entries of a list leave in the stations, where the older ones are `before`
abbrev pub waiters_from : ℕ → Hold → List Entry → List Entry → List Waiter
waiters_from version h before [] = []
waiters_from version h before (e ∷ es) = cons_option (waiter_footprint version (awaits_of h before e) e) (waiters_from version h (e ∷ before) es)
