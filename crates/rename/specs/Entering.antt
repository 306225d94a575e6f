-- What an entry brings into the parts, and the writers of an entry's sources in the window (docs/machine.md, "Rename";
-- docs/architecture.md, "How the parts refine the window").
use Rattle.std.specs.Prelude.{◌≡◌, ℕ, List, ◌++◌, length, slice_get, Option, Some, None}
use Rattle.std.specs.Option.{option_map, option_to_list}
use Rattle.rv_types.specs.Regs.{writes_of}
use Rattle.machine_desc.specs.declared.Defence.{Defence}
use Rattle.window_model.specs.declared.Entry.{Entry}
use Rattle.window_model.specs.declared.Item.{Item}
use Rattle.window_model.specs.Ready.{holds}
use Rattle.rob_ring.specs.Ring.{below}
use Rattle.rename_taint.specs.declared.Write.{Write}
use Rattle.rename_taint.specs.Writes.{root_written}
use Rattle.stations.specs.Stations.{Stations}
use Rattle.visibility.specs.Point.{Point}
use Rattle.refinement.specs.Waiters.{Hold, awaited_of}
use Rattle.refinement.specs.Stations.{stations_with_entry}

-- what holds results back under a defence, up to a point
abbrev pub held_by : Defence → Point → Hold
held_by defence point = record { holds = holds defence; point = point.serial }

-- a source's writer, if it has one, is in the window: the entry at its serial's position has that serial
abbrev pub HasPlace : List Entry → Option ℕ → Type 0
HasPlace window None = Unit {0}
HasPlace window (Some serial) = option_map (λ e. e.serial) (slice_get window (length (below serial window))) ≡ Some serial

-- the serial that a source with this writer awaits where results are held back so, by the entry at that position
abbrev pub awaited_of_writer : Hold → List Entry → Option ℕ → Option ℕ
awaited_of_writer h window None = None
awaited_of_writer h window (Some serial) = awaited_of h (slice_get window (length (below serial window)))

-- what an item with this serial and these roots writes, if it writes a register
abbrev pub write_by : ℕ → Item → List (Option ℕ) → Option Write
write_by serial item roots = option_map (λ r. record { serial = serial; register = r; root = root_written item.kind serial roots }) (writes_of item.instr)

-- the table's writes, with this one behind them, if it is one
abbrev pub with_write : Option Write → List Write → List Write
with_write write writes = writes ++ option_to_list write

-- the stations, with one more in some place where the entry waits, for what it wants in this version of the machine
abbrev pub with_station : ℕ → ℕ → List (Option ℕ) → Entry → Stations → Stations
with_station version place awaits e s = record s { held = stations_with_entry version place awaits e s.held }
