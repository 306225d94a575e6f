-- The writers of an entry's sources, by their serials, as they were when the entry was renamed: so a source's value is
-- found without a search (docs/architecture.md, "How the parts refine the window").
use Rattle.std.specs.Prelude.{ℕ, ◌==◌, List, length, map, slice_get, Option, Some, None, if◌then◌else◌}
use Rattle.std.specs.Option.{option_map}
use Rattle.rv_types.specs.Regs.{two}
use Rattle.window_model.specs.declared.Entry.{Entry}
use Rattle.window_model.specs.Order.{sources, writer}
use Rattle.rob_ring.specs.Ring.{below}
use Rattle.rename_taint.specs.declared.Source.{Source}
use Rattle.rename_taint.specs.declared.Source.TheVariants as source
use Rattle.rename_taint.specs.declared.Write.{Write}
use Rattle.rename_taint.specs.Writes.{source_of}

-- a source's writer, if there is one in flight
abbrev pub writer_of : List Entry → Option ℕ → Option Entry
writer_of before None = None
writer_of before (Some r) = writer before r

-- the serial of a source's writer
abbrev pub writer_of_source : List Entry → Option ℕ → Option ℕ
writer_of_source before None = None
writer_of_source before (Some r) = option_map (λ e. e.serial) (writer before r)

-- the serials of the writers of an entry's first and second source
abbrev pub source_writers : List Entry → Entry → List (Option ℕ)
source_writers before e = map (writer_of_source before) (two (sources e))

-- ---- the entry of a serial

-- the entry, if it has this serial
abbrev pub if_serial : ℕ → Option Entry → Option Entry
if_serial serial None = None
if_serial serial (Some e) = if e.serial == serial then Some e else None

-- the entry of a serial, if there is a serial and its entry is in flight
abbrev pub in_flight : List Entry → Option ℕ → Option Entry
in_flight window None = None
in_flight window (Some serial) = if_serial serial (slice_get window (length (below serial window)))

-- ---- what the table names

-- the serial that the table names, if it names one
abbrev pub serial_in : Source → Option ℕ
serial_in source.Committed = None
serial_in (source.Entry serial) = Some serial

-- the serial of the writer that the table names for a source, if there is a source and it names one
abbrev pub writer_serial : List Write → Option ℕ → Option ℕ
writer_serial writes None = None
writer_serial writes (Some r) = serial_in (source_of writes r)
