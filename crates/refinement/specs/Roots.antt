-- The youngest root of a value, by its serial (docs/machine.md, "Writers and roots"). `before` is always a list of
-- older entries, youngest first.
use Rattle.std.specs.Prelude.{ℕ, nat_le, List, [], ◌∷◌, map, Option, Some, None, if◌then◌else◌}
use Rattle.rv_types.specs.Regs.{two}
use Rattle.window_model.specs.declared.Entry.{Entry}
use Rattle.window_model.specs.Order.{writes, sources}
use Rattle.rename_taint.specs.Writes.{root_written}

-- the serial of the youngest load from which a register's value after these entries flows
abbrev pub youngest_root : List Entry → ℕ → Option ℕ
youngest_root [] r = None
youngest_root (e ∷ before) r =
    if writes r e then root_written e.item.kind e.serial (map (youngest_root before) (sources e)) else youngest_root before r

-- the youngest root of a source, if there is one
abbrev pub root_of_source : List Entry → Option ℕ → Option ℕ
root_of_source before None = None
root_of_source before (Some r) = youngest_root before r

-- the youngest roots of an entry's first and second source
abbrev pub source_roots : List Entry → Entry → List (Option ℕ)
source_roots before e = map (root_of_source before) (two (sources e))

-- a root that has not retired: its serial is not below the oldest in flight
abbrev pub root_in_flight : ℕ → Option ℕ → Option ℕ
root_in_flight oldest None = None
root_in_flight oldest (Some root) = if nat_le oldest root then Some root else None

-- the root of the base register, by those of an entry's sources
abbrev pub base_root : List (Option ℕ) → Option ℕ
base_root [] = None
base_root (r ∷ rs) = r
