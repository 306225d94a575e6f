-- The writes of the entries in flight, oldest first (docs/machine.md, "Writers and roots").
use Rattle.std.specs.Prelude.{ℕ, ◌==◌, nat_lt, max, if◌then◌else◌, List, [], ◌∷◌, Option, Some, None, reverse}
use Rattle.std.specs.List.{filter, find, list_any}
use Rattle.rv_types.specs.declared.Kind.{Kind}
use Rattle.rv_types.specs.declared.Kind.TheVariants.{Load}
use Rattle.rename_taint.specs.declared.Write.{Write}
use Rattle.rename_taint.specs.declared.Source.{Source}
use Rattle.rename_taint.specs.declared.Source.TheVariants.{Committed, Entry}

-- the last write of a register
abbrev pub last_write : List Write → ℕ → Option Write
last_write writes r = find (λ w. w.register == r) (reverse writes)

-- where the value is that this write made, or that no write made
abbrev pub source_from : Option Write → Source
source_from None = Committed
source_from (Some w) = Entry w.serial

-- the youngest root of that value
abbrev pub root_from : Option Write → Option ℕ
root_from None = None
root_from (Some w) = w.root

-- where a register's value is
abbrev pub source_of : List Write → ℕ → Source
source_of writes r = source_from (last_write writes r)

-- the youngest root of a register's value
abbrev pub root_of : List Write → ℕ → Option ℕ
root_of writes r = root_from (last_write writes r)

-- the youngest root of a source's value, if there is a source
abbrev pub root_at : List Write → Option ℕ → Option ℕ
root_at writes None = None
root_at writes (Some r) = root_of writes r

-- the later of two serials, where there are any
abbrev pub later : Option ℕ → Option ℕ → Option ℕ
later None b = b
later (Some a) None = Some a
later (Some a) (Some b) = Some (max a b)

-- the latest of a list
abbrev pub latest : List (Option ℕ) → Option ℕ
latest [] = None
latest (o ∷ os) = later o (latest os)

-- the youngest root of what an entry writes: a load is its own root, anything else has the roots of its sources
abbrev pub root_written : Kind → ℕ → List (Option ℕ) → Option ℕ
root_written Load serial roots = Some serial
root_written _ serial roots = latest roots

-- what is left once an entry has retired: the younger writes. Nothing changes where no write has its serial
abbrev pub without_retired : ℕ → List Write → List Write
without_retired serial writes =
    if list_any (λ w. w.serial == serial) writes then filter (λ w. nat_lt serial w.serial) writes else writes

-- what is left once the entries from a serial on are dropped
abbrev pub before_serial : ℕ → List Write → List Write
before_serial first writes = filter (λ w. nat_lt w.serial first) writes
