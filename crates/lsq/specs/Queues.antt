-- The loads and stores in flight as contracts see them (docs/machine.md, "Issue" and "Loads").
use Rattle.std.specs.Prelude.{ℕ, ◌<◌, nat_lt, ◌==◌, if◌then◌else◌, List, [], ◌∷◌, reverse, Option, Some, None, is_some, Bool, true, not, ◌&&◌}
use Rattle.std.specs.List.{AllPairs, filter}
use Rattle.machine_desc.specs.declared.Desc.{Desc}
use Rattle.rename_taint.specs.Writes.{later}
use Rattle.lsq.specs.declared.load.IssuedLoad.{IssuedLoad}
use Rattle.lsq.specs.declared.load.Load.{Load}
use Rattle.lsq.specs.declared.store.Span.{Span}
use Rattle.lsq.specs.declared.store.Store.{Store}

-- the loads and the stores, oldest first, and for how many of each there is room
pub record Queues : Type 0 where
  pub loads : List Load
  pub stores : List Store
  pub max_loads : ℕ
  pub max_stores : ℕ

-- serials rise from the oldest on
abbrev pub Rise : {X : Type 0} → (X → ℕ) → List X → Type 0
Rise serial_of items = AllPairs (λ a b. serial_of a < serial_of b) items

-- no loads and no stores, with a description's room
abbrev pub empty : Desc → Queues
empty d = record { loads = []; stores = []; max_loads = d.core_loads; max_stores = d.core_stores }

-- the stores older than a serial, youngest first
abbrev pub older : ℕ → List Store → List Store
older serial stores = reverse (filter (λ s. nat_lt s.serial serial) stores)

-- the load, with what the one with this serial reads, and when it issued
abbrev pub issued_at : ℕ → IssuedLoad → Load → Load
issued_at serial access l = if l.serial == serial then record l { access = Some access } else l

-- the store, with where the one with this serial writes
abbrev pub addressed_at : ℕ → Span → Store → Store
addressed_at serial span s = if s.serial == serial then record s { span = Some span } else s

-- the store, with the number whose lowest bytes the one with this serial writes
abbrev pub filled_at : ℕ → ℕ → Store → Store
filled_at serial stored s = if s.serial == serial then record s { stored = Some stored } else s

-- the store, with the one of this serial cleared
abbrev pub cleared_at : ℕ → Store → Store
cleared_at serial s = if s.serial == serial then record s { cleared = true } else s

-- where the store writes is known, and what it writes
abbrev pub is_known : Store → Bool
is_known s = is_some s.span && is_some s.stored

-- the queues without the loads and stores from a serial on
abbrev pub cut_at : ℕ → Queues → Queues
cut_at first q = record q { loads = filter (λ l. nat_lt l.serial first) q.loads; stores = filter (λ s. nat_lt s.serial first) q.stores }

-- the queues without the load or store of this serial
abbrev pub without : ℕ → Queues → Queues
without serial q = record q { loads = filter (λ l. not (l.serial == serial)) q.loads; stores = filter (λ s. not (s.serial == serial)) q.stores }

-- the youngest root of these stores' addresses
abbrev pub youngest_root : List Store → Option ℕ
youngest_root [] = None
youngest_root (s ∷ stores) = later s.root (youngest_root stores)
