-- What a load still waits for in the stores before it (docs/machine.md, "Issue").
use Rattle.std.specs.Prelude.{ℕ, ◌+◌, Bool, false, not, ◌&&◌, ◌||◌, nat_lt, List, Option, Some, None, is_some, if◌then◌else◌}
use Rattle.std.specs.List.{filter, list_any}
use Rattle.rv_types.specs.Memory.{range}
use Rattle.rv_types.specs.Path.{unless_fault}
use Rattle.rv_types.specs.Value.{bytes_in}
use Rattle.rv_types.specs.declared.Cause.{Cause}
use Rattle.rv_types.specs.declared.Width.{Width}
use Rattle.rv_types.specs.declared.Width.TheVariants.{B, H, W}
use Rattle.rename_taint.specs.Writes.{later}
use Rattle.lsq.specs.declared.load.LoadRequest.{LoadRequest}
use Rattle.lsq.specs.declared.store.Span.{Span}
use Rattle.lsq.specs.declared.store.Store.{Store}
use Rattle.lsq.specs.declared.pending.Pending.{Pending}
use Rattle.lsq.specs.Queues.{youngest_root}
use Rattle.lsq.specs.Merging.{reaches}

-- the bytes that a load asks for: none where it faults
abbrev pub bytes_asked : Option Cause → ℕ → ℕ → List ℕ
bytes_asked fault a n = unless_fault fault (range a n)

-- the bytes that a request asks for
abbrev pub bytes_requested : LoadRequest → List ℕ
bytes_requested r = bytes_asked r.fault r.addr (bytes_in r.width)

-- where the store writes isn't known
abbrev pub lacks_address : Store → Bool
lacks_address s = not (is_some s.span)

-- what a store writes reaches an address, where it is known
abbrev pub reaches_span : ℕ → Option Span → Bool
reaches_span a None = false
reaches_span a (Some k) = reaches a k

-- the store writes some of these bytes, and it isn't known what
abbrev pub lacks_data_for : List ℕ → Store → Bool
lacks_data_for bytes s = not (is_some s.stored) && list_any (λ a. reaches_span a s.span) bytes

-- the store keeps a load of these bytes with this serial: it is older, and lacks data for them
abbrev pub keeps : ℕ → List ℕ → Store → Bool
keeps serial bytes s = nat_lt s.serial serial && lacks_data_for bytes s

-- ---- one walk over the stores

-- what a load of these bytes waits for in these stores, youngest first
abbrev pub pending_among : List ℕ → List Store → Pending
pending_among bytes stores = record {
  address = list_any lacks_address stores;
  overlap = list_any (lacks_data_for bytes) stores;
  root = youngest_root (filter (λ s. not (is_some s.stored)) stores);
}

-- what a load waits for once a younger store is passed
abbrev pub awaits_too : List ℕ → Store → Pending → Pending
awaits_too bytes s p = record {
  address = lacks_address s || p.address;
  overlap = lacks_data_for bytes s || p.overlap;
  root = if is_some s.stored then p.root else later s.root p.root;
}

-- what a store writes reaches one of the bytes of a width
abbrev pub reaches_one : Width → ℕ → Span → Bool
reaches_one B a k = reaches a k
reaches_one H a k = reaches a k || reaches (a + 1) k
reaches_one W a k = reaches a k || reaches (a + 1) k || reaches (a + 1 + 1) k || reaches (a + 1 + 1 + 1) k
