-- What the queues note of an entry as it issues, in parts or whole, and is cleared.
use Rattle.std.specs.Prelude.{◌≡◌, ◌&&◌, ◌||◌, ℕ, Bool, true, false, if◌then◌else◌, List, is_some, map, Option, Some, None}
use Rattle.rv_types.specs.Value.{bytes_in}
use Rattle.rv_types.specs.declared.Width.{Width}
use Rattle.window_model.specs.declared.Entry.{Entry}
use Rattle.window_model.specs.Order.{fault_of, has_address, has_data, is_load, is_store}
use Rattle.window_model.specs.Retire.{addr_of, stored_of, byte_count}
use Rattle.lsq.specs.declared.load.IssuedLoad.{IssuedLoad}
use Rattle.lsq.specs.declared.store.Span.{Span}
use Rattle.lsq.specs.declared.store.Store.{Store}
use Rattle.lsq.specs.Queues.{Queues, addressed_at, cleared_at, filled_at, issued_at}

-- the cycle, 0 where there is none
abbrev pub cycle_or_first : Option ℕ → ℕ
cycle_or_first None = 0
cycle_or_first (Some cycle) = cycle

-- where an entry writes, with the width of its access, and from which cycle on that is known
abbrev pub span_in : Width → Entry → Span
span_in w e = record { addr = addr_of e.outcome; width = w; fault = fault_of e.outcome; known_from = cycle_or_first e.addr_due }

-- what an entry reads, with the width of its access, and when it issued
abbrev pub access_in : Width → Entry → IssuedLoad
access_in w e = record { addr = addr_of e.outcome; width = w; fault = fault_of e.outcome; cycle = cycle_or_first e.issued }

-- the stores, with where an entry writes if that is noted
abbrev pub with_span : Bool → Width → Entry → List Store → List Store
with_span noted w e stores = if noted then map (addressed_at e.serial (span_in w e)) stores else stores

-- the stores, with what an entry writes if that is noted
abbrev pub with_stored : Bool → Entry → List Store → List Store
with_stored noted e stores = if noted then map (filled_at e.serial (stored_of e.outcome)) stores else stores

-- the queues once the parts that an entry has are noted, if it is a store
abbrev pub queues_with_parts : Width → Entry → Queues → Queues
queues_with_parts w e q = record q { stores = if is_store e.item.kind then with_stored (has_data e) e (with_span (has_address e) w e q.stores) else q.stores }

-- a load that has issued
abbrev pub has_read : Entry → Bool
has_read e = is_load e.item.kind && is_some e.issued

-- the queues once it is noted what an entry reads, where that is asked for and it is a load that has issued
abbrev pub noted_load : Bool → Width → Entry → Queues → Queues
noted_load loads_pass w e q =
    if loads_pass && has_read e then record q { loads = map (issued_at e.serial (access_in w e)) q.loads } else q

-- the queues with the store of this serial cleared
abbrev pub cleared_in : ℕ → Queues → Queues
cleared_in serial q = record q { stores = map (cleared_at serial) q.stores }

-- a store goes on: it keeps the parts that it has, has its outcome once it has one, and the width is that of its access
pub record PartsGoOn (w : Width) (e e2 : Entry) : Type 0 where
  pub address : has_address e ≡ true → has_address e2 ≡ true
  pub stored : has_data e ≡ true → has_data e2 ≡ true
  pub outcome : (has_address e2 || has_data e2) ≡ true → is_some e2.outcome ≡ true
  pub size : bytes_in w ≡ byte_count e2

-- what is tracked of an entry goes on: it is cleared or not as it was, and what a load reads is noted once it has
-- issued, with the width of its access
pub record TracksOn (w : Width) (e e2 : Entry) : Type 0 where
  pub cleared : e2.cleared ≡ e.cleared
  pub unread : is_load e.item.kind ≡ true → has_read e2 ≡ false → e2.issued ≡ e.issued
  pub size : bytes_in w ≡ byte_count e2
