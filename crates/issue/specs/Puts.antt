-- Entries that issue, or of which a part does, before they do in their places (docs/machine.md, "Issue"): every test is
-- made on the window as it was before the phase.
use Rattle.std.specs.Prelude.{◌≡◌, ◌≢◌, ℕ, Bool, ◌<◌, ◌==◌, true, List, [], ◌∷◌, Option, None, Some, slice_get, slice_set, if◌then◌else◌}
use Rattle.std.specs.List.{All, AllPairs}
use Rattle.rv_types.specs.declared.Width.{Width}
use Rattle.rv_types.specs.declared.Width.TheVariants.{B, H, W}
use Rattle.window_model.specs.declared.Entry.{Entry}
use Rattle.window_model.specs.Order.{is_store, is_waiting}
use Rattle.window_model.specs.Retire.{byte_count}
use Rattle.rob_ring.specs.Issued.{issued_of, with_issued}
use Rattle.lsq.specs.Queues.{Queues}
use Rattle.refinement.specs.Noted.{PartsGoOn, TracksOn, queues_with_parts, noted_load}
use Rattle.refinement.specs.Stations.{Issues, station_of}
use Rattle.core_parts.specs.declared.decided.Put.{Put}

-- the width of an access of so many bytes
abbrev pub width_for : ℕ → Width
width_for n = if n == 1 then B else if n == 2 then H else W

-- a put names an entry of the window that waits, by its position, and the entry's station. It says what has issued of
-- the entry: that is more than had issued before, and keeps what had
pub record IsPut (window : List Entry) (p : Put) : Type 0 where
  pub old : Entry
  pub here : slice_get window p.position ≡ Some old
  pub waits : is_waiting old.state ≡ true
  pub station : p.station ≡ station_of p.position window
  pub issues : Issues old (with_issued p.issued old)
  pub more : p.issued ≢ issued_of old
  pub stay : is_store old.item.kind ≡ true → PartsGoOn (width_for (byte_count old)) old (with_issued p.issued old)
  pub tracks : TracksOn (width_for (byte_count old)) old (with_issued p.issued old)

-- every put names an entry of the window that issues, and they are named by age
pub record ArePuts (window : List Entry) (puts : List Put) : Type 0 where
  pub each_put : All (IsPut window) puts
  pub by_age : AllPairs (λ p q. p.position < q.position) puts

-- the window once this entry, if there is one, has issued at its position
abbrev pub issue_by : Put → List Entry → Option Entry → List Entry
issue_by p window None = window
issue_by p window (Some e) = slice_set window p.position (with_issued p.issued e)

-- the window once the entry that stands at the put's position has issued
abbrev pub issue_in : Put → List Entry → List Entry
issue_in p window = issue_by p window (slice_get window p.position)

-- the window once the entries of all puts have issued in their places
abbrev pub window_with_puts : List Put → List Entry → List Entry
window_with_puts [] window = window
window_with_puts (p ∷ ps) window = issue_in p (window_with_puts ps window)

-- what has issued of the entry is known to the queues, if it is a store; and if it is a load what it reads, where loads
-- may pass stores
abbrev pub known_in : Bool → Queues → Entry → Queues
known_in loads_pass q e = noted_load loads_pass (width_for (byte_count e)) e (queues_with_parts (width_for (byte_count e)) e q)
