-- When the parts of a core refine the window (docs/architecture.md, "How the parts refine the window"). `footprint_of`
-- is the abstraction function: what an entry, with the older ones, leaves in the parts. `Refines` is the relation: what
-- each part holds is one column of the entries' footprints. Each step owes the footprints that it changes; the other
-- footprints, and the columns that it doesn't touch, are its frame (`frame_at` and `frame_all` of proofs/Columns.antt).
use Rattle.std.specs.Prelude.{◌≡◌, ℕ, ◌<◌, List, map, Some}
use Rattle.std.specs.List.{All}
use Rattle.window_model.specs.Order.{each}
use Rattle.window_model.specs.Serials.{Rise}
use Rattle.rob_ring.specs.declared.beside.Sources.{Sources}
use Rattle.rename_taint.specs.declared.Write.{Write}
use Rattle.stations.specs.Stations.{Station}
use Rattle.lsq.specs.Queues.{Queues}
use Rattle.refinement.specs.Waiters.{oldest_of, waiter_in}
use Rattle.refinement.specs.Points.{PointStands}
use Rattle.refinement.specs.InFlight.{InFlight, hold_in}
use Rattle.refinement.specs.Footprint.{Footprint, Terms, unretired_sources, unretired_write, footprint_of, load_in, column, store_in}

-- what the parts hold of the entries in flight
pub record Parts : Type 0 where
  pub sources : List Sources
  pub writes : List Write
  pub held : List Station
  pub queues : Queues

-- what is in flight, but for the window and the point
abbrev pub parts : InFlight → Parts
parts p = record { sources = p.sources; writes = p.writes; held = p.held; queues = p.queues }

-- each part is a column of these footprints, where the oldest entry has this serial
pub record Columns (t : Terms) (oldest : ℕ) (p : Parts) (ks : List Footprint) : Type 0 where
  pub sources : map (unretired_sources oldest) p.sources ≡ column (λ k. Some k.sources) ks
  pub writes : map (unretired_write oldest) p.writes ≡ column (λ k. k.write) ks
  pub waiters : map waiter_in p.held ≡ column (λ k. k.waiter) ks
  pub loads : map (load_in t) p.queues.loads ≡ column (λ k. k.load) ks
  pub stores : map (store_in t oldest) p.queues.stores ≡ column (λ k. k.store) ks

-- the terms of what is in flight
abbrev pub terms : InFlight → Terms
terms p = record { version = p.version; hold = hold_in p; tracked = p.tracked }

-- the footprint of each entry in flight
abbrev pub footprints : InFlight → List Footprint
footprints p = each (footprint_of (terms p)) p.window

-- serials rise with age and are below the next one, each part is a column of the footprints, and the point can move on
pub record Refines (p : InFlight) : Type 0 where
  pub rise : Rise p.window
  pub next : All (λ e. e.serial < p.next) p.window
  pub columns : Columns (terms p) (oldest_of p.next p.window) (parts p) (footprints p)
  pub point : PointStands p.point p.next p.window
