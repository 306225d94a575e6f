-- For how much there is room, and of what age what is held is.
use Rattle.std.proofs.Common.{List, None, Option, Some, [], ap, arith, length, refl, sym, ◌<◌, ◌∙◌, ◌∷◌, ◌≡◌, ◌≤◌}
use Rattle.std.proofs.lemmas.List.{length-map}
use Rattle.std.specs.List.{All, cons_option, count_by}
use Rattle.rename_taint.specs.declared.Write.{Write}
use Rattle.stations.specs.Stations.{Station}
use Rattle.window_model.proofs.Counts.{count_is}
use Rattle.window_model.specs.Order.{each_from, is_waiting}
use Rattle.window_model.specs.declared.Entry.{Entry}
use Rattle.refinement.proofs.Columns.{as_many, items_have}
use Rattle.refinement.proofs.Footprints.{footprint_have, waiters_numbered, writes_numbered}
use Rattle.refinement.proofs.Stations.{waiting_count}
use Rattle.refinement.specs.Footprint.{Footprint, Terms, column, footprint_of, unretired_sources, unretired_write}
use Rattle.refinement.specs.InFlight.{InFlight}
use Rattle.refinement.specs.Refines.{Refines, footprints, terms}
use Rattle.refinement.specs.Waiters.{Waiter, oldest_of, waiter_in}
use Rattle.refinement.specs.Telling.{CountsRoom, HoldsOlderOnes}

-- ---- room

each_length : (t : Terms) (b es : List Entry) → length (each_from (footprint_of t) b es) ≡ length es
each_length t b [] = refl
each_length t b (e ∷ es) = let h = each_length t (e ∷ b) es in omega (arith, h)

few : {X : Type 0} (field : Footprint → Option X) (ks : List Footprint) → length (column field ks) ≤ length ks
few {X = X} field [] = omega arith
few {X = X} field (k ∷ ks) = by_field (field k) (few field ks)
  where
    by_field : (o : Option X) → length (column field ks) ≤ length ks → length (cons_option o (column field ks)) ≤ length (k ∷ ks)
    by_field None h = omega (arith, h)
    by_field (Some x) h = omega (arith, h)

-- there are sources for each entry
pub counts_sources : (p : InFlight) → Refines p → length p.sources ≡ length p.window
counts_sources p s = as_many (unretired_sources (oldest_of p.next p.window)) (λ k. k.sources) p.sources (footprints p) s.columns.sources ∙ each_length (terms p) [] p.window

-- no more writes than entries
pub counts_writes : (p : InFlight) → Refines p → length p.writes ≤ length p.window
counts_writes p s =
    let a = length-map p.writes (unretired_write (oldest_of p.next p.window)) in
    let b = ap length s.columns.writes in
    let c = few (λ k. k.write) (footprints p) in
    let d = each_length (terms p) [] p.window in
    omega (arith, a, b, c, d)

-- as many stations as entries wait
pub counts_held : (p : InFlight) → Refines p → length p.held ≡ count_by (λ e. is_waiting e.state) p.window
counts_held p s = sym (length-map p.held waiter_in) ∙ ap length s.columns.waiters ∙ waiting_count (terms p) [] p.window ∙ count_is (λ e. is_waiting e.state) p.window

-- writes are older than the next entry
pub writes_older : (p : InFlight) → Refines p → All (λ w. w.serial < p.next) p.writes
writes_older p s =
    items_have (unretired_write (oldest_of p.next p.window)) (λ k. k.write) (λ (w : Write). w.serial) (λ (w : Write). w.serial) (λ w. refl) (λ n. n < p.next) p.writes (footprints p)
    (writes_numbered (terms p) [] p.window) (footprint_have (terms p) (λ n. n < p.next) [] p.window s.next) s.columns.writes

-- stations are older than the next entry
pub held_older : (p : InFlight) → Refines p → All (λ x. x.serial < p.next) p.held
held_older p s =
    items_have waiter_in (λ k. k.waiter) (λ (x : Station). x.serial) (λ (w : Waiter). w.serial) (λ w. refl) (λ n. n < p.next) p.held (footprints p)
    (waiters_numbered (terms p) [] p.window) (footprint_have (terms p) (λ n. n < p.next) [] p.window s.next) s.columns.waiters

pub counts_room : CountsRoom
counts_room p s = record { sources = counts_sources p s; writes = counts_writes p s; held = counts_held p s }

pub holds_older : HoldsOlderOnes
holds_older p s = record { writes = writes_older p s; held = held_older p s }
