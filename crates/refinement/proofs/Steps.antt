-- Each step keeps the parts refining the window.
use Rattle.std.proofs.Common.{Bool, List, None, Option, Some, [], ap, ap₂, arith, cond, drop, false, length, map, not, refl, slice_get, subst, sym, take, true, ℕ, ◌++◌, ◌+◌, ◌<◌, ◌∙◌, ◌∷◌, ◌≡◌, ◌≤◌}
use Rattle.std.proofs.lemmas.Bool.Decides.{nat_tests}
use Rattle.std.proofs.lemmas.List.{append-nil}
use Rattle.std.proofs.lemmas.List.Elements.{All-cons, All-head, All-nil, All-push, All-tail, All-weaker, filter-append}
use Rattle.std.specs.List.{All, AllZip, cons_option, filter, list_any}
use Rattle.std.specs.Option.{option_map}
use Rattle.std.specs.Prelude.{if◌then◌else◌, is_some, nat_le, nat_lt, reverse, slice_set, ◌&&◌, ◌==◌, ◌||◌}
use Rattle.lsq.specs.Queues.{Queues, without}
use Rattle.lsq.specs.declared.load.Load.{Load as QueuedLoad}
use Rattle.lsq.specs.declared.store.Store.{Store as QueuedStore}
use Rattle.queue_laws.specs.Window.{ShownLoad, area_in}
use Rattle.rename_taint.specs.Writes.{root_at, without_retired}
use Rattle.rename_taint.specs.declared.Write.{Write}
use Rattle.rob_ring.specs.Ring.{below}
use Rattle.rv_types.specs.Regs.{two}
use Rattle.rv_types.specs.declared.Kind.{Kind}
use Rattle.rv_types.specs.declared.Kind.TheVariants.{Load, Store}
use Rattle.stations.specs.Stations.{Station}
use Rattle.visibility.specs.Point.{Point, moved_over}
use Rattle.window_model.proofs.Booleans.{both, done_waits, is_below, neither, or_false}
use Rattle.window_model.proofs.Serials.{all_at, all_left, rise_head, rise_left, rise_push, rise_tail, splits}
use Rattle.window_model.specs.Order.{each_from, has_address, has_data, is_done, is_load, is_store, is_waiting, sources, writer}
use Rattle.window_model.specs.Retire.{stored_of}
use Rattle.window_model.specs.Serials.{Rise}
use Rattle.window_model.specs.declared.Entry.{Entry}
use Rattle.window_model.specs.declared.Progress.TheVariants.{Done}
use Rattle.refinement.proofs.Columns.{frame_all, column_mapped, dropped, filtered, items_have, pushed, pushed_if, taken, viewed}
use Rattle.refinement.proofs.Each.{each_join, each_take}
use Rattle.refinement.proofs.Footprints.{first_shown, footprint_fail, footprint_have, footprint_pass, footprint_unretired, footprints_without, footprints_woken, gives_same, loads_numbered, stores_numbered, unretired_store, waiters_numbered, wake, write_shown, writes_numbered}
use Rattle.refinement.proofs.Lists.{map_same, map_twice, take_first, zip_set, unknown}
use Rattle.refinement.proofs.Moving.{point_advances, point_completes, point_moves_on, point_opens, point_renames, point_resolves, point_retires, point_squashes, point_stops}
use Rattle.refinement.proofs.Serials.{all_on, oldest_above, oldest_below, oldest_first, oldest_least, oldest_on, oldest_push, rise_on}
use Rattle.refinement.proofs.Table.{names_root, names_writer}
use Rattle.refinement.proofs.Waking.{Wakes, given, held_woken, struck_given, wakes_done, wakes_moved, woken}
use Rattle.refinement.proofs.Writers.{writer_place}
use Rattle.refinement.proofs.Youngest.{unretired_all_twice, unretired_in, unretired_twice}
use Rattle.refinement.specs.Footprint.{Footprint, StoreFootprint, Terms, column, footprint_of, load_footprint, load_in, look_back, store_footprint, store_in, unretired_sources, unretired_write}
use Rattle.refinement.specs.InFlight.{InFlight, hold_in}
use Rattle.refinement.specs.Points.{PointStands}
use Rattle.refinement.specs.Refines.{Columns, Parts, Refines, footprints, parts, terms}
use Rattle.refinement.specs.Roots.{base_root, root_of_source, source_roots, root_in_flight}
use Rattle.refinement.specs.Stations.{GoesOn, serials_let_go, struck_each}
use Rattle.refinement.specs.Steps.{CompletesAt, DropsFrom, OpensEmpty, PointMoves, PointStops, RenamesIn, ResolvesAt, RetiresHead, below_serial, queues_with_entry, with_entry, without_head}
use Rattle.refinement.specs.Telling.{source_by}
use Rattle.refinement.specs.Waiters.{Hold, Waiter, gives_at, oldest_of, waiter_in, waiter_of, wants_of, write_of}
use Rattle.refinement.specs.Writers.{writer_serial, serial_in, source_writers, writer_of_source}

-- empty parts refine the empty window with which a run begins
pub refines_empty : OpensEmpty
refines_empty d = record {
  rise = λ i j e lt within. absurd (omega (arith, within));
  next = All-nil (λ e. e.serial < 0);
  columns = record { sources = refl; writes = refl; waiters = refl; loads = refl; stores = refl };
  point = point_opens d.stt_model 0;
}

-- ---- an entry is renamed

-- what the table names for a source
roots_told : (p : InFlight) → Refines p → (os : List (Option ℕ)) → map (root_in_flight (oldest_of p.next p.window)) (map (root_at p.writes) os) ≡ map (root_of_source (reverse p.window)) os
roots_told p s os =
    map_twice (root_in_flight (oldest_of p.next p.window)) (root_at p.writes) os ∙ map_same (λ o. root_in_flight (oldest_of p.next p.window) (root_at p.writes o)) (root_of_source (reverse p.window)) os one
  where
    one : (o : Option ℕ) → root_in_flight (oldest_of p.next p.window) (root_at p.writes o) ≡ root_of_source (reverse p.window) o
    one None = refl
    one (Some r) = names_root p r s

writers_told : (p : InFlight) → Refines p → (os : List (Option ℕ)) → map (root_in_flight (oldest_of p.next p.window)) (map (writer_serial p.writes) os) ≡ map (writer_of_source (reverse p.window)) os
writers_told p s os =
    map_twice (root_in_flight (oldest_of p.next p.window)) (writer_serial p.writes) os ∙ map_same (λ o. root_in_flight (oldest_of p.next p.window) (writer_serial p.writes o)) (writer_of_source (reverse p.window)) os one
  where
    by_writer : (r : ℕ) (o : Option Entry) → writer (reverse p.window) r ≡ o → root_in_flight (oldest_of p.next p.window) (serial_in (source_by o)) ≡ option_map (λ e. e.serial) o
    by_writer r None h = refl
    by_writer r (Some w) h =
        unretired_in (oldest_of p.next p.window) w.serial
        (all_at (λ e. oldest_of p.next p.window ≤ e.serial) p.window (length (below w.serial p.window)) w (oldest_least p.next p.window s.rise) (writer_place r w p.window s.rise h))

    one : (o : Option ℕ) → root_in_flight (oldest_of p.next p.window) (writer_serial p.writes o) ≡ writer_of_source (reverse p.window) o
    one None = refl
    one (Some r) = ap (λ o. root_in_flight (oldest_of p.next p.window) (serial_in o)) (names_writer p r s) ∙ by_writer r (writer (reverse p.window) r) refl

loads_queued : (k : Kind) (n : ℕ) (root : Option ℕ) (q : Queues) → (queues_with_entry k n root q).loads ≡ (if is_load k then q.loads ++ record { serial = n; access = None } ∷ [] else q.loads)
loads_queued Load n root q = refl
loads_queued Store n root q = refl
loads_queued _ n root q = refl

stores_queued : (k : Kind) (n : ℕ) (root : Option ℕ) (q : Queues) →
    (queues_with_entry k n root q).stores ≡ (if is_store k then q.stores ++ record { serial = n; root = root; span = None; stored = None; cleared = false } ∷ [] else q.stores)
stores_queued Load n root q = refl
stores_queued Store n root q = refl
stores_queued _ n root q = refl

-- no part of a fresh store has issued, and a fresh load has read nothing
fresh_store : (t : Terms) (root : Option ℕ) (e : Entry) → has_address e ≡ false → has_data e ≡ false → (t.tracked ≡ true → e.cleared ≡ false) →
    record { serial = e.serial; root = root; span = None; stored = None; computed = true; known_from = None; cleared = t.tracked && false } ≡ store_footprint t root e
fresh_store t root e a d c =
    ap₂ (λ (k : Option ℕ) v. record { serial = e.serial; root = root; span = None; stored = None; computed = true; known_from = k; cleared = v }) (unknown e.addr_due a) (uncleared t.tracked c)
    ∙ ap₂ (λ a d. record (store_footprint t root e) { span = if a then Some (area_in e) else None; stored = if d then Some (stored_of e.outcome) else None; computed = not (a || d) || is_some e.outcome }) (sym a) (sym d)
  where
    uncleared : (b : Bool) → (b ≡ true → e.cleared ≡ false) → (b && false) ≡ (b && e.cleared)
    uncleared true c = sym (c refl)
    uncleared false c = refl

fresh_load : (t : Terms) (e : Entry) → e.issued ≡ None → record { serial = e.serial; reading = if t.tracked then None else None } ≡ load_footprint t e
fresh_load t e i = ap (λ (i : Option ℕ). record { serial = e.serial; reading = if t.tracked then option_map (λ cycle. record { area = area_in e; cycle = cycle }) i else None }) (sym i)

-- the parts go on to refine the window as an entry is renamed
pub refines_renamed : RenamesIn
refines_renamed p e s awaits place h fresh rs ws aw =
    let t = terms p in
    let f = oldest_of p.next p.window in
    let ks = footprints p in
    let k = footprint_of t (reverse p.window) e in
    let q = with_entry place s awaits e p in
    let is = fresh.serial in
    let first = oldest_first p.next p.window h.next in
    let young : f ≤ e.serial = omega (arith, is, first) in
    let own : map (root_in_flight f) s.roots ≡ source_roots (reverse p.window) e = ap (map (root_in_flight f)) rs ∙ roots_told p h (two (sources e)) in
    let theirs : map (root_in_flight f) s.writers ≡ source_writers (reverse p.window) e = ap (map (root_in_flight f)) ws ∙ writers_told p h (two (sources e)) in
    let write : option_map (unretired_write f) (write_of e s.roots) ≡ write_of e (source_roots (reverse p.window) e) = sym (write_shown f e s.roots young) ∙ ap (write_of e) own in
    let root : root_in_flight f (base_root s.roots) ≡ base_root (source_roots (reverse p.window) e) = sym (first_shown f s.roots) ∙ ap base_root own in
    record {
      rise = rise_push p.window e h.rise (subst (λ n. All (λ b. b.serial < n) p.window) (sym fresh.serial) h.next);
      next = All-push (λ b. b.serial < p.next + 1) p.window e (All-weaker (λ b. b.serial < p.next) (λ b. b.serial < p.next + 1) (λ b lt. omega (arith, lt)) p.window h.next) (omega (arith, is));
      columns = subst (λ f. Columns t f (parts q) (footprints q)) (sym (oldest_push p.next p.window e is)) (subst (Columns t f (parts q)) (sym (each_join (footprint_of t) [] p.window (e ∷ []))) (record {
        sources = pushed (unretired_sources f) (λ k. Some k.sources) p.sources (Some s) ks k h.columns.sources (ap₂ (λ r w. Some (record { roots = r; writers = w })) own theirs);
        writes = pushed (unretired_write f) (λ k. k.write) p.writes (write_of e s.roots) ks k h.columns.writes write;
        waiters = pushed_if waiter_in (λ k. k.waiter) (is_waiting e.state) p.held _ (waiter_of t.version (look_back t.hold (reverse p.window) e).awaits e) ks k h.columns.waiters
            (λ w. ap (λ a. record { serial = e.serial; awaits = a; wants = wants_of p.version e }) aw) refl;
        loads = ap (map (load_in t)) (loads_queued e.item.kind e.serial (base_root s.roots) p.queues)
            ∙ pushed_if (load_in t) (λ k. k.load) (is_load e.item.kind) p.queues.loads _ (load_footprint t e) ks k h.columns.loads (λ l. fresh_load t e fresh.unissued) refl;
        stores = ap (map (store_in t f)) (stores_queued e.item.kind e.serial (base_root s.roots) p.queues)
            ∙ pushed_if (store_in t f) (λ k. k.store) (is_store e.item.kind) p.queues.stores _ (store_footprint t (base_root (source_roots (reverse p.window) e)) e) ks k h.columns.stores
            (λ l. ap (λ (r : Option ℕ). record { serial = e.serial; root = r; span = None; stored = None; computed = true; known_from = None; cleared = t.tracked && false }) root
            ∙ fresh_store t (base_root (source_roots (reverse p.window) e)) e fresh.address fresh.stored (λ b. fresh.uncleared b l)) refl;
      }));
      point = point_renames p.point p.next p.window e h.point fresh.serial fresh.unresolved;
    }

-- ---- entries wake

columns_woken : (t : Terms) (f : ℕ) (p : Parts) (ks : List Footprint) (h : Hold) (ss : List ℕ) → Columns t f p ks → Columns (record t { hold = h }) f (record p { held = struck_each ss p.held }) (map (wake ss) ks)
columns_woken t f p ks h ss s = record {
  sources = s.sources ∙ frame_all (unretired_sources f) (λ k. Some k.sources) (wake ss) (λ k. refl) ks;
  writes = s.writes ∙ frame_all (unretired_write f) (λ k. k.write) (wake ss) (λ k. refl) ks;
  waiters = held_woken ss p.held ∙ ap (map (woken ss)) s.waiters ∙ column_mapped waiter_in (λ k. k.waiter) (woken ss) (wake ss) (λ k. refl) ks;
  loads = s.loads ∙ frame_all (load_in t) (λ k. k.load) (wake ss) (λ k. refl) ks;
  stores = s.stores ∙ frame_all (store_in t f) (λ k. k.store) (wake ss) (λ k. refl) ks;
}

wakes_go : (h h2 : Hold) (ss : List ℕ) (es es2 : List Entry) → AllZip (Wakes h h2 ss) es es2 → AllZip GoesOn es es2
wakes_go h h2 ss [] [] v = v
wakes_go h h2 ss [] (e2 ∷ es2) v = absurd v
wakes_go h h2 ss (e ∷ es) [] v = absurd v
wakes_go h h2 ss (e ∷ es) (e2 ∷ es2) v = (v.0.gives.on, wakes_go h h2 ss es es2 v.1)

-- entries with these serials come to give their values, under a point that has moved maybe, and the stations are told
wakes_on : (p : InFlight) (point : Point) (ss : List ℕ) (window : List Entry) → Refines p → AllZip (Wakes (hold_in p) (record { holds = p.holds; point = point.serial }) ss) p.window window →
    PointStands point p.next window → Refines (record p { window = window; point = point; held = struck_each ss p.held })
wakes_on p point ss window s v at =
    let t = terms p in
    let h2 : Hold = record { holds = p.holds; point = point.serial } in
    let f = oldest_of p.next p.window in
    let go = wakes_go (hold_in p) h2 ss p.window window v in
    let q : InFlight = record p { window = window; point = point; held = struck_each ss p.held } in
    record {
      rise = rise_on p.window window go s.rise;
      next = all_on (λ n. n < p.next) p.window window go s.next;
      columns = subst (λ f. Columns (terms q) f (parts q) (footprints q)) (sym (oldest_on p.next p.window window go))
          (subst (Columns (terms q) f (parts q)) (sym (footprints_woken t h2 ss p.window window v)) (columns_woken t f (parts p) (footprints p) h2 ss s.columns));
      point = at;
    }

-- the parts go on to refine the window as an entry becomes Done
pub refines_done : CompletesAt
refines_done p i e s h n =
    let done : Entry = record e { state = Done } in
    subst (λ held. Refines (record p { window = slice_set p.window i done; held = held })) (sym (struck_given (hold_in p) done p.held))
    (wakes_on p p.point (given (gives_at (hold_in p) done) e.serial) (slice_set p.window i done) s (wakes_done (hold_in p) p.window i e s.rise h n) (point_completes p.point p.next p.window i e s.point h))

wakes_same : (h : Hold) (e : Entry) → Wakes h h [] e e
wakes_same h e = record { gives = gives_same h e; same = λ t l. refl }

-- the parts go on to refine the window as an entry is resolved
pub refines_resolved : ResolvesAt
refines_resolved p i e s h w =
    let e2 : Entry = record e { resolved = true } in
    let wakes : Wakes (hold_in p) (hold_in p) [] e e2 = record { gives = record { on = record { serial = refl; item = refl }; gives = sym (or_false (gives_at (hold_in p) e)) }; same = λ t l. refl } in
    wakes_on p p.point [] (slice_set p.window i e2) s (zip_set (Wakes (hold_in p) (hold_in p) []) (wakes_same (hold_in p)) p.window i e e2 h wakes) (point_resolves p.point p.next p.window i e s.point h w)

-- the parts go on to refine the window as the point moves over it
pub refines_moved : PointMoves
refines_moved p s =
    let moved = moved_over p.window p.point in
    let h2 : Hold = record { holds = p.holds; point = moved.serial } in
    wakes_on p moved (serials_let_go (hold_in p) h2 p.window) p.window s
    (wakes_moved (hold_in p) h2 p.window (record { holds = refl; on = point_moves_on p.point p.next p.window s.point s.rise }) s.rise)
    (point_advances p.point p.next p.window s.point s.rise s.next)

-- the point stops at a branch or JALR that isn't resolved, and at a store that isn't cleared
pub stops_at : PointStops
stops_at p i e s h u = point_stops p.point p.next p.window i e s.point h u

-- ---- entries go

above_test : (m n : ℕ) → n ≤ m → nat_lt m n ≡ false
above_test m n le = grind (arith, nat_tests)

-- the footprints of those below a serial
pub footprints_below : (t : Terms) (first : ℕ) (es : List Entry) → Rise es → filter (λ (k : Footprint). nat_lt k.serial first) (each_from (footprint_of t) [] es) ≡ each_from (footprint_of t) [] (below first es)
footprints_below t first es r =
    let s = splits first es r in
    let old = below first es in
    let p : ℕ → Bool = λ n. nat_lt n first in
    let test : Footprint → Bool = λ k. nat_lt k.serial first in
    ap (λ es. filter test (each_from (footprint_of t) [] es)) s.whole
    ∙ ap (filter test) (each_join (footprint_of t) [] old s.gone)
    ∙ filter-append test (each_from (footprint_of t) [] old) (each_from (footprint_of t) (reverse old) s.gone)
    ∙ ap₂ (λ a b. a ++ b)
    (footprint_pass t p [] old (All-weaker (λ e. e.serial < first) (λ e. nat_lt e.serial first ≡ true) (λ e lt. is_below e.serial first lt) old s.older))
    (footprint_fail t p (reverse old) s.gone (All-weaker (λ e. first ≤ e.serial) (λ e. nat_lt e.serial first ≡ false) (λ e le. above_test e.serial first le) s.gone s.younger))
    ∙ append-nil (each_from (footprint_of t) [] old)

footprints_first : (t : Terms) (first : ℕ) (es : List Entry) → Rise es → take (length (below first es)) (each_from (footprint_of t) [] es) ≡ each_from (footprint_of t) [] (below first es)
footprints_first t first es r =
    let s = splits first es r in
    each_take (footprint_of t) [] es (length (below first es)) ∙ ap (each_from (footprint_of t) []) (ap (take (length (below first es))) s.whole ∙ take_first (below first es) s.gone)

-- the parts go on to refine the window as all entries from a serial on are dropped
pub refines_dropped : DropsFrom
refines_dropped p first i e s h older l =
    let t = terms p in
    let f = oldest_of p.next p.window in
    let q = below_serial first p in
    let ks = footprints p in
    let w = splits first p.window s.rise in
    let n : ℕ → Bool = λ n. nat_lt n first in
    let cut = footprints_below t first p.window s.rise in
    record {
      rise = rise_left (below first p.window) w.gone (subst Rise w.whole s.rise);
      next = all_left (λ e. e.serial < p.next) (below first p.window) w.gone (subst (All (λ e. e.serial < p.next)) w.whole s.next);
      columns = subst (λ f. Columns t f (parts q) (footprints q)) (sym (oldest_below p.next first p.window i e s.rise h older)) (record {
        sources = taken (unretired_sources f) (λ k. k.sources) (length (below first p.window)) p.sources ks s.columns.sources ∙ ap (column (λ k. Some k.sources)) (footprints_first t first p.window s.rise);
        writes = filtered (unretired_write f) (λ k. k.write) (λ (w : Write). w.serial) (λ (w : Write). w.serial) (λ w. refl) n p.writes ks (writes_numbered t [] p.window) s.columns.writes ∙ ap (column (λ k. k.write)) cut;
        waiters = filtered waiter_in (λ k. k.waiter) (λ (s : Station). s.serial) (λ (w : Waiter). w.serial) (λ w. refl) n p.held ks (waiters_numbered t [] p.window) s.columns.waiters ∙ ap (column (λ k. k.waiter)) cut;
        loads = filtered (load_in t) (λ k. k.load) (λ (l : QueuedLoad). l.serial) (λ (l : ShownLoad). l.serial) (λ w. refl) n p.queues.loads ks (loads_numbered t [] p.window) s.columns.loads ∙ ap (column (λ k. k.load)) cut;
        stores = filtered (store_in t f) (λ k. k.store) (λ (s : QueuedStore). s.serial) (λ (s : StoreFootprint). s.serial) (λ w. refl) n p.queues.stores ks (stores_numbered t [] p.window) s.columns.stores ∙ ap (column (λ k. k.store)) cut;
      });
      point = point_squashes p.point p.next first p.window i e s.point s.rise h older l;
    }

-- ---- the oldest retires

-- fewer roots and writers are told
holds_aged : (t : Terms) (f g : ℕ) (p : Parts) (ks : List Footprint) → f ≤ g → Columns t f p ks → Columns t g p (map (footprint_unretired g) ks)
holds_aged t f g p ks le s = record {
  sources = viewed (unretired_sources f) (λ k. Some k.sources) (unretired_sources g) (unretired_sources g) (footprint_unretired g)
      (λ x. ap₂ (λ r w. record { roots = r; writers = w }) (sym (unretired_all_twice f g x.roots le)) (sym (unretired_all_twice f g x.writers le))) (λ k. refl) p.sources ks s.sources;
  writes = viewed (unretired_write f) (λ k. k.write) (unretired_write g) (unretired_write g) (footprint_unretired g) (λ w. ap (λ r. record w { root = r }) (sym (unretired_twice f g w.root le))) (λ k. refl) p.writes ks s.writes;
  waiters = s.waiters ∙ frame_all waiter_in (λ k. k.waiter) (footprint_unretired g) (λ k. refl) ks;
  loads = s.loads ∙ frame_all (load_in t) (λ k. k.load) (footprint_unretired g) (λ k. refl) ks;
  stores = viewed (store_in t f) (λ k. k.store) (store_in t g) (unretired_store g) (footprint_unretired g) (λ x. ap (λ r. record (store_in t g x) { root = r }) (sym (unretired_twice f g x.root le))) (λ k. refl) p.queues.stores ks s.stores;
}

-- the write that goes is the only one of its serial
retired_is : (n : ℕ) (ws : List Write) → All (λ w. n ≤ w.serial) ws → without_retired n ws ≡ filter (λ w. nat_lt n w.serial) ws
retired_is n ws a = by_any (list_any (λ w. w.serial == n) ws) refl
  where
    none : (ws : List Write) → All (λ w. n ≤ w.serial) ws → list_any (λ w. w.serial == n) ws ≡ false → ws ≡ filter (λ w. nat_lt n w.serial) ws
    none [] a h = refl
    none (w ∷ ws) a h =
        let le = All-head (λ w. n ≤ w.serial) w ws a in
        let two_tests = neither (w.serial == n) (list_any (λ w. w.serial == n) ws) h in
        let f : (w.serial == n) ≡ false = two_tests.0 in
        let t : nat_lt n w.serial ≡ true = grind (arith, nat_tests) in
        ap (λ ws. w ∷ ws) (none ws (All-tail (λ w. n ≤ w.serial) w ws a) two_tests.1) ∙ ap (λ b. cond b (w ∷ filter (λ w. nat_lt n w.serial) ws) (filter (λ w. nat_lt n w.serial) ws)) (sym t)

    by_any : (b : Bool) → list_any (λ w. w.serial == n) ws ≡ b → (if b then filter (λ w. nat_lt n w.serial) ws else ws) ≡ filter (λ w. nat_lt n w.serial) ws
    by_any true h = refl
    by_any false h = none ws a h

abbrev parts_without : ℕ → Parts → Parts
parts_without n p = record { sources = drop 1 p.sources; writes = without_retired n p.writes; held = p.held; queues = without n p.queues }

holds_without : (t : Terms) (next : ℕ) (p : Parts) (x : Entry) (es : List Entry) → Rise (x ∷ es) → All (λ e. e.serial < next) (x ∷ es) → gives_at t.hold x ≡ true →
    Columns t x.serial p (each_from (footprint_of t) [] (x ∷ es)) → Columns t (oldest_of next es) (parts_without x.serial p) (each_from (footprint_of t) [] es)
holds_without t next p x es r b gives s =
    let n = x.serial in
    let g = oldest_of next es in
    let k = footprint_of t [] x in
    let rest = each_from (footprint_of t) (x ∷ []) es in
    let above : x.serial < g = oldest_above next x es r (All-head (λ e. e.serial < next) x es b) in
    let young = rise_head x es r in
    let done = both (not (t.hold.holds && is_load x.item.kind && not (nat_le x.serial t.hold.point))) (is_done x.state) gives in
    let self : (n == n) ≡ true = grind (arith, nat_tests) in
    let cut : filter (λ (k : Footprint). not (k.serial == n)) (k ∷ rest) ≡ rest = head_gone (λ m. not (m == n)) (ap not self) (All-weaker (λ d. n < d.serial) (λ d. not (d.serial == n) ≡ true) (λ d lt. other d.serial lt) es young) in
    let older : filter (λ (k : Footprint). nat_lt n k.serial) (k ∷ rest) ≡ rest =
    head_gone (λ m. nat_lt n m) (above_test n n (omega arith)) (All-weaker (λ d. n < d.serial) (λ d. nat_lt n d.serial ≡ true) (λ d lt. is_below n d.serial lt) es young) in
    let have = items_have (unretired_write n) (λ k. k.write) (λ (w : Write). w.serial) (λ (w : Write). w.serial) (λ w. refl) (λ m. n ≤ m) p.writes (k ∷ rest) (writes_numbered t [] (x ∷ es))
    (footprint_have t (λ m. n ≤ m) [] (x ∷ es) (All-cons (λ d. n ≤ d.serial) x es (omega arith) (All-weaker (λ d. n < d.serial) (λ d. n ≤ d.serial) (λ d lt. omega (arith, lt)) es young))) s.writes in
    subst (Columns t g (parts_without n p)) (sym (footprints_without t g x es (oldest_least next es (rise_tail x es r)) above gives))
    (holds_aged t n g (parts_without n p) rest (omega (arith, above)) (record {
      sources = dropped (unretired_sources n) (λ k. k.sources) p.sources k rest s.sources;
      writes = ap (map (unretired_write n)) (retired_is n p.writes have)
          ∙ filtered (unretired_write n) (λ k. k.write) (λ (w : Write). w.serial) (λ (w : Write). w.serial) (λ w. refl) (λ m. nat_lt n m) p.writes (k ∷ rest) (writes_numbered t [] (x ∷ es)) s.writes ∙ ap (column (λ k. k.write)) older;
      waiters = s.waiters ∙ ap (λ b. cons_option (if b then Some (waiter_of t.version (look_back t.hold [] x).awaits x) else None) (column (λ k. k.waiter) rest)) (done_waits x.state done.1);
      loads = filtered (load_in t) (λ k. k.load) (λ (l : QueuedLoad). l.serial) (λ (l : ShownLoad). l.serial) (λ w. refl) (λ m. not (m == n)) p.queues.loads (k ∷ rest) (loads_numbered t [] (x ∷ es)) s.loads ∙ ap (column (λ k. k.load)) cut;
      stores = filtered (store_in t n) (λ k. k.store) (λ (s : QueuedStore). s.serial) (λ (s : StoreFootprint). s.serial) (λ w. refl) (λ m. not (m == n)) p.queues.stores (k ∷ rest) (stores_numbered t [] (x ∷ es)) s.stores ∙ ap (column (λ k. k.store)) cut;
    }))
  where
    other : (m : ℕ) → x.serial < m → not (m == x.serial) ≡ true
    other m lt = let f : (m == x.serial) ≡ false = grind (arith, nat_tests) in ap not f

    head_gone : (p : ℕ → Bool) → p x.serial ≡ false → All (λ d. p d.serial ≡ true) es →
        filter (λ (k : Footprint). p k.serial) (each_from (footprint_of t) [] (x ∷ es)) ≡ each_from (footprint_of t) (x ∷ []) es
    head_gone p h a =
        let rest = filter (λ (k : Footprint). p k.serial) (each_from (footprint_of t) (x ∷ []) es) in
        ap (λ b. cond b (footprint_of t [] x ∷ rest) rest) h ∙ footprint_pass t p (x ∷ []) es a

-- the parts go on to refine the window as its oldest entry retires
pub refines_retired : RetiresHead
refines_retired p head s h d = by_window p.window s.rise s.next s.columns (point_retires p.point p.next p.window s.point) h
  where
    by_window : (w : List Entry) → Rise w → All (λ e. e.serial < p.next) w → Columns (terms p) (oldest_of p.next w) (parts p) (each_from (footprint_of (terms p)) [] w) → PointStands p.point p.next (drop 1 w) →
        slice_get w 0 ≡ Some head → Refines (record (without_head head p) { window = drop 1 w })
    by_window [] r b s at h = absurd (cc)
    by_window (x ∷ es) r b s at h =
        let a : x ≡ head = cc in
        record {
          rise = rise_tail x es r;
          next = All-tail (λ e. e.serial < p.next) x es b;
          columns = subst (λ (y : Entry). Columns (terms p) (oldest_of p.next es) (parts_without y.serial (parts p)) (each_from (footprint_of (terms p)) [] es)) a
              (holds_without (terms p) p.next (parts p) x es r b (ap (gives_at (hold_in p)) a ∙ d) s);
          point = at;
        }
