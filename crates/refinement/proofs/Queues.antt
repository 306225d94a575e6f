-- What the queues hold of the window, and the roots of the stores.
use mathlib.Core.List.{reverse_aux}
use Rattle.std.proofs.Common.{Bool, List, None, Option, Some, [], ap, ap₂, arith, cond, drop, false, map, refl, slice_get, subst, sym, take, true, ℕ, ◌&&◌, ◌∙◌, ◌∷◌, ◌≡◌}
use Rattle.std.specs.List.{cons_option, filter, list_any}
use Rattle.std.specs.Option.{option_map}
use Rattle.std.specs.Prelude.{if◌then◌else◌, nat_le, nat_lt, reverse}
use Rattle.lsq.specs.Queues.{Queues, older}
use Rattle.lsq.specs.declared.store.Store.{Store as QueuedStore}
use Rattle.queue_laws.proofs.Keeping.{older_stands}
use Rattle.queue_laws.specs.Window.{Shown, ShownClearing, ShownLoad, StandFor, StoresStandFor, hides, shown_cleared, shown_clearing, shown_entry, shown_load, shown_reader, tainted_stores}
use Rattle.visibility.specs.Point.{HasAdvanced, Point, is_hidden}
use Rattle.visibility.proofs.Moving.{Tells}
use Rattle.window_model.proofs.Booleans.{or_false}
use Rattle.window_model.proofs.EntryByEntry.{along_front}
use Rattle.rob_ring.specs.Ring.{below}
use Rattle.window_model.proofs.Serials.{Falls, splits}
use Rattle.window_model.specs.Along.{Along, Behind}
use Rattle.window_model.specs.Order.{before_at, each_from, is_load, is_store}
use Rattle.window_model.specs.Serials.{Rise}
use Rattle.window_model.specs.Taint.{address_tainted}
use Rattle.window_model.specs.declared.Entry.{Entry}
use Rattle.refinement.proofs.Columns.{filtered}
use Rattle.refinement.proofs.Footprints.{stores_numbered}
use Rattle.refinement.proofs.Lists.{halves, map_back, map_same, map_twice, if_mapped, map_id}
use Rattle.refinement.proofs.Serials.{below_is}
use Rattle.refinement.proofs.Steps.{footprints_below}
use Rattle.refinement.proofs.Visible.{operands_told, told}
use Rattle.refinement.proofs.Youngest.{retired_shown, unretired_in}
use Rattle.refinement.specs.Footprint.{Footprint, StoreFootprint, Terms, column, footprint_of, load_in, store_footprint, store_in}
use Rattle.refinement.specs.Refines.{footprints, terms}
use Rattle.refinement.specs.Roots.{base_root, source_roots, root_in_flight}
use Rattle.refinement.specs.Waiters.{oldest_of}
use Rattle.refinement.specs.Telling.{QueuesStand, QueuesTrack, TellsEachStore}

-- ---- the queues

-- what is shown of one kind of entries, as far as it doesn't look back
of_kind : {X Y : Type 0} (t : Terms) (field : Footprint → Option X) (view : X → Y) (g : Entry → Y) (test : Entry → Bool) → ((b : List Entry) (e : Entry) → option_map view (field (footprint_of t b e)) ≡ (if test e then Some (g e) else None)) →
    (b es : List Entry) → map view (column field (each_from (footprint_of t) b es)) ≡ map g (filter test es)
of_kind {X = X} t field view g test h b [] = refl
of_kind {X = X} t field view g test h b (e ∷ es) = mapped (field (footprint_of t b e)) ∙ ap₂ cons_option (h b e) (of_kind t field view g test h (e ∷ b) es) ∙ by_test (test e)
  where
    mapped : (o : Option X) → map view (cons_option o (column field (each_from (footprint_of t) (e ∷ b) es))) ≡ cons_option (option_map view o) (map view (column field (each_from (footprint_of t) (e ∷ b) es)))
    mapped None = refl
    mapped (Some x) = refl

    by_test : (c : Bool) → cons_option (if c then Some (g e) else None) (map g (filter test es)) ≡ map g (cond c (e ∷ filter test es) (filter test es))
    by_test true = refl
    by_test false = refl

if_view : {X Y : Type 0} (view : X → Y) (b : Bool) (x : X) (y : Y) → view x ≡ y → option_map view (if b then Some x else None) ≡ (if b then Some y else None)
if_view view b x y h = sym (if_mapped view b x) ∙ ap (λ y. if b then Some y else None) h

abbrev column_of : StoreFootprint → Shown
column_of s = record { serial = s.serial; span = s.span; known_from = s.known_from; stored = s.stored; computed = s.computed }

-- the queues hold the window's loads and stores
pub queues_stand : QueuesStand
queues_stand p s =
    let t = terms p in
    let f = oldest_of p.next p.window in
    record {
      loads = sym (map_twice (λ (l : ShownLoad). l.serial) (load_in t) p.queues.loads) ∙ ap (map (λ (l : ShownLoad). l.serial)) s.columns.loads
          ∙ of_kind t (λ k. k.load) (λ (l : ShownLoad). l.serial) (λ e. e.serial) (λ e. is_load e.item.kind) (λ b e. if_view (λ (l : ShownLoad). l.serial) (is_load e.item.kind) _ e.serial refl) [] p.window;
      stores = sym (map_twice column_of (store_in t f) p.queues.stores) ∙ ap (map column_of) s.columns.stores
          ∙ of_kind t (λ k. k.store) column_of shown_entry (λ e. is_store e.item.kind) (λ b e. if_view column_of (is_store e.item.kind) _ (shown_entry e) refl) [] p.window;
    }

abbrev clearing_of : StoreFootprint → ShownClearing
clearing_of s = record { serial = s.serial; known_from = s.known_from; cleared = s.cleared }

-- the queues track what loads have read and which stores are cleared, where loads may pass stores
pub queues_track : QueuesTrack
queues_track p s tr =
    let t = terms p in
    let f = oldest_of p.next p.window in
    record {
      loads = map_same shown_load (load_in t) p.queues.loads (λ l. ap (λ b. record { serial = l.serial; reading = if b then (shown_load l).reading else None }) (sym tr))
          ∙ s.columns.loads ∙ sym (map_id (λ x. x) (λ x. refl) (column (λ k. k.load) (footprints p)))
          ∙ of_kind t (λ k. k.load) (λ l. l) shown_reader (λ e. is_load e.item.kind)
          (λ b e. if_view (λ l. l) (is_load e.item.kind) _ (shown_reader e) (ap (λ b. record { serial = e.serial; reading = if b then (shown_reader e).reading else None }) tr)) [] p.window;
      stores = map_same shown_cleared (λ x. clearing_of (store_in t f x)) p.queues.stores
          (λ x. ap (λ b. record (shown_cleared x) { cleared = b && x.cleared }) (sym tr))
          ∙ sym (map_twice clearing_of (store_in t f) p.queues.stores) ∙ ap (map clearing_of) s.columns.stores
          ∙ of_kind t (λ k. k.store) clearing_of shown_clearing (λ e. is_store e.item.kind)
          (λ b e. if_view clearing_of (is_store e.item.kind) _ (shown_clearing e) (ap (λ b. record (shown_clearing e) { cleared = b && e.cleared }) tr)) [] p.window;
    }

-- the queue's stores before an entry stand for the entries before it
pub stores_before : (q : Queues) (es : List Entry) (i : ℕ) (e : Entry) → StandFor q es → Rise es → slice_get es i ≡ Some e → StoresStandFor (older e.serial q.stores) (before_at es i)
stores_before q es i e s r h =
    let t = splits e.serial es r in
    subst (λ es. StoresStandFor (older e.serial q.stores) (reverse es)) (below_is es i e r h)
    (older_stands q (below e.serial es) t.gone e.serial (subst (StandFor q) t.whole s) t.older t.younger)

-- ---- what the roots tell

-- the root of the base register is the first of an entry's roots
pub base_told : (point : ℕ) (rs : List (Option ℕ)) → list_any (is_hidden point) (take 1 rs) ≡ is_hidden point (base_root rs)
base_told point [] = refl
base_told point (r ∷ rs) = or_false (is_hidden point r)

-- a root is hidden from those that see up to the point where it is above the point
pub hides_root : (point : ℕ) (r : Option ℕ) → hides (λ root. nat_le root point) r ≡ is_hidden point r
hides_root point None = refl
hides_root point (Some root) = refl

-- ---- which stores have tainted addresses

-- the root of an entry's base register tells whether its address is tainted
pub base_hidden : (point : Point) (b : List Entry) (e : Entry) → Behind (Tells point) b → Behind Falls b → is_hidden point.serial (base_root (source_roots b e)) ≡ address_tainted point.model b e
base_hidden point b e u v =
    sym (base_told point.serial (source_roots b e)) ∙ (operands_told point 0 b e (source_roots b e) u v (λ s lt. absurd (omega (arith, lt))) (same (source_roots b e))).base
  where
    same : (os : List (Option ℕ)) → map (root_in_flight 0) os ≡ os
    same [] = refl
    same (None ∷ os) = ap (λ os. None ∷ os) (same os)
    same (Some n ∷ os) = ap₂ (λ o os. o ∷ os) (unretired_in 0 n (omega arith)) (same os)

-- whether the addresses of the entries' stores are tainted, youngest first
hidden_turned : (t : Terms) (point : Point) (b es : List Entry) → Behind (Tells point) b → Behind Falls b → Along (Tells point) b es → Along Falls b es →
    reverse_aux (map (λ (x : StoreFootprint). is_hidden point.serial x.root) (column (λ k. k.store) (each_from (footprint_of t) b es))) (tainted_stores point.model b) ≡ tainted_stores point.model (reverse_aux es b)
hidden_turned t point b [] u v a c = refl
hidden_turned t point b (e ∷ es) u v a c = by_store (is_store e.item.kind) (base_hidden point b e u v) ∙ hidden_turned t point (e ∷ b) es (a.0, u) (c.0, v) a.1 c.1
  where
    by_store : (w : Bool) → is_hidden point.serial (base_root (source_roots b e)) ≡ address_tainted point.model b e → reverse_aux (map (λ (x : StoreFootprint). is_hidden point.serial x.root) (cons_option (if w then Some (store_footprint t (base_root (source_roots b e)) e) else None) (column (λ k. k.store) (each_from (footprint_of t) (e ∷ b) es)))) (tainted_stores point.model b)
        ≡ reverse_aux (map (λ (x : StoreFootprint). is_hidden point.serial x.root) (column (λ k. k.store) (each_from (footprint_of t) (e ∷ b) es))) (if w then address_tainted point.model b e ∷ tainted_stores point.model b else tainted_stores point.model b)
    by_store true base = ap (λ b2. reverse_aux (map (λ (x : StoreFootprint). is_hidden point.serial x.root) (column (λ k. k.store) (each_from (footprint_of t) (e ∷ b) es))) (b2 ∷ tainted_stores point.model b)) base
    by_store false base = refl

-- the root of each store that is older than an entry tells whether its address is tainted
pub tells_each_store : TellsEachStore
tells_each_store p i e s m h = by_window p.window s.rise m h has
  where
    olds : List QueuedStore
    olds = filter (λ x. nat_lt x.serial e.serial) p.queues.stores

    has : map (store_in (terms p) (oldest_of p.next p.window)) (filter (λ x. nat_lt x.serial e.serial) p.queues.stores) ≡ column (λ k. k.store) (each_from (footprint_of (terms p)) [] (take i p.window))
    has =
        filtered (store_in (terms p) (oldest_of p.next p.window)) (λ k. k.store) (λ (x : QueuedStore). x.serial) (λ (x : StoreFootprint). x.serial) (λ x. refl) (λ n. nat_lt n e.serial) p.queues.stores (footprints p)
        (stores_numbered (terms p) [] p.window) s.columns.stores
        ∙ ap (column (λ k. k.store)) (footprints_below (terms p) e.serial p.window s.rise)
        ∙ ap (λ es. column (λ k. k.store) (each_from (footprint_of (terms p)) [] es)) (below_is p.window i e s.rise h)

    by_window : (es : List Entry) → Rise es → HasAdvanced p.point es → slice_get es i ≡ Some e →
        map (store_in (terms p) (oldest_of p.next es)) (filter (λ x. nat_lt x.serial e.serial) p.queues.stores) ≡ column (λ k. k.store) (each_from (footprint_of (terms p)) [] (take i es)) →
        map (λ (x : QueuedStore). hides (λ root. nat_le root p.point.serial) x.root) (older e.serial p.queues.stores) ≡ tainted_stores p.point.model (before_at es i)
    by_window [] r m h k = absurd (cc)
    by_window (x ∷ es) r m h k =
        let t = told p.point p.next x es r m in
        let olds : List QueuedStore = filter (λ x. nat_lt x.serial e.serial) p.queues.stores in
        let hide : QueuedStore → Bool = λ y. hides (λ root. nat_le root p.point.serial) y.root in
        let seen : StoreFootprint → Bool = λ y. is_hidden p.point.serial y.root in
        map_back hide olds []
        ∙ ap (λ bs. reverse_aux bs [])
        (map_same hide (λ y. seen (store_in (terms p) x.serial y)) olds (λ y. hides_root p.point.serial y.root ∙ retired_shown p.point.serial x.serial y.root t.retired)
        ∙ sym (map_twice seen (store_in (terms p) x.serial) olds) ∙ ap (map seen) k)
        ∙ hidden_turned (terms p) p.point [] (take i (x ∷ es)) tt tt
        (along_front (Tells p.point) [] (take i (x ∷ es)) (drop i (x ∷ es)) (subst (Along (Tells p.point) []) (sym (halves i (x ∷ es))) t.tells))
        (along_front Falls [] (take i (x ∷ es)) (drop i (x ∷ es)) (subst (Along Falls []) (sym (halves i (x ∷ es))) t.falls))
