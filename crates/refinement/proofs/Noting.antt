-- An entry issues, or a part of it, and a store is cleared: its footprint is what the parts then note.
use Rattle.std.proofs.Common.{Bool, List, None, Option, Some, [], ap, ap₂, false, map, refl, slice_get, subst, suc, sym, take, true, zero, ℕ, ◌<◌, ◌∙◌, ◌∷◌, ◌≡◌}
use Rattle.std.specs.List.{AllByRecursion as Each, remove}
use Rattle.std.specs.Option.{option_map}
use Rattle.std.specs.Prelude.{if◌then◌else◌, is_some, nat_le, not, reverse, slice_set, ◌&&◌, ◌==◌, ◌||◌}
use Rattle.lsq.specs.Queues.{Queues, addressed_at, filled_at, issued_at}
use Rattle.lsq.specs.declared.load.Load.{Load as QueuedLoad}
use Rattle.lsq.specs.declared.store.Span.{Span}
use Rattle.lsq.specs.declared.store.Store.{Store as QueuedStore}
use Rattle.queue_laws.specs.Window.{Reading, ShownLoad, area_in, area_of, shown_reader}
use Rattle.refinement.specs.Noted.{PartsGoOn, access_in, cycle_or_first, has_read, span_in, with_span, with_stored}
use Rattle.rename_taint.specs.Writes.{root_written}
use Rattle.rv_types.specs.Regs.{reads_of, two, writes_of}
use Rattle.rv_types.specs.Value.{bytes_in}
use Rattle.rv_types.specs.declared.Width.{Width}
use Rattle.stations.specs.Stations.{Station, left_wanting}
use Rattle.stations.specs.declared.wants.Wants.{Wants}
use Rattle.window_model.proofs.Booleans.{or_false, waiting_done}
use Rattle.window_model.specs.Clear.{cleared_one}
use Rattle.window_model.specs.Order.{each_from, fault_of, has_address, has_data, is_done, is_load, is_store, is_waiting}
use Rattle.window_model.specs.Retire.{addr_of, stored_of, byte_count}
use Rattle.window_model.specs.declared.Entry.{Entry}
use Rattle.window_model.specs.declared.Item.{Item}
use Rattle.refinement.proofs.Columns.{Numbered, Rises, column_at, column_removed, column_set, noted, noted_at, place, frame_at}
use Rattle.refinement.proofs.Each.{each_at, each_set}
use Rattle.refinement.proofs.Footprints.{footprint_alike, footprint_rise, gives_same, loads_numbered, stores_numbered}
use Rattle.refinement.proofs.Lists.{map_id, map_remove, map_same, map_twice, zip_set, unknown}
use Rattle.refinement.proofs.Moving.{point_clears, point_issues}
use Rattle.refinement.proofs.Serials.{all_on, goes_same, oldest_on, rise_on}
use Rattle.refinement.proofs.Stations.{station_place}
use Rattle.refinement.proofs.Waking.{Gives}
use Rattle.refinement.specs.Footprint.{Footprint, StoreFootprint, Terms, column, footprint_of, load_footprint, load_in, look_back, store_footprint, store_in, unretired_sources, unretired_write}
use Rattle.refinement.specs.Refines.{Columns, footprints, parts, terms}
use Rattle.refinement.specs.Roots.{base_root, root_of_source, source_roots}
use Rattle.refinement.specs.Stations.{GoesOn, left_held, station_of}
use Rattle.refinement.specs.Steps.{ClearsAt, IssuesAt, with_cleared, with_issued}
use Rattle.refinement.specs.Waiters.{Hold, Waiter, awaited_serial, gives_at, oldest_of, waiter_in, waiter_of, wants_of}
use Rattle.refinement.specs.Writers.{writer_of_source}
use Rattle.refinement.specs.Noted as queues

-- ---- an entry that gives its value or not as before

-- an entry that goes on, Done or not as it was, gives its value or not as it did
steady : (h : Hold) (e e2 : Entry) → GoesOn e e2 → is_done e2.state ≡ is_done e.state → Gives h h [] e e2
steady h e e2 on done = record {
  on = on;
  gives = ap₂ (λ (i : Item) (s : ℕ). not (h.holds && is_load i.kind && not (nat_le s h.point)) && is_done e2.state) on.item on.serial
      ∙ ap (λ d. not (h.holds && is_load e.item.kind && not (nat_le e.serial h.point)) && d) done ∙ sym (or_false (gives_at h e));
}

-- the footprint of an entry changes, and of no other one
footprints_set : (t : Terms) (es : List Entry) (i : ℕ) (e e2 : Entry) → slice_get es i ≡ Some e → Gives t.hold t.hold [] e e2 →
    each_from (footprint_of t) [] (slice_set es i e2) ≡ slice_set (each_from (footprint_of t) [] es) i (footprint_of t (reverse (take i es)) e2)
footprints_set t es i e e2 h g = each_set (footprint_of t) (Gives t.hold t.hold []) (gives_same t.hold) (footprint_alike t) [] es i e e2 h g

wanting : (k : ℕ) (wants : Wants) (held : List Station) (x : Waiter) → slice_get (map waiter_in held) k ≡ Some x → map waiter_in (left_wanting k wants held) ≡ slice_set (map waiter_in held) k (record x { wants = wants })
wanting k wants [] x h = absurd (cc)
wanting zero wants (s ∷ held) x h = let a : waiter_in s ≡ x = cc in ap (λ (x : Waiter). record x { wants = wants } ∷ map waiter_in held) a
wanting (suc k) wants (s ∷ held) x h = ap (λ ws. waiter_in s ∷ ws) (wanting k wants held x h)

-- an entry that waited is held no more, or wants something else
waiters_left : (t : Terms) (version : ℕ) (held : List Station) (ks : List Footprint) (n i : ℕ) (k : Footprint) (x : Waiter) (e2 : Entry) (k2 : Footprint) → n ≡ place waiter_in (λ k. k.waiter) i ks → map waiter_in held ≡ column (λ k. k.waiter) ks →
    slice_get ks i ≡ Some k → k.waiter ≡ Some x → k2.waiter ≡ (if is_waiting e2.state then Some (record x { wants = wants_of version e2 }) else None) →
    map waiter_in (left_held version n e2 held) ≡ column (λ k. k.waiter) (slice_set ks i k2)
waiters_left t version held ks n i k x e2 k2 at s h own new = by_wait (is_waiting e2.state) new
  where
    here : slice_get (map waiter_in held) n ≡ Some x
    here = ap₂ slice_get s at ∙ column_at waiter_in (λ k. k.waiter) ks i k x h own

    by_wait : (b : Bool) → k2.waiter ≡ (if b then Some (record x { wants = wants_of version e2 }) else None) →
        map waiter_in (if b then left_wanting n (wants_of version e2) held else remove held n) ≡ column (λ k. k.waiter) (slice_set ks i k2)
    by_wait true q =
        wanting n (wants_of version e2) held x here ∙ ap₂ (λ ws n. slice_set ws n (record x { wants = wants_of version e2 })) s at
        ∙ column_set waiter_in (λ k. k.waiter) ks i k k2 x (record x { wants = wants_of version e2 }) h own q
    by_wait false q = map_remove waiter_in held n ∙ ap₂ (λ ws n. remove ws n) s at ∙ column_removed waiter_in (λ k. k.waiter) ks i k k2 x h own q

-- ---- stores

-- the parts of a store that are noted, in one
abbrev with_parts : Bool → Bool → Width → Entry → QueuedStore → QueuedStore
with_parts a d w e s = record s { span = if a then Some (span_in w e) else s.span; stored = if d then Some (stored_of e.outcome) else s.stored }

each_noted : (a d : Bool) (w : Width) (e : Entry) (ss : List QueuedStore) → with_stored d e (with_span a w e ss) ≡ map (λ s. if s.serial == e.serial then with_parts a d w e s else s) ss
each_noted true true w e ss = map_twice (filled_at e.serial (stored_of e.outcome)) (addressed_at e.serial (span_in w e)) ss ∙ map_same _ _ ss (λ s. by_test (s.serial == e.serial) s refl)
  where
    by_test : (b : Bool) (s : QueuedStore) → (s.serial == e.serial) ≡ b → filled_at e.serial (stored_of e.outcome) (if b then record s { span = Some (span_in w e) } else s)
        ≡ (if b then record s { span = Some (span_in w e); stored = Some (stored_of e.outcome) } else s)
    by_test true s h = ap (λ b. if b then record s { span = Some (span_in w e); stored = Some (stored_of e.outcome) } else record s { span = Some (span_in w e) }) h
    by_test false s h = ap (λ b. if b then record s { stored = Some (stored_of e.outcome) } else s) h
each_noted true false w e ss = refl
each_noted false true w e ss = refl
each_noted false false w e ss = sym (map_id (λ s. if s.serial == e.serial then s else s) (λ s. by_test (s.serial == e.serial) s) ss)
  where
    by_test : (b : Bool) (s : QueuedStore) → (if b then s else s) ≡ s
    by_test true s = refl
    by_test false s = refl

store_is : (s u : StoreFootprint) → s.serial ≡ u.serial → s.root ≡ u.root → s.span ≡ u.span → s.stored ≡ u.stored → s.computed ≡ u.computed → s.known_from ≡ u.known_from → s.cleared ≡ u.cleared → s ≡ u
store_is s u a b c d e f g =
    ap₂ (λ n r. record s { serial = n; root = r }) a b
    ∙ ap₂ (λ k v. record s { serial = u.serial; root = u.root; span = k; stored = v }) c d
    ∙ ap₂ (λ p k. record u { computed = p; known_from = k; cleared = s.cleared }) e f
    ∙ ap (λ c. record u { cleared = c }) g

-- what wasn't there once it isn't
gone : (b c : Bool) → (b ≡ true → c ≡ true) → c ≡ false → b ≡ false
gone true c h k = let x = h refl in absurd (cc)
gone false c h k = refl

none_of : {X Y : Type 0} (f : X → Y) (o : Option X) → option_map f o ≡ None → o ≡ None
none_of f None h = refl
none_of f (Some x) h = absurd (cc)

-- a store of which parts issue
own_store : (t : Terms) (f : ℕ) (root : Option ℕ) (w : Width) (e e2 : Entry) (x : QueuedStore) → e2.serial ≡ e.serial → PartsGoOn w e e2 → (t.tracked ≡ true → e2.cleared ≡ e.cleared) → store_in t f x ≡ store_footprint t root e →
    store_in t f (record x { span = if has_address e2 then Some (span_in w e2) else x.span; stored = if has_data e2 then Some (stored_of e2.outcome) else x.stored }) ≡ store_footprint t root e2
own_store t f root w e e2 x n g c h =
    store_is (store_in t f (record x { span = if has_address e2 then Some (span_in w e2) else x.span; stored = if has_data e2 then Some (stored_of e2.outcome) else x.stored })) (store_footprint t root e2)
    (ap (λ (s : StoreFootprint). s.serial) h ∙ sym n) (ap (λ (s : StoreFootprint). s.root) h) (by_span (has_address e2) refl) (by_stored (has_data e2) refl)
    (computed (has_address e2 || has_data e2) (is_some e2.outcome) g.outcome) (by_known (has_address e2) refl) (by_cleared t.tracked (ap (λ (s : StoreFootprint). s.cleared) h) c)
  where
    span : has_address e2 ≡ false → option_map area_of x.span ≡ None
    span q = ap (λ (s : StoreFootprint). s.span) h ∙ ap (λ b. if b then Some (area_in e) else None) (gone (has_address e) (has_address e2) g.address q)

    by_span : (b : Bool) → has_address e2 ≡ b → option_map area_of (if b then Some (span_in w e2) else x.span) ≡ (if b then Some (area_in e2) else None)
    by_span true q = ap (λ n. Some (record { addr = addr_of e2.outcome; bytes = n; fault = fault_of e2.outcome })) g.size
    by_span false q = span q

    by_stored : (b : Bool) → has_data e2 ≡ b → (if b then Some (stored_of e2.outcome) else x.stored) ≡ (if b then Some (stored_of e2.outcome) else None)
    by_stored true q = refl
    by_stored false q = ap (λ (s : StoreFootprint). s.stored) h ∙ ap (λ b. if b then Some (stored_of e.outcome) else None) (gone (has_data e) (has_data e2) g.stored q)

    computed : (p o : Bool) → (p ≡ true → o ≡ true) → true ≡ (not p || o)
    computed true o k = sym (k refl)
    computed false o k = refl

    known : (o : Option ℕ) → is_some o ≡ true → Some (cycle_or_first o) ≡ o
    known None k = absurd (cc)
    known (Some c) k = refl

    by_known : (b : Bool) → has_address e2 ≡ b → option_map (λ (k : Span). k.known_from) (if b then Some (span_in w e2) else x.span) ≡ e2.addr_due
    by_known true q = known e2.addr_due q
    by_known false q = ap (option_map (λ (k : Span). k.known_from)) (none_of area_of x.span (span q)) ∙ unknown e2.addr_due q

    by_cleared : (tracked : Bool) → (tracked && x.cleared) ≡ (tracked && e.cleared) → (tracked ≡ true → e2.cleared ≡ e.cleared) → (tracked && x.cleared) ≡ (tracked && e2.cleared)
    by_cleared true h c = h ∙ sym (c refl)
    by_cleared false h c = refl

-- the footprint of the store at a position, by whether there is one
stores_issued : (store : Bool) (t : Terms) (f : ℕ) (stores : List QueuedStore) (ks : List Footprint) (i : ℕ) (k k2 : Footprint) (root : Option ℕ) (w : Width) (e e2 : Entry) →
    Each (Numbered (λ (s : StoreFootprint). s.serial) (λ k. k.store)) ks → Rises ks → slice_get ks i ≡ Some k → k.serial ≡ e.serial → e2.serial ≡ e.serial →
    k.store ≡ (if store then Some (store_footprint t root e) else None) → k2.store ≡ (if store then Some (store_footprint t root e2) else None) →
    (store ≡ true → PartsGoOn w e e2) → (t.tracked ≡ true → e2.cleared ≡ e.cleared) → map (store_in t f) stores ≡ column (λ k. k.store) ks →
    map (store_in t f) (if store then with_stored (has_data e2) e2 (with_span (has_address e2) w e2 stores) else stores) ≡ column (λ k. k.store) (slice_set ks i k2)
stores_issued false t f stores ks i k k2 root w e e2 num rise h m n old new g c s = s ∙ frame_at (store_in t f) (λ k. k.store) ks i k k2 h (new ∙ sym old)
stores_issued true t f stores ks i k k2 root w e e2 num rise h m n old new g c s =
    ap (map (store_in t f)) (each_noted (has_address e2) (has_data e2) w e2 stores)
    ∙ noted (store_in t f) (λ k. k.store) (λ (s : QueuedStore). s.serial) (λ (s : StoreFootprint). s.serial) (λ x. refl) (with_parts (has_address e2) (has_data e2) w e2) stores ks i e2.serial k k2 (store_footprint t root e)
    num rise h (n ∙ sym m) old (λ x is. ap Some (own_store t f root w e e2 x n (g refl) c is) ∙ sym new) s

-- ---- loads

-- what an entry has read of so many bytes in a cycle
abbrev reading_in : Entry → ℕ → ℕ → Reading
reading_in e bytes cycle = record { area = record { addr = addr_of e.outcome; bytes = bytes; fault = fault_of e.outcome }; cycle = cycle }

reading_is : (w : Width) (e : Entry) (o : Option ℕ) → is_some o ≡ true → bytes_in w ≡ byte_count e → Some (reading_in e (bytes_in w) (cycle_or_first o)) ≡ option_map (reading_in e (byte_count e)) o
reading_is w e (Some c) h z = ap (λ n. Some (reading_in e n c)) z
reading_is w e None h z = absurd (cc)

none_read : (e : Entry) (o : Option ℕ) → is_some o ≡ false → option_map (reading_in e (byte_count e)) o ≡ None
none_read e None h = refl
none_read e (Some c) h = absurd (cc)

-- by whether reads are tracked, it is a load, and has issued
loads_issued : (tracked load read : Bool) (t : Terms) (loads : List QueuedLoad) (ks : List Footprint) (i : ℕ) (k k2 : Footprint) (w : Width) (e e2 : Entry) → t.tracked ≡ tracked → is_some e2.issued ≡ read →
    Each (Numbered (λ (l : ShownLoad). l.serial) (λ k. k.load)) ks → Rises ks → slice_get ks i ≡ Some k → k.serial ≡ e.serial → e2.serial ≡ e.serial →
    k.load ≡ (if load then Some (load_footprint t e) else None) → k2.load ≡ (if load then Some (load_footprint t e2) else None) →
    (tracked ≡ true → load ≡ true → read ≡ false → e2.issued ≡ e.issued) → (tracked ≡ true → (load && read) ≡ true → bytes_in w ≡ byte_count e2) → map (load_in t) loads ≡ column (λ k. k.load) ks →
    map (load_in t) (if tracked && (load && read) then map (issued_at e2.serial (access_in w e2)) loads else loads) ≡ column (λ k. k.load) (slice_set ks i k2)
loads_issued true true true t loads ks i k k2 w e e2 tr r num rise h m n old new unread size s =
    noted (load_in t) (λ k. k.load) (λ (l : QueuedLoad). l.serial) (λ (l : ShownLoad). l.serial) (λ x. refl) (λ l. record l { access = Some (access_in w e2) }) loads ks i e2.serial k k2 (load_footprint t e)
    num rise h (n ∙ sym m) old
    (λ x is. ap₂ (λ (n : ℕ) (r : Option Reading). Some (record { serial = n; reading = if t.tracked then r else None })) (ap (λ (l : ShownLoad). l.serial) is ∙ sym n) (reading_is w e2 e2.issued r (size refl refl)) ∙ sym new) s
loads_issued true true false t loads ks i k k2 w e e2 tr r num rise h m n old new unread size s =
    let same = unread refl refl refl in
    let now = none_read e2 e2.issued r in
    let before = none_read e e.issued (ap is_some (sym same) ∙ r) in
    s ∙ frame_at (load_in t) (λ k. k.load) ks i k k2 h
    (new ∙ ap₂ (λ (n : ℕ) (r : Option Reading). Some (record { serial = n; reading = if t.tracked then r else None })) n (now ∙ sym before) ∙ sym old)
loads_issued true false read t loads ks i k k2 w e e2 tr r num rise h m n old new unread size s = s ∙ frame_at (load_in t) (λ k. k.load) ks i k k2 h (new ∙ sym old)
loads_issued false load read t loads ks i k k2 w e e2 tr r num rise h m n old new unread size s =
    s ∙ frame_at (load_in t) (λ k. k.load) ks i k k2 h (new ∙ by_load load ∙ sym old)
  where
    untracked : load_footprint t e2 ≡ load_footprint t e
    untracked =
        ap (λ b. record { serial = e2.serial; reading = if b then (shown_reader e2).reading else None }) tr
        ∙ ap (λ n. record { serial = n; reading = None }) n
        ∙ ap (λ b. record { serial = e.serial; reading = if b then (shown_reader e).reading else None }) (sym tr)

    by_load : (b : Bool) → (if b then Some (load_footprint t e2) else None) ≡ (if b then Some (load_footprint t e) else None)
    by_load true = ap Some untracked
    by_load false = refl

-- ---- the steps

stores_of_read : (b : Bool) (w : Width) (e : Entry) (q : Queues) → (if b then record q { loads = map (issued_at e.serial (access_in w e)) q.loads } else q).stores ≡ q.stores
stores_of_read true w e q = refl
stores_of_read false w e q = refl

loads_of_read : (b : Bool) (w : Width) (e : Entry) (q : Queues) →
    (if b then record q { loads = map (issued_at e.serial (access_in w e)) q.loads } else q).loads ≡ (if b then map (issued_at e.serial (access_in w e)) q.loads else q.loads)
loads_of_read true w e q = refl
loads_of_read false w e q = refl

-- the parts go on to refine the window as an entry issues, whole or by a part
pub refines_issued : IssuesAt
refines_issued p i e e2 w s h waits issued on_so tracks_so =
    let t = terms p in
    let f = oldest_of p.next p.window in
    let ks = footprints p in
    let b = reverse (take i p.window) in
    let k = footprint_of t b e in
    let k2 = footprint_of t b e2 in
    let q = with_issued i w e2 p in
    let on = issued.on in
    let new = slice_set p.window i e2 in
    let go = zip_set GoesOn goes_same p.window i e e2 h on in
    let at : slice_get ks i ≡ Some k = each_at (footprint_of t) [] p.window i e h in
    let x = waiter_of t.version (look_back t.hold b e).awaits e in
    let rises = footprint_rise t [] p.window s.rise in
    let noted = queues.queues_with_parts w e2 p.queues in
    let reads = p.tracked && has_read e2 in
    record {
      rise = rise_on p.window new go s.rise;
      next = all_on (λ n. n < p.next) p.window new go s.next;
      columns = subst (λ f. Columns t f (parts q) (footprints q)) (sym (oldest_on p.next p.window new go))
          (subst (Columns t f (parts q)) (sym (footprints_set t p.window i e e2 h (steady t.hold e e2 on (issued.undone ∙ sym (waiting_done e.state waits))))) (record {
            sources = s.columns.sources ∙ frame_at (unretired_sources f) (λ k. Some k.sources) ks i k k2 at
                (ap (λ (i : Item). Some (record { roots = map (root_of_source b) (two (reads_of i.instr)); writers = map (writer_of_source b) (two (reads_of i.instr)) })) on.item);
            writes = s.columns.writes ∙ frame_at (unretired_write f) (λ k. k.write) ks i k k2 at
                (ap₂ (λ (n : ℕ) (i : Item). option_map (λ r. record { serial = n; register = r; root = root_written i.kind n (map (root_of_source b) (two (reads_of i.instr))) }) (writes_of i.instr)) on.serial on.item);
            waiters = waiters_left t p.version p.held ks (station_of i p.window) i k x e2 k2 (station_place t p.window i) s.columns.waiters at (ap (λ b. if b then Some x else None) waits)
                (ap₂ (λ (n : ℕ) (i : Item). if is_waiting e2.state then Some (record { serial = n; awaits = map (awaited_serial t.hold b) (two (reads_of i.instr)); wants = wants_of p.version e2 }) else None) on.serial on.item);
            loads = ap (map (load_in t)) (loads_of_read reads w e2 noted)
                ∙ loads_issued p.tracked (is_load e2.item.kind) (is_some e2.issued) t p.queues.loads ks i k k2 w e e2 refl refl (loads_numbered t [] p.window) rises at refl on.serial
                (ap (λ (i : Item). if is_load i.kind then Some (load_footprint t e) else None) (sym on.item)) refl
                (λ tr l r. (tracks_so tr).unread (ap (λ (i : Item). is_load i.kind) (sym on.item) ∙ l) (ap₂ (λ a b. a && b) l r)) (λ tr r. (tracks_so tr).size) s.columns.loads;
            stores = ap (map (store_in t f)) (stores_of_read reads w e2 noted)
                ∙ stores_issued (is_store e2.item.kind) t f p.queues.stores ks i k k2 (base_root (source_roots b e)) w e e2 (stores_numbered t [] p.window) rises at refl on.serial
                (ap (λ (i : Item). if is_store i.kind then Some (store_footprint t (base_root (source_roots b e)) e) else None) (sym on.item))
                (ap (λ (j : Item). if is_store e2.item.kind then Some (store_footprint t (base_root (map (root_of_source b) (two (reads_of j.instr)))) e2) else None) on.item)
                (λ l. on_so (ap (λ (i : Item). is_store i.kind) (sym on.item) ∙ l)) (λ tr. (tracks_so tr).cleared) s.columns.stores;
          }));
      point = point_issues p.point p.next p.window i e e2 s.point h waits issued;
    }

-- a store is cleared, and nothing else is
store_cleared : (t : Terms) (f : ℕ) (root : Option ℕ) (e : Entry) (b : Bool) (o : Option QueuedStore) → option_map (store_in t f) o ≡ (if b then Some (store_footprint t root e) else None) →
    option_map (λ (x : QueuedStore). store_in t f (record x { cleared = true })) o ≡ (if b then Some (store_footprint t root (cleared_one e)) else None)
store_cleared t f root e true None h = absurd (cc)
store_cleared t f root e true (Some x) h = let is : store_in t f x ≡ store_footprint t root e = cc in ap (λ (s : StoreFootprint). Some (record s { cleared = t.tracked && true })) is
store_cleared t f root e false None h = refl
store_cleared t f root e false (Some x) h = absurd (cc)

-- the parts go on to refine the window as a store is cleared
pub refines_cleared : ClearsAt
refines_cleared p i e s h =
    let t = terms p in
    let f = oldest_of p.next p.window in
    let ks = footprints p in
    let b = reverse (take i p.window) in
    let old = footprint_of t b e in
    let c = footprint_of t b (cleared_one e) in
    let q = with_cleared i e p in
    let on : GoesOn e (cleared_one e) = record { serial = refl; item = refl } in
    let new = slice_set p.window i (cleared_one e) in
    let go = zip_set GoesOn goes_same p.window i e (cleared_one e) h on in
    let at : slice_get ks i ≡ Some old = each_at (footprint_of t) [] p.window i e h in
    record {
      rise = rise_on p.window new go s.rise;
      next = all_on (λ n. n < p.next) p.window new go s.next;
      columns = subst (λ f. Columns t f (parts q) (footprints q)) (sym (oldest_on p.next p.window new go))
          (subst (Columns t f (parts q)) (sym (footprints_set t p.window i e (cleared_one e) h (steady t.hold e (cleared_one e) on refl))) (record {
            sources = s.columns.sources ∙ frame_at (unretired_sources f) (λ k. Some k.sources) ks i old c at refl;
            writes = s.columns.writes ∙ frame_at (unretired_write f) (λ k. k.write) ks i old c at refl;
            waiters = s.columns.waiters ∙ frame_at waiter_in (λ k. k.waiter) ks i old c at refl;
            loads = s.columns.loads ∙ frame_at (load_in t) (λ k. k.load) ks i old c at refl;
            stores = noted_at (store_in t f) (λ k. k.store) (λ (s : QueuedStore). s.serial) (λ (s : StoreFootprint). s.serial) (λ x. refl) (λ x. record x { cleared = true }) p.queues.stores ks i e.serial old c
                (stores_numbered t [] p.window) (footprint_rise t [] p.window s.rise) at refl (store_cleared t f (base_root (source_roots b e)) e (is_store e.item.kind)) s.columns.stores;
          }));
      point = point_clears p.point p.next p.window i e s.point h;
    }
