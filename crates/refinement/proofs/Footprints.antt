-- The footprint of an entry, as it, and the older ones, go on, and the oldest leaves.
use Rattle.std.proofs.Common.{Bool, List, None, Option, Some, [], ap, ap₂, cond, false, refl, sym, true, ℕ, ◌++◌, ◌<◌, ◌∙◌, ◌∷◌, ◌≡◌, ◌≤◌}
use Rattle.std.proofs.lemmas.List.Elements.{All-cons, All-head, All-nil, All-tail}
use Rattle.std.specs.List.{All, AllByRecursion as Each, AllZip, filter}
use Rattle.std.specs.Option.{option_map}
use Rattle.std.specs.Prelude.{if◌then◌else◌, map}
use Rattle.queue_laws.specs.Window.{ShownLoad}
use Rattle.rename_taint.specs.Writes.{root_written}
use Rattle.rename_taint.specs.declared.Write.{Write}
use Rattle.rv_types.specs.Regs.{reads_of, two, writes_of}
use Rattle.window_model.proofs.Booleans.{or_false}
use Rattle.window_model.proofs.Serials.{rise_head, rise_tail}
use Rattle.window_model.specs.Order.{each_from, is_load, is_register, is_store, is_waiting, sources, writer, writes}
use Rattle.window_model.specs.Serials.{Rise}
use Rattle.window_model.specs.declared.Entry.{Entry}
use Rattle.window_model.specs.declared.Item.{Item}
use Rattle.refinement.proofs.Columns.{Numbered, Rises}
use Rattle.refinement.proofs.Each.{each_on}
use Rattle.refinement.proofs.Lists.{keeps_all, keeps_none, map_same, map_twice, if_mapped}
use Rattle.refinement.proofs.Serials.{goes_same}
use Rattle.refinement.proofs.Waking.{Gives, Wakes, awaited_woken, gives_go, strike_each, woken, strike_nothing}
use Rattle.refinement.proofs.Youngest.{root_without, unretired_in, unretired_out, unretired_roots, unretired_written}
use Rattle.refinement.specs.Footprint.{Footprint, Found, StoreFootprint, Terms, footprint_by, footprint_of, load_footprint, look_back, store_footprint, unretired_sources, unretired_write}
use Rattle.refinement.specs.Roots.{base_root, root_of_source, root_in_flight, youngest_root}
use Rattle.refinement.specs.Stations.{GoesOn}
use Rattle.refinement.specs.Waiters.{Hold, Waiter, awaited_serial, awaited_of, gives_at, waiter_of, write_of}
use Rattle.refinement.specs.Writers.{writer_of_source}

-- ---- serials

-- a fact of serials that all entries have
pub footprint_have : (t : Terms) (P : ℕ → Type 0) (b es : List Entry) → All (λ e. P e.serial) es → All (λ (k : Footprint). P k.serial) (each_from (footprint_of t) b es)
footprint_have t P b [] a = All-nil (λ (k : Footprint). P k.serial)
footprint_have t P b (e ∷ es) a =
    All-cons (λ (k : Footprint). P k.serial) (footprint_of t b e) (each_from (footprint_of t) (e ∷ b) es) (All-head (λ e. P e.serial) e es a) (footprint_have t P (e ∷ b) es (All-tail (λ e. P e.serial) e es a))

-- footprints have the serials of their entries, so they rise
pub footprint_rise : (t : Terms) (b es : List Entry) → Rise es → Rises (each_from (footprint_of t) b es)
footprint_rise t b [] r = tt
footprint_rise t b (e ∷ es) r = (footprint_have t (λ n. e.serial < n) (e ∷ b) es (rise_head e es r), footprint_rise t (e ∷ b) es (rise_tail e es r))

-- the footprints whose serials pass a test, where all do or none does
pub footprint_pass : (t : Terms) (p : ℕ → Bool) (b es : List Entry) → All (λ e. p e.serial ≡ true) es → filter (λ (k : Footprint). p k.serial) (each_from (footprint_of t) b es) ≡ each_from (footprint_of t) b es
footprint_pass t p b es a = keeps_all (λ (k : Footprint). p k.serial) (each_from (footprint_of t) b es) (footprint_have t (λ n. p n ≡ true) b es a)

-- no footprint passes a test of serials that no entry passes
pub footprint_fail : (t : Terms) (p : ℕ → Bool) (b es : List Entry) → All (λ e. p e.serial ≡ false) es → filter (λ (k : Footprint). p k.serial) (each_from (footprint_of t) b es) ≡ []
footprint_fail t p b es a = keeps_none (λ (k : Footprint). p k.serial) (each_from (footprint_of t) b es) (footprint_have t (λ n. p n ≡ false) b es a)

-- what a footprint has for each part has the entry's serial
each_has : (t : Terms) (P : Footprint → Type 0) → ((l : Found) (e : Entry) → P (footprint_by t l e)) → (b es : List Entry) → Each P (each_from (footprint_of t) b es)
each_has t P h b [] = tt
each_has t P h b (e ∷ es) = (h (look_back t.hold b e) e, each_has t P h (e ∷ b) es)

if_numbered : {X : Type 0} (xn : X → ℕ) (b : Bool) (x : X) → option_map xn (if b then Some x else None) ≡ option_map (λ y. xn x) (if b then Some x else None)
if_numbered xn b x = sym (if_mapped xn b x) ∙ if_mapped (λ y. xn x) b x

-- what an entry writes has its serial
pub writes_numbered : (t : Terms) (b es : List Entry) → Each (Numbered (λ (w : Write). w.serial) (λ k. k.write)) (each_from (footprint_of t) b es)
writes_numbered t b es = each_has t (Numbered (λ (w : Write). w.serial) (λ k. k.write)) (λ l e. by_write l e (writes_of e.item.instr)) b es
  where
    by_write : (l : Found) (e : Entry) (o : Option ℕ) → option_map (λ (w : Write). w.serial) (option_map (λ r. record { serial = e.serial; register = r; root = root_written e.item.kind e.serial l.roots }) o)
        ≡ option_map (λ (w : Write). e.serial) (option_map (λ r. record { serial = e.serial; register = r; root = root_written e.item.kind e.serial l.roots }) o)
    by_write l e None = refl
    by_write l e (Some r) = refl

-- the waiter of an entry has its serial
pub waiters_numbered : (t : Terms) (b es : List Entry) → Each (Numbered (λ (w : Waiter). w.serial) (λ k. k.waiter)) (each_from (footprint_of t) b es)
waiters_numbered t b es = each_has t (Numbered (λ (w : Waiter). w.serial) (λ k. k.waiter)) (λ l e. if_numbered (λ (w : Waiter). w.serial) (is_waiting e.state) (waiter_of t.version l.awaits e)) b es

-- the load of an entry has its serial
pub loads_numbered : (t : Terms) (b es : List Entry) → Each (Numbered (λ (l : ShownLoad). l.serial) (λ k. k.load)) (each_from (footprint_of t) b es)
loads_numbered t b es = each_has t (Numbered (λ (l : ShownLoad). l.serial) (λ k. k.load)) (λ l e. if_numbered (λ (l : ShownLoad). l.serial) (is_load e.item.kind) (load_footprint t e)) b es

-- the store of an entry has its serial
pub stores_numbered : (t : Terms) (b es : List Entry) → Each (Numbered (λ (s : StoreFootprint). s.serial) (λ k. k.store)) (each_from (footprint_of t) b es)
stores_numbered t b es =
    each_has t (Numbered (λ (s : StoreFootprint). s.serial) (λ k. k.store)) (λ l e. if_numbered (λ (s : StoreFootprint). s.serial) (is_store e.item.kind) (store_footprint t (base_root l.roots) e)) b es

-- ---- older entries go on, or come to give their values

root_alike : (b b2 : List Entry) → AllZip GoesOn b b2 → (r : ℕ) → youngest_root b2 r ≡ youngest_root b r
root_alike [] [] v r = refl
root_alike [] (e2 ∷ b2) v r = absurd v
root_alike (e ∷ b) [] v r = absurd v
root_alike (e ∷ b) (e2 ∷ b2) v r =
    ap₂ (λ (s : ℕ) (i : Item). if is_register r (writes_of i.instr) then root_written i.kind s (map (youngest_root b2) (reads_of i.instr)) else youngest_root b2 r) v.0.serial v.0.item
    ∙ ap₂ (λ m y. if writes r e then root_written e.item.kind e.serial m else y) (map_same (youngest_root b2) (youngest_root b) (sources e) (root_alike b b2 v.1)) (root_alike b b2 v.1 r)

source_alike : (b b2 : List Entry) → AllZip GoesOn b b2 → (o : Option ℕ) → root_of_source b2 o ≡ root_of_source b o
source_alike b b2 v None = refl
source_alike b b2 v (Some r) = root_alike b b2 v r

writer_alike : (b b2 : List Entry) → AllZip GoesOn b b2 → (o : Option ℕ) → writer_of_source b2 o ≡ writer_of_source b o
writer_alike b b2 v None = refl
writer_alike [] [] v (Some r) = refl
writer_alike [] (e2 ∷ b2) v (Some r) = absurd v
writer_alike (e ∷ b) [] v (Some r) = absurd v
writer_alike (e ∷ b) (e2 ∷ b2) v (Some r) =
    ap (λ (i : Item). option_map (λ (e : Entry). e.serial) (cond (is_register r (writes_of i.instr)) (Some e2) (writer b2 r))) v.0.item ∙ by_writes (writes r e) (writer_alike b b2 v.1 (Some r))
  where
    by_writes : (w : Bool) → option_map (λ (e : Entry). e.serial) (writer b2 r) ≡ option_map (λ (e : Entry). e.serial) (writer b r) →
        option_map (λ (e : Entry). e.serial) (cond w (Some e2) (writer b2 r)) ≡ option_map (λ (e : Entry). e.serial) (cond w (Some e) (writer b r))
    by_writes true h = ap Some v.0.serial
    by_writes false h = h

found_by : (k l : Found) → k.roots ≡ l.roots → k.writers ≡ l.writers → k.awaits ≡ l.awaits → k ≡ l
found_by k l p q s = ap₂ (λ r w. record k { roots = r; writers = w }) p q ∙ ap (λ a. record l { awaits = a }) s

look_woken : (h h2 : Hold) (ss : List ℕ) (b b2 : List Entry) (e : Entry) → AllZip (Gives h h2 ss) b b2 → look_back h2 b2 e ≡ record (look_back h b e) { awaits = map (strike_each ss) (look_back h b e).awaits }
look_woken h h2 ss b b2 e v =
    let on = gives_go h h2 ss b b2 v in
    let os = two (sources e) in
    found_by (look_back h2 b2 e) (record (look_back h b e) { awaits = map (strike_each ss) (look_back h b e).awaits })
    (map_same (root_of_source b2) (root_of_source b) os (source_alike b b2 on))
    (map_same (writer_of_source b2) (writer_of_source b) os (writer_alike b b2 on))
    (map_same (awaited_serial h2 b2) (λ o. strike_each ss (awaited_serial h b o)) os (awaited_woken h h2 ss b b2 v) ∙ sym (map_twice (strike_each ss) (awaited_serial h b) os))

-- no station awaits these serials any more
abbrev pub wake : List ℕ → Footprint → Footprint
wake ss k = record k { waiter = option_map (woken ss) k.waiter }

-- an entry wakes, and so do the older ones
pub footprint_woken : (t : Terms) (h2 : Hold) (ss : List ℕ) (b b2 : List Entry) (e e2 : Entry) → AllZip (Gives t.hold h2 ss) b b2 → Wakes t.hold h2 ss e e2 →
    footprint_of (record t { hold = h2 }) b2 e2 ≡ wake ss (footprint_of t b e)
footprint_woken t h2 ss b b2 e e2 v w =
    let l = look_back t.hold b e in
    ap (λ (i : Item). footprint_by t (record { roots = map (root_of_source b2) (two (reads_of i.instr)); writers = map (writer_of_source b2) (two (reads_of i.instr)); awaits = map (awaited_serial h2 b2) (two (reads_of i.instr)) }) e2) w.gives.on.item
    ∙ w.same t (look_back h2 b2 e)
    ∙ ap (λ l. footprint_by t l e) (look_woken t.hold h2 ss b b2 e v)
    ∙ ap (λ w. record (footprint_by t l e) { waiter = w }) (if_mapped (woken ss) (is_waiting e.state) (waiter_of t.version l.awaits e))

-- the footprints of all entries in flight wake with those serials
pub footprints_woken : (t : Terms) (h2 : Hold) (ss : List ℕ) (es es2 : List Entry) → AllZip (Wakes t.hold h2 ss) es es2 →
    each_from (footprint_of (record t { hold = h2 })) [] es2 ≡ map (wake ss) (each_from (footprint_of t) [] es)
footprints_woken t h2 ss es es2 v =
    each_on (footprint_of t) (footprint_of (record t { hold = h2 })) (wake ss) (AllZip (Gives t.hold h2 ss)) (Wakes t.hold h2 ss) (λ b b2 e e2 p w. (w.gives, p)) (footprint_woken t h2 ss) [] [] es es2 tt v

-- older ones that give their values as before aren't seen to go on
pub footprint_alike : (t : Terms) (b b2 : List Entry) (e : Entry) → AllZip (Gives t.hold t.hold []) b b2 → footprint_of t b2 e ≡ footprint_of t b e
footprint_alike t b b2 e v =
    ap (λ l. footprint_by t l e) (look_woken t.hold t.hold [] b b2 e v ∙ ap (λ a. record (look_back t.hold b e) { awaits = a }) (strike_nothing (look_back t.hold b e).awaits))

-- an entry that stays gives its value or not as it did
pub gives_same : (h : Hold) (e : Entry) → Gives h h [] e e
gives_same h e = record { on = goes_same e; gives = sym (or_false (gives_at h e)) }

-- ---- the oldest leaves

writer_without : (f : ℕ) (before : List Entry) (h : Entry) → All (λ e. f ≤ e.serial) before → h.serial < f → (o : Option ℕ) →
    root_in_flight f (writer_of_source (before ++ h ∷ []) o) ≡ writer_of_source before o
writer_without f before h a lt None = refl
writer_without f [] h a lt (Some r) = by_writes (writes r h)
  where
    by_writes : (b : Bool) → root_in_flight f (option_map (λ e. e.serial) (cond b (Some h) None)) ≡ None
    by_writes true = unretired_out f h.serial lt
    by_writes false = refl
writer_without f (e ∷ before) h a lt (Some r) = by_writes (writes r e) (writer_without f before h (All-tail (λ e. f ≤ e.serial) e before a) lt (Some r))
  where
    by_writes : (b : Bool) → root_in_flight f (option_map (λ e. e.serial) (writer (before ++ h ∷ []) r)) ≡ option_map (λ e. e.serial) (writer before r) →
        root_in_flight f (option_map (λ e. e.serial) (cond b (Some e) (writer (before ++ h ∷ []) r))) ≡ option_map (λ e. e.serial) (cond b (Some e) (writer before r))
    by_writes true k = unretired_in f e.serial (All-head (λ e. f ≤ e.serial) e before a)
    by_writes false k = k

awaited_without : (hold : Hold) (before : List Entry) (h : Entry) → gives_at hold h ≡ true → (o : Option ℕ) → awaited_serial hold (before ++ h ∷ []) o ≡ awaited_serial hold before o
awaited_without hold before h d None = refl
awaited_without hold [] h d (Some r) = by_writes (writes r h)
  where
    by_writes : (b : Bool) → awaited_of hold (cond b (Some h) None) ≡ None
    by_writes true = ap (λ b. if b then None else Some h.serial) d
    by_writes false = refl
awaited_without hold (e ∷ before) h d (Some r) = by_writes (writes r e) (awaited_without hold before h d (Some r))
  where
    by_writes : (b : Bool) → awaited_of hold (writer (before ++ h ∷ []) r) ≡ awaited_of hold (writer before r) → awaited_of hold (cond b (Some e) (writer (before ++ h ∷ []) r)) ≡ awaited_of hold (cond b (Some e) (writer before r))
    by_writes true k = refl
    by_writes false k = k

-- only roots and writers from a serial on are told
abbrev pub unretired_store : ℕ → StoreFootprint → StoreFootprint
unretired_store oldest s = record s { root = root_in_flight oldest s.root }

-- a footprint, as far as its roots and writers are told
abbrev pub footprint_unretired : ℕ → Footprint → Footprint
footprint_unretired oldest k = record k { sources = unretired_sources oldest k.sources; write = option_map (unretired_write oldest) k.write; store = option_map (unretired_store oldest) k.store }

-- of a pair of roots the first, where it is told
pub first_shown : (f : ℕ) (rs : List (Option ℕ)) → base_root (map (root_in_flight f) rs) ≡ root_in_flight f (base_root rs)
first_shown f [] = refl
first_shown f (r ∷ rs) = refl

-- what an entry writes, where its sources' roots are told
pub write_shown : (f : ℕ) (e : Entry) (rs : List (Option ℕ)) → f ≤ e.serial → write_of e (map (root_in_flight f) rs) ≡ option_map (unretired_write f) (write_of e rs)
write_shown f e rs le = by_write (writes_of e.item.instr)
  where
    by_write : (o : Option ℕ) → option_map (λ r. record { serial = e.serial; register = r; root = root_written e.item.kind e.serial (map (root_in_flight f) rs) }) o
        ≡ option_map (unretired_write f) (option_map (λ r. record { serial = e.serial; register = r; root = root_written e.item.kind e.serial rs }) o)
    by_write None = refl
    by_write (Some r) = ap (λ root. Some (record { serial = e.serial; register = r; root = root })) (sym (unretired_written f e.item.kind e.serial rs le))

abbrev found_unretired : ℕ → Found → Found
found_unretired oldest l = record l { roots = map (root_in_flight oldest) l.roots; writers = map (root_in_flight oldest) l.writers }

footprint_by_unretired : (t : Terms) (f : ℕ) (l : Found) (e : Entry) → f ≤ e.serial → footprint_by t (found_unretired f l) e ≡ footprint_unretired f (footprint_by t l e)
footprint_by_unretired t f l e le =
    let rs = map (root_in_flight f) l.roots in
    ap₂ (λ (w : Option Write) (s : Option StoreFootprint). record (footprint_by t l e) { sources = record { roots = map (root_in_flight f) l.roots; writers = map (root_in_flight f) l.writers }; write = w; store = s })
    (write_shown f e l.roots le)
    (ap (λ root. if is_store e.item.kind then Some (store_footprint t root e) else None) (first_shown f l.roots) ∙ if_mapped (unretired_store f) (is_store e.item.kind) (store_footprint t (base_root l.roots) e))

footprint_without : (t : Terms) (f : ℕ) (before : List Entry) (h e : Entry) → All (λ e. f ≤ e.serial) before → h.serial < f → gives_at t.hold h ≡ true → f ≤ e.serial →
    footprint_of t before e ≡ footprint_unretired f (footprint_of t (before ++ h ∷ []) e)
footprint_without t f before h e a lt g le =
    let os = two (sources e) in
    let old = before ++ h ∷ [] in
    ap (λ l. footprint_by t l e)
    (found_by (look_back t.hold before e) (found_unretired f (look_back t.hold old e))
    (sym (unretired_roots f before old os (root_without f before h a lt)))
    (sym (map_twice (root_in_flight f) (writer_of_source old) os ∙ map_same (λ o. root_in_flight f (writer_of_source old o)) (writer_of_source before) os (writer_without f before h a lt)))
    (sym (map_same (awaited_serial t.hold old) (awaited_serial t.hold before) os (awaited_without t.hold before h g))))
    ∙ footprint_by_unretired t f (look_back t.hold old e) e le

-- what the entries look back on is without the oldest
record Without (f : ℕ) (h : Entry) (b b2 : List Entry) : Type 0 where
  whole : b ≡ b2 ++ h ∷ []
  young : All (λ e. f ≤ e.serial) b2

record Stays (f : ℕ) (e e2 : Entry) : Type 0 where
  is : e ≡ e2
  young : f ≤ e2.serial

each_stays : (f : ℕ) (es : List Entry) → All (λ e. f ≤ e.serial) es → AllZip (Stays f) es es
each_stays f [] a = tt
each_stays f (e ∷ es) a = (record { is = refl; young = All-head (λ e. f ≤ e.serial) e es a }, each_stays f es (All-tail (λ e. f ≤ e.serial) e es a))

-- once the oldest has left, the others' footprints are what they were, where its serial isn't told
pub footprints_without : (t : Terms) (f : ℕ) (h : Entry) (es : List Entry) → All (λ e. f ≤ e.serial) es → h.serial < f → gives_at t.hold h ≡ true →
    each_from (footprint_of t) [] es ≡ map (footprint_unretired f) (each_from (footprint_of t) (h ∷ []) es)
footprints_without t f h es a lt g =
    each_on (footprint_of t) (footprint_of t) (footprint_unretired f) (Without f h) (Stays f)
    (λ b b2 e e2 p s. record { whole = ap₂ (λ e b. e ∷ b) s.is p.whole; young = All-cons (λ e. f ≤ e.serial) e2 b2 s.young p.young })
    (λ b b2 e e2 p s. footprint_without t f b2 h e2 p.young lt g s.young ∙ ap₂ (λ b e. footprint_unretired f (footprint_of t b e)) (sym p.whole) (sym s.is))
    (h ∷ []) [] es es (record { whole = refl; young = All-nil (λ e. f ≤ e.serial) }) (each_stays f es a)
