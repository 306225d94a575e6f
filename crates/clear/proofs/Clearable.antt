-- The store in the queue that is cleared is the machine's.
use Rattle.std.proofs.Common.{◌≡◌, ℕ, ◌<◌, ◌≤◌, Bool, true, false, not, ◌&&◌, List, [], ◌∷◌, Option, Some, None, refl, ap, ap₂, sym, ◌∙◌, arith, is_some}
use Rattle.std.specs.Prelude.{if◌then◌else◌, map}
use Rattle.std.specs.List.{cons_option, find}
use Rattle.std.specs.Option.{option_map}
use Rattle.machine_desc.specs.declared.Desc.{Desc}
use Rattle.window_model.specs.declared.Entry.{Entry}
use Rattle.window_model.specs.Along.{Along, Behind}
use Rattle.window_model.specs.Clear.{may_clear}
use Rattle.window_model.specs.Order.{Place, each_from, first_from, has_address, is_store}
use Rattle.window_model.specs.Serials.{Rise}
use Rattle.window_model.specs.Taint.{address_tainted}
use Rattle.window_model.proofs.Serials.{Falls}
use Rattle.lsq.specs.declared.store.Store.{Store}
use Rattle.queue_laws.specs.Window.{area_in, area_of}
use Rattle.visibility.specs.Point.{HasAdvanced, Point, is_hidden}
use Rattle.visibility.proofs.Moving.{Tells}
use Rattle.refinement.proofs.Queues.{base_hidden}
use Rattle.refinement.proofs.Visible.{told}
use Rattle.refinement.proofs.Youngest.{retired_shown}
use Rattle.refinement.specs.Footprint.{StoreFootprint, Terms, column, footprint_of, store_footprint, store_in}
use Rattle.refinement.specs.Refines.{terms}
use Rattle.refinement.specs.Roots.{base_root, source_roots}
use Rattle.refinement.specs.Waiters.{oldest_of}
use Rattle.clear.specs.Clearable.{FindsClearable, can_clear}

-- the three tests of a store that may be cleared, in the order in which the queue makes them
in_turn : (k c h : Bool) → (k && not c && not h) ≡ (not c && k && not h)
in_turn true true h = refl
in_turn true false h = refl
in_turn false true h = refl
in_turn false false h = refl

some_mapped : {X Y : Type 0} (f : X → Y) (o : Option X) → is_some o ≡ is_some (option_map f o)
some_mapped f None = refl
some_mapped f (Some x) = refl

known_if : (b : Bool) (e : Entry) → is_some (if b then Some (area_in e) else None) ≡ b
known_if true e = refl
known_if false e = refl

-- the store of an entry may be cleared where the entry may
can_as : (t : Terms) (point : Point) (f : ℕ) (x : Store) (root : Option ℕ) (e : Entry) (hidden : Bool) → t.tracked ≡ true → ((s : ℕ) → s < f → s ≤ point.serial) → store_in t f x ≡ store_footprint t root e → is_hidden point.serial root ≡ hidden →
    can_clear point.serial x ≡ (not e.cleared && has_address e && not hidden)
can_as t point f x root e hidden tr old h r =
    let known : is_some x.span ≡ has_address e = some_mapped area_of x.span ∙ ap (λ (s : StoreFootprint). is_some s.span) h ∙ known_if (has_address e) e in
    let cleared : x.cleared ≡ e.cleared = ap (λ b. b && x.cleared) (sym tr) ∙ ap (λ (s : StoreFootprint). s.cleared) h ∙ ap (λ b. b && e.cleared) tr in
    let shows : is_hidden point.serial x.root ≡ hidden = retired_shown point.serial f x.root old ∙ ap (λ (s : StoreFootprint). is_hidden point.serial s.root) h ∙ r in
    in_turn (is_some x.span) x.cleared (is_hidden point.serial x.root)
    ∙ ap₂ (λ c k. not c && k && not (is_hidden point.serial x.root)) cleared known ∙ ap (λ t. not e.cleared && has_address e && not t) shows

abbrev Found : ℕ → List Store → Option Place → Type 0
Found point stores place = option_map (λ (s : Store). s.serial) (find (can_clear point) stores) ≡ option_map (λ (p : Place). p.entry.serial) place

-- of the entries from one on
clear_by : (d : Desc) (t : Terms) (point : Point) (f : ℕ) (before es : List Entry) (stores : List Store) → t.tracked ≡ true → point.model ≡ d.stt_model → ((s : ℕ) → s < f → s ≤ point.serial) →
    Behind (Tells point) before → Behind Falls before → Along (Tells point) before es → Along Falls before es → map (store_in t f) stores ≡ column (λ k. k.store) (each_from (footprint_of t) before es) →
    Found point.serial stores (first_from (may_clear d) before es)
clear_by d t point f before [] [] tr q old u v a b s = refl
clear_by d t point f before [] (x ∷ stores) tr q old u v a b s = absurd (cc)
clear_by d t point f before (e ∷ es) stores tr q old u v a b s =
    by_store (is_store e.item.kind) stores s (λ stores s. clear_by d t point f (e ∷ before) es stores tr q old (a.0, u) (b.0, v) a.1 b.1 s)
  where
    here : Option Place
    here = Some (record { before = before; entry = e; younger = es })

    by_test : (x : Store) (stores : List Store) (b : Bool) → x.serial ≡ e.serial → Found point.serial stores (first_from (may_clear d) (e ∷ before) es) →
        option_map (λ (s : Store). s.serial) (if b then Some x else find (can_clear point.serial) stores)
        ≡ option_map (λ (p : Place). p.entry.serial) (if b then Some (record { before = before; entry = e; younger = es }) else first_from (may_clear d) (e ∷ before) es)
    by_test x stores true n k = ap Some n
    by_test x stores false n k = k

    by_store : (w : Bool) (stores : List Store) → map (store_in t f) stores ≡ cons_option (if w then Some (store_footprint t (base_root (source_roots before e)) e) else None) (column (λ k. k.store) (each_from (footprint_of t) (e ∷ before) es)) →
        ((stores : List Store) → map (store_in t f) stores ≡ column (λ k. k.store) (each_from (footprint_of t) (e ∷ before) es) → Found point.serial stores (first_from (may_clear d) (e ∷ before) es)) →
        Found point.serial stores (if w && not e.cleared && has_address e && not (address_tainted d.stt_model before e) then Some (record { before = before; entry = e; younger = es }) else first_from (may_clear d) (e ∷ before) es)
    by_store false stores s more = more stores s
    by_store true [] s more = absurd (cc)
    by_store true (x ∷ stores) s more =
        let own : store_in t f x ≡ store_footprint t (base_root (source_roots before e)) e = cc in
        let rest : map (store_in t f) stores ≡ column (λ k. k.store) (each_from (footprint_of t) (e ∷ before) es) = cc in
        let can = can_as t point f x (base_root (source_roots before e)) e (address_tainted d.stt_model before e) tr old own (base_hidden point before e u v ∙ ap (λ m. address_tainted m before e) q) in
        ap (λ b. option_map (λ (s : Store). s.serial) (if b then Some x else find (can_clear point.serial) stores)) can
        ∙ by_test x stores (not e.cleared && has_address e && not (address_tainted d.stt_model before e)) (ap (λ (s : StoreFootprint). s.serial) own) (more stores rest)

pub finds_clearable : FindsClearable
finds_clearable d p s m q tr = by_window p.window s.rise m s.columns.stores
  where
    by_window : (es : List Entry) → Rise es → HasAdvanced p.point es → map (store_in (terms p) (oldest_of p.next es)) p.queues.stores ≡ column (λ k. k.store) (each_from (footprint_of (terms p)) [] es) →
        Found p.point.serial p.queues.stores (first_from (may_clear d) [] es)
    by_window [] r m s = clear_by d (terms p) p.point 0 [] [] p.queues.stores tr q (λ n lt. absurd (omega (arith, lt))) tt tt tt tt (unaged p.queues.stores s)
      where
        unaged : (xs : List Store) → map (store_in (terms p) p.next) xs ≡ [] → map (store_in (terms p) 0) xs ≡ []
        unaged [] h = refl
        unaged (x ∷ xs) h = absurd (cc)
    by_window (e ∷ es) r m s = let t = told p.point p.next e es r m in clear_by d (terms p) p.point e.serial [] (e ∷ es) p.queues.stores tr q t.retired tt tt t.tells t.falls s
