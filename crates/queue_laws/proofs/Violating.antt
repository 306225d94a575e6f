-- The load that a store violates is found in the queue as it is in the window.
use Rattle.std.proofs.Common.{◌≡◌, ℕ, ◌<◌, ◌≤◌, Bool, true, false, cond, not, ◌&&◌, ◌||◌, List, [], ◌∷◌, ◌++◌, Option, Some, None, refl, ap, ap₂, sym, ◌∙◌, arith}
use Rattle.std.specs.Prelude.{map, is_some, nat_lt, if◌then◌else◌}
use Rattle.std.specs.List.{All, find, list_any}
use Rattle.std.specs.Option.{option_and_then, option_map}
use Rattle.std.proofs.lemmas.Bool.Decides.{nat_tests}
use Rattle.std.proofs.lemmas.List.Elements.{All-head, All-tail}
use Rattle.rv_types.specs.Memory.{range}
use Rattle.window_model.specs.declared.Entry.{Entry}
use Rattle.window_model.specs.Access.{covers}
use Rattle.window_model.specs.Clear.{is_before, is_violated as violates_entry, shares}
use Rattle.window_model.specs.Order.{Place, first, first_from, is_faulty, is_load, is_store}
use Rattle.window_model.specs.Retire.{addr_of, byte_count}
use Rattle.window_model.specs.Serials.{Rise}
use Rattle.window_model.proofs.Serials.{all_right, rise_head, rise_tail}
use Rattle.lsq.specs.declared.load.IssuedLoad.{IssuedLoad}
use Rattle.lsq.specs.declared.load.Load.{Load}
use Rattle.lsq.specs.declared.store.Span.{Span}
use Rattle.lsq.specs.declared.store.Store.{Store}
use Rattle.lsq.specs.Queues.{Queues}
use Rattle.lsq.specs.Clearing.{is_violated, passed_wrongly, store_of, violated_serial}
use Rattle.queue_laws.specs.Window.{Area, Others, Reading, Shown, ShownClearing, ShownLoad, StandFor, Tracks, area_in, area_of, reading_of, readers_in, shown_cleared, shown_clearing, shown_entry, shown_load, shown_reader, shown_store, stores_in}
use Rattle.queue_laws.specs.Laws.{Violates}
use Rattle.queue_laws.proofs.Around.{others_older, store_alone, stores_around}
use Rattle.queue_laws.proofs.Shown.{all_computed, all_have, computed_in, covers_shown, reaches_shown}
use Rattle.queue_laws.proofs.Finding.{found_as, own_found}

abbrev loads_of : Entry → Bool
loads_of e = is_load e.item.kind

abbrev stores_of : Entry → Bool
stores_of e = is_store e.item.kind

-- ---- by what both show

-- what is read was read before it was known where the store writes, and shares a byte with it
abbrev wrong_by : Option Area → Option ℕ → Option Reading → Bool
wrong_by k (Some from) (Some r) = nat_lt r.cycle from && not (is_some r.area.fault) && list_any (λ b. reaches_shown b k) (range r.area.addr r.area.bytes)
wrong_by k _ _ = false

-- a younger load read so
abbrev wrong_shown : Shown → ShownClearing → ShownLoad → Bool
wrong_shown s c l = nat_lt s.serial l.serial && wrong_by s.span c.known_from l.reading

-- ---- of the queue

wrong_known : (k : Option Span) (a : Option IssuedLoad) → passed_wrongly k a ≡ wrong_by (option_map area_of k) (option_map (λ (k : Span). k.known_from) k) (option_map reading_of a)
wrong_known (Some k) (Some a) = refl
wrong_known (Some k) None = refl
wrong_known None (Some a) = refl
wrong_known None None = refl

violated_known : (s : Store) (l : Load) → is_violated s l ≡ wrong_shown (shown_store s) (shown_cleared s) (shown_load l)
violated_known s l = ap (λ b. nat_lt s.serial l.serial && b) (wrong_known s.span l.access)

find_same : {X : Type 0} (p q : X → Bool) → ((x : X) → p x ≡ q x) → (xs : List X) → find p xs ≡ find q xs
find_same p q h [] = refl
find_same p q h (x ∷ xs) = ap₂ (λ b o. cond b (Some x) o) (h x) (find_same p q h xs)

serial_shown : (o : Option Load) → option_map (λ (l : Load). l.serial) o ≡ option_map (λ (l : ShownLoad). l.serial) (option_map shown_load o)
serial_shown None = refl
serial_shown (Some l) = refl

serial_reader : (o : Option Entry) → option_map (λ (l : ShownLoad). l.serial) (option_map shown_reader o) ≡ option_map (λ (e : Entry). e.serial) o
serial_reader None = refl
serial_reader (Some e) = refl

-- the load that is found is the first of the window's that shows so
violated_shown : (s : Store) (ls : List Load) (window : List Entry) → map shown_load ls ≡ readers_in window →
    violated_serial s ls ≡ option_map (λ e. e.serial) (find (λ e. is_load e.item.kind && wrong_shown (shown_store s) (shown_cleared s) (shown_reader e)) window)
violated_shown s ls window h =
    let wrong = wrong_shown (shown_store s) (shown_cleared s) in
    ap (option_map (λ (l : Load). l.serial)) (find_same (is_violated s) (λ l. wrong (shown_load l)) (violated_known s) ls)
    ∙ serial_shown (find (λ l. wrong (shown_load l)) ls)
    ∙ ap (option_map (λ (l : ShownLoad). l.serial)) (found_as shown_load shown_reader loads_of wrong ls window h)
    ∙ serial_reader (find (λ e. is_load e.item.kind && wrong (shown_reader e)) window)

-- ---- of the window

-- who isn't younger isn't found
not_younger : (n : ℕ) (c : Option Area) (k : Option ℕ) (e : Entry) → e.serial ≤ n → (is_load e.item.kind && (nat_lt n e.serial && wrong_by c k (shown_reader e).reading)) ≡ false
not_younger n c k e h = and_false (is_load e.item.kind) (nat_lt n e.serial) (wrong_by c k (shown_reader e).reading) (grind (arith, nat_tests))
  where
    and_false : (a b c : Bool) → b ≡ false → (a && (b && c)) ≡ false
    and_false true b c h = ap (λ b. b && c) h
    and_false false b c h = refl

find_past : (p : Entry → Bool) (old : List Entry) (e : Entry) (young : List Entry) → ((x : Entry) → x.serial ≤ e.serial → p x ≡ false) → Rise (old ++ e ∷ young) → find p (old ++ e ∷ young) ≡ find p young
find_past p [] e young h r = ap (λ b. cond b (Some e) (find p young)) (h e (omega arith))
find_past p (x ∷ old) e young h r =
    let lt : x.serial < e.serial = All-head (λ d. x.serial < d.serial) e young (all_right (λ d. x.serial < d.serial) old (e ∷ young) (rise_head x (old ++ e ∷ young) r)) in
    ap (λ b. cond b (Some x) (find p (old ++ e ∷ young))) (h x (omega (arith, lt))) ∙ find_past p old e young h (rise_tail x (old ++ e ∷ young) r)

-- who is younger shows so where it passed wrongly
any_same : (p q : ℕ → Bool) → ((a : ℕ) → p a ≡ q a) → (bytes : List ℕ) → list_any p bytes ≡ list_any q bytes
any_same p q h [] = refl
any_same p q h (a ∷ bytes) = ap₂ (λ x y. x || y) (h a) (any_same p q h bytes)

joined : (a b c : Bool) → (a && b && c) ≡ (a && (b && c))
joined true b c = refl
joined false b c = refl

wrong_as : (store e : Entry) (k : Option ℕ) (i : Option ℕ) → ((a : ℕ) → reaches_shown a (shown_entry store).span ≡ covers a store) →
    wrong_by (shown_entry store).span k (option_map (λ cycle. record { area = area_in e; cycle = cycle }) i) ≡ (is_before i k && shares store e)
wrong_as store e (Some from) (Some cycle) h =
    ap (λ b. nat_lt cycle from && not (is_faulty e) && b) (any_same (λ b. reaches_shown b (shown_entry store).span) (λ a. covers a store) h (range (addr_of e.outcome) (byte_count e)))
    ∙ joined (nat_lt cycle from) (not (is_faulty e)) (list_any (λ a. covers a store) (range (addr_of e.outcome) (byte_count e)))
wrong_as store e (Some from) None h = refl
wrong_as store e None (Some cycle) h = refl
wrong_as store e None None h = refl

violates_as : (store e : Entry) → store.serial < e.serial → ((a : ℕ) → reaches_shown a (shown_entry store).span ≡ covers a store) →
    (is_load e.item.kind && wrong_shown (shown_entry store) (shown_clearing store) (shown_reader e)) ≡ violates_entry store e
violates_as store e lt h =
    let younger : nat_lt store.serial e.serial ≡ true = grind (arith, nat_tests) in
    ap₂ (λ a b. is_load e.item.kind && (a && b)) younger (wrong_as store e store.addr_due e.issued h)
    ∙ sym (joined (is_load e.item.kind) (is_before e.issued store.addr_due) (shares store e))

find_young : (p q : Entry → Bool) (n : ℕ) → ((x : Entry) → n < x.serial → p x ≡ q x) → (young : List Entry) → All (λ x. n < x.serial) young → find p young ≡ find q young
find_young p q n h [] a = refl
find_young p q n h (x ∷ young) a =
    ap₂ (λ b o. cond b (Some x) o) (h x (All-head (λ (x : Entry). n < x.serial) x young a)) (find_young p q n h young (All-tail (λ (x : Entry). n < x.serial) x young a))

first_if : (p : Entry → Bool) (c : Bool) (before : List Entry) (e : Entry) (es : List Entry) (o : Option Place) (r : Option Entry) → option_map (λ (e : Entry). e.serial) r ≡ option_map (λ (p : Place). p.entry.serial) o →
    option_map (λ (e : Entry). e.serial) (cond c (Some e) r) ≡ option_map (λ (p : Place). p.entry.serial) (if c then Some (record { before = before; entry = e; younger = es }) else o)
first_if p true before e es o r h = refl
first_if p false before e es o r h = h

find_first : (p : Entry → Bool) (before es : List Entry) → option_map (λ (e : Entry). e.serial) (find p es) ≡ option_map (λ (p : Place). p.entry.serial) (first_from (λ between e. p e) before es)
find_first p before [] = refl
find_first p before (e ∷ es) = first_if p (p e) before e es (first_from (λ between e. p e) (e ∷ before) es) (find p es) (find_first p (e ∷ before) es)

-- ---- the store

-- the queue's store of this serial shows what the window's does
pub record Own (q : Queues) (store : Entry) (s : Store) : Type 0 where
  pub found : store_of store.serial q.stores ≡ Some s
  pub shown : shown_store s ≡ shown_entry store
  pub clearing : shown_cleared s ≡ shown_clearing store

some_is : {X : Type 0} (x y : X) → Some x ≡ Some y → x ≡ y
some_is x y h = cc

-- what holds of it holds
pub by_own : (P : Option Store → Type 0) (q : Queues) (before younger : List Entry) (store : Entry) → StandFor q (before ++ store ∷ younger) → Tracks q (before ++ store ∷ younger) →
    Rise (before ++ store ∷ younger) → is_store store.item.kind ≡ true → ((s : Store) → Own q store s → P (Some s)) → P (store_of store.serial q.stores)
by_own P q before younger store s t r k then_so = by_found (store_of store.serial q.stores) refl
  where
    others : Others store.serial before
    others = others_older before store younger r

    shown : option_map shown_store (store_of store.serial q.stores) ≡ Some (shown_entry store)
    shown = own_found shown_store shown_entry stores_of (λ s. s.serial) (λ e. refl) q.stores before store younger s.stores k others

    clearing : option_map shown_cleared (store_of store.serial q.stores) ≡ Some (shown_clearing store)
    clearing = own_found shown_cleared shown_clearing stores_of (λ s. s.serial) (λ e. refl) q.stores before store younger t.stores k others

    by_found : (o : Option Store) → store_of store.serial q.stores ≡ o → P o
    by_found None h = let no = ap (option_map shown_store) (sym h) ∙ shown in absurd (cc)
    by_found (Some s) h = then_so s (record {
      found = h;
      shown = some_is (shown_store s) (shown_entry store) (ap (option_map shown_store) (sym h) ∙ shown);
      clearing = some_is (shown_cleared s) (shown_clearing store) (ap (option_map shown_cleared) (sym h) ∙ clearing);
    })

-- ---- the law

younger_all : (old : List Entry) (e : Entry) (young : List Entry) → Rise (old ++ e ∷ young) → All (λ x. e.serial < x.serial) young
younger_all [] e young r = rise_head e young r
younger_all (x ∷ old) e young r = younger_all old e young (rise_tail x (old ++ e ∷ young) r)

computed : (q : Queues) (before younger : List Entry) (store : Entry) → StandFor q (before ++ store ∷ younger) → is_store store.item.kind ≡ true → (shown_entry store).computed ≡ true
computed q before younger store s k =
    computed_in (stores_in before) (stores_in younger) (shown_entry store)
    (ap (λ ws. all_computed (stores_in before ++ (ws ++ stores_in younger))) (sym (store_alone store k)) ∙ ap all_computed (sym (stores_around before store younger))
    ∙ all_have q.stores (before ++ store ∷ younger) s.stores)

-- the queue's oldest load that a store violates is the one that the machine finds
pub violates : Violates
violates q before younger store s t r k =
    by_own (λ o. option_and_then (λ s. violated_serial s q.loads) o ≡ option_map (λ p. p.entry.serial) (first (λ between e. violates_entry store e) younger)) q before younger store s t r k
    (λ own_store o.
    let window = before ++ store ∷ younger in
    let reach = λ (a : ℕ). covers_shown a store k (computed q before younger store s k) in
    let test = λ (e : Entry). is_load e.item.kind && wrong_shown (shown_entry store) (shown_clearing store) (shown_reader e) in
    violated_shown own_store q.loads window t.loads
    ∙ ap₂ (λ a b. option_map (λ (e : Entry). e.serial) (find (λ e. is_load e.item.kind && wrong_shown a b (shown_reader e)) window)) o.shown o.clearing
    ∙ ap (option_map (λ (e : Entry). e.serial)) (find_past test before store younger (λ x h. not_younger store.serial (shown_entry store).span store.addr_due x h) r
    ∙ find_young test (violates_entry store) store.serial (λ x h. violates_as store x h reach) younger (younger_all before store younger r))
    ∙ find_first (violates_entry store) [] younger)
