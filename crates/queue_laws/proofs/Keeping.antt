-- The stores with some serials are those of the entries with them, and there are as many as the window has.
use Rattle.std.proofs.Common.{◌≡◌, ◌<◌, ◌≤◌, ℕ, Bool, true, false, cond, List, [], ◌∷◌, ◌++◌, refl, ap, sym, ◌∙◌, arith, append-nil, length}
use Rattle.std.specs.Prelude.{map, reverse, nat_lt}
use Rattle.std.specs.List.{filter}
use Rattle.std.proofs.lemmas.List.{map-append, reverse-append, length-map}
use Rattle.std.proofs.lemmas.List.Elements.{filter-append, All-head, All-tail}
use Rattle.std.proofs.lemmas.Bool.Decides.{nat_tests}
use Rattle.window_model.specs.declared.Entry.{Entry}
use Rattle.window_model.specs.Order.{is_load, is_store}
use Rattle.lsq.specs.declared.store.Store.{Store}
use Rattle.queue_laws.specs.Window.{NotOlder, Older, Shown, StoresStandFor, shown_entry, shown_store, stores_in}
use Rattle.queue_laws.specs.Laws.{HoldsOlder, RoomAsCounted}
use Rattle.lsq.specs.declared.load.Load.{Load as Queued}
use Rattle.std.proofs.lemmas.List.Sums.{length-filter}

-- ---- a filter by serials

keeps_one : (b : Bool) (s : Store) (f : List Store) (g : List Shown) → map shown_store f ≡ g → map shown_store (cond b (s ∷ f) f) ≡ cond b (shown_store s ∷ g) g
keeps_one true s f g h = ap (λ g. shown_store s ∷ g) h
keeps_one false s f g h = h

keeps_shown : (p : ℕ → Bool) (ss : List Store) → map shown_store (filter (λ s. p s.serial) ss) ≡ filter (λ (w : Shown). p w.serial) (map shown_store ss)
keeps_shown p [] = refl
keeps_shown p (s ∷ ss) = keeps_one (p s.serial) s _ _ (keeps_shown p ss)

keeps_store : (p : ℕ → Bool) (s k : Bool) (e : Entry) (f g : List Entry) → p e.serial ≡ k →
    filter (λ (w : Shown). p w.serial) (map shown_entry f) ≡ map shown_entry g →
    filter (λ (w : Shown). p w.serial) (map shown_entry (cond s (e ∷ f) f)) ≡ map shown_entry (cond k (cond s (e ∷ g) g) g)
keeps_store p true true e f g q r = ap (λ b. cond b (shown_entry e ∷ filter (λ (w : Shown). p w.serial) (map shown_entry f)) (filter (λ (w : Shown). p w.serial) (map shown_entry f))) q ∙ ap (λ ws. shown_entry e ∷ ws) r
keeps_store p true false e f g q r = ap (λ b. cond b (shown_entry e ∷ filter (λ (w : Shown). p w.serial) (map shown_entry f)) (filter (λ (w : Shown). p w.serial) (map shown_entry f))) q ∙ r
keeps_store p false true e f g q r = r
keeps_store p false false e f g q r = r

-- a test of those kept, where it is kept
tests_kept : (t : Entry → Bool) (k : Bool) (e : Entry) (f : List Entry) → filter t (cond k (e ∷ f) f) ≡ cond k (cond (t e) (e ∷ filter t f) (filter t f)) (filter t f)
tests_kept t true e f = refl
tests_kept t false e f = refl

keeps_entries : (p : ℕ → Bool) (ws : List Entry) → filter (λ (w : Shown). p w.serial) (stores_in ws) ≡ stores_in (filter (λ e. p e.serial) ws)
keeps_entries p [] = refl
keeps_entries p (e ∷ ws) =
    let t = λ (e : Entry). is_store e.item.kind in
    keeps_store p (t e) (p e.serial) e (filter t ws) (filter t (filter (λ e. p e.serial) ws)) refl (keeps_entries p ws)
    ∙ ap (map shown_entry) (sym (tests_kept t (p e.serial) e (filter (λ e. p e.serial) ws)))

-- the stores with some serials
pub stores_kept : (p : ℕ → Bool) (ss : List Store) (ws : List Entry) → StoresStandFor ss ws → StoresStandFor (filter (λ s. p s.serial) ss) (filter (λ e. p e.serial) ws)
stores_kept p ss ws h = keeps_shown p ss ∙ ap (filter (λ (w : Shown). p w.serial)) h ∙ keeps_entries p ws

-- ---- youngest first

-- a map of what is turned over
pub map_reverse : {X Y : Type 0} (f : X → Y) (xs : List X) → map f (reverse xs) ≡ reverse (map f xs)
map_reverse f [] = refl
map_reverse f (x ∷ xs) =
    ap (map f) (reverse-append (x ∷ []) xs) ∙ map-append f (reverse xs) (x ∷ []) ∙ ap (λ ys. ys ++ f x ∷ []) (map_reverse f xs) ∙ sym (reverse-append (f x ∷ []) (map f xs))

last_one : {X : Type 0} (b : Bool) (x : X) (f : List X) → reverse f ++ cond b (x ∷ []) [] ≡ reverse (cond b (x ∷ f) f)
last_one true x f = sym (reverse-append (x ∷ []) f)
last_one false x f = append-nil (reverse f)

filter_reverse : {X : Type 0} (p : X → Bool) (xs : List X) → filter p (reverse xs) ≡ reverse (filter p xs)
filter_reverse p [] = refl
filter_reverse p (x ∷ xs) =
    ap (filter p) (reverse-append (x ∷ []) xs) ∙ filter-append p (reverse xs) (x ∷ []) ∙ ap (λ ys. ys ++ cond (p x) (x ∷ []) []) (filter_reverse p xs) ∙ last_one (p x) x (filter p xs)

reversed : (ss : List Store) (ws : List Entry) → StoresStandFor ss ws → StoresStandFor (reverse ss) (reverse ws)
reversed ss ws h =
    map_reverse shown_store ss ∙ ap reverse h ∙ sym (map_reverse shown_entry (filter (λ e. is_store e.item.kind) ws))
    ∙ ap (map shown_entry) (sym (filter_reverse (λ e. is_store e.item.kind) ws))

-- ---- serials that cut a window in two

older_pass : (first : ℕ) (es : List Entry) → Older first es → filter (λ e. nat_lt e.serial first) es ≡ es
older_pass first [] h = refl
older_pass first (e ∷ es) h =
    let lt = All-head (λ (e : Entry). e.serial < first) e es h in
    let b : nat_lt e.serial first ≡ true = grind (arith, nat_tests) in
    ap (λ b. cond b (e ∷ filter (λ e. nat_lt e.serial first) es) (filter (λ e. nat_lt e.serial first) es)) b
    ∙ ap (λ es. e ∷ es) (older_pass first es (All-tail (λ (e : Entry). e.serial < first) e es h))

none_pass : (first : ℕ) (es : List Entry) → NotOlder first es → filter (λ e. nat_lt e.serial first) es ≡ []
none_pass first [] h = refl
none_pass first (e ∷ es) h =
    let le = All-head (λ (e : Entry). first ≤ e.serial) e es h in
    let b : nat_lt e.serial first ≡ false = grind (arith, nat_tests) in
    ap (λ b. cond b (e ∷ filter (λ e. nat_lt e.serial first) es) (filter (λ e. nat_lt e.serial first) es)) b
    ∙ none_pass first es (All-tail (λ (e : Entry). first ≤ e.serial) e es h)

-- the entries older than a serial
pub split_by : (first : ℕ) (old rest : List Entry) → Older first old → NotOlder first rest → filter (λ e. nat_lt e.serial first) (old ++ rest) ≡ old
split_by first old rest h k =
    filter-append (λ e. nat_lt e.serial first) old rest ∙ ap (λ es. es ++ filter (λ e. nat_lt e.serial first) rest) (older_pass first old h)
    ∙ ap (λ es. old ++ es) (none_pass first rest k) ∙ append-nil old

-- ---- the laws

-- the stores older than a serial are those that an entry with it looks back on
pub older_stands : HoldsOlder
older_stands q old rest serial s h k =
    reversed (filter (λ s. nat_lt s.serial serial) q.stores) old (stores_kept (λ n. nat_lt n serial) q.stores (old ++ rest) s.stores ∙ ap stores_in (split_by serial old rest h k))

-- as many as the window has
pub room_is : RoomAsCounted
room_is q window s =
    let loads = filter (λ (e : Entry). is_load e.item.kind) window in
    let stores = filter (λ (e : Entry). is_store e.item.kind) window in (
      sym (length-map q.loads (λ (l : Queued). l.serial)) ∙ ap length s.loads ∙ length-map loads (λ e. e.serial) ∙ length-filter (λ e. is_load e.item.kind) window,
      sym (length-map q.stores shown_store) ∙ ap length s.stores ∙ length-map stores shown_entry ∙ length-filter (λ e. is_store e.item.kind) window,
    )
