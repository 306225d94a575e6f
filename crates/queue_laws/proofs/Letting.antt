-- What a queue says that a load waits for is what keeps the window's load from going.
use Rattle.std.proofs.Common.{◌≡◌, ℕ, ◌≤◌, Bool, true, false, cond, not, ◌&&◌, ◌||◌, List, [], ◌∷◌, Option, Some, None, refl, ap, ap₂, sym, ◌∙◌}
use Rattle.std.specs.Prelude.{map, is_some, if◌then◌else◌}
use Rattle.std.specs.List.{filter, list_all, list_any}
use Rattle.std.specs.Option.{option_map}
use Rattle.machine_desc.specs.declared.SttModel.{SttModel}
use Rattle.window_model.specs.declared.Entry.{Entry}
use Rattle.window_model.specs.Order.{has_address, has_data, is_store}
use Rattle.window_model.specs.Taint.{address_tainted}
use Rattle.window_model.specs.Access.{covers}
use Rattle.window_model.specs.MayIssue.{lets, stores_let}
use Rattle.lsq.specs.declared.store.Span.{Span}
use Rattle.lsq.specs.declared.store.Store.{Store}
use Rattle.lsq.specs.Queues.{is_known, youngest_root}
use Rattle.lsq.specs.Pending.{bytes_asked, lacks_address, lacks_data_for, reaches_span}
use Rattle.queue_laws.specs.Window.{Shown, all_complete, area_in, area_of, hides, shown_entry, shown_store, stores_in, tainted_stores}
use Rattle.queue_laws.specs.Laws.{KnownAsComplete, LetsAsAsked}
use Rattle.queue_laws.proofs.Roots.{hides_youngest}
use Rattle.queue_laws.proofs.Shown.{all_computed, all_have, computed_one, covers_shown, reaches_shown}

-- ---- by what both show

-- a store with this taint lets a load of these bytes go, which passes stores of unknown address or not
abbrev lets_shown : Bool → List ℕ → Bool → Shown → Bool
lets_shown passes bytes tainted s =
    (is_some s.span || passes) && (is_some s.stored || not tainted && not (list_any (λ a. reaches_shown a s.span) bytes))

-- each of these stores lets the load go
abbrev all_let : Bool → List ℕ → List Bool → List Shown → Bool
all_let passes bytes (t ∷ ts) (s ∷ ss) = lets_shown passes bytes t s && all_let passes bytes ts ss
all_let passes bytes _ _ = true

any_same : (p q : ℕ → Bool) → ((a : ℕ) → p a ≡ q a) → (bytes : List ℕ) → list_any p bytes ≡ list_any q bytes
any_same p q h [] = refl
any_same p q h (a ∷ bytes) = ap₂ (λ x y. x || y) (h a) (any_same p q h bytes)

-- ---- of the queue

abbrev any : List Bool → Bool
any bs = list_any (λ b. b) bs

-- none of these is there, the first unless it is passed
abbrev none_of : Bool → Bool → Bool → Bool → Bool
none_of f a b c = (f || not a) && not b && not c

last_false : (a b : Bool) → false ≡ (a && not b && false)
last_false false b = refl
last_false true true = refl
last_false true false = refl

-- one store more, which has an address, has data, has a tainted address, and is met by the load
one_more : (f p d t r a b c : Bool) → ((p || f) && (d || not t && not r) && none_of f a b c) ≡ none_of f (not p || a) (not d && r || b) (not d && t || c)
one_more true true true t r a b c = refl
one_more true false true t r a b c = refl
one_more true true false true true a b c = refl
one_more true false false true true a b c = refl
one_more true true false true false a b c = last_false true b
one_more true false false true false a b c = last_false true b
one_more true true false false true a b c = refl
one_more true false false false true a b c = refl
one_more true true false false false a b c = refl
one_more true false false false false a b c = refl
one_more false false d t r a b c = refl
one_more false true true t r a b c = refl
one_more false true false true r a b c = last_false (not a) (r || b)
one_more false true false false true true b c = refl
one_more false true false false true false b c = refl
one_more false true false false false a b c = refl

any_if : (b h : Bool) (v : ℕ → Bool) (s : Store) (ss : List Store) → hides v s.root ≡ h →
    any (map (λ (s : Store). hides v s.root) (cond b (s ∷ ss) ss)) ≡ (b && h || any (map (λ (s : Store). hides v s.root) ss))
any_if true h v s ss e = ap (λ h. h || any (map (λ (s : Store). hides v s.root) ss)) e
any_if false h v s ss e = refl

some_span : (k : Option Span) → is_some k ≡ is_some (option_map area_of k)
some_span None = refl
some_span (Some k) = refl

span_shown : (a : ℕ) (k : Option Span) → reaches_span a k ≡ reaches_shown a (option_map area_of k)
span_shown a None = refl
span_shown a (Some k) = refl

-- none of these stores keeps it
abbrev goes : Bool → List ℕ → (ℕ → Bool) → List Store → Bool
goes passes bytes v ss =
    none_of passes (list_any lacks_address ss) (list_any (lacks_data_for bytes) ss) (any (map (λ (s : Store). hides v s.root) (filter (λ s. not (is_some s.stored)) ss)))

queue_lets : (passes : Bool) (bytes : List ℕ) (v : ℕ → Bool) (ss : List Store) → all_let passes bytes (map (λ s. hides v s.root) ss) (map shown_store ss) ≡ goes passes bytes v ss
queue_lets passes bytes v [] = sym (either passes)
  where
    either : (f : Bool) → ((f || true) && true && true) ≡ true
    either true = refl
    either false = refl
queue_lets passes bytes v (s ∷ ss) =
    let rest = filter (λ (s : Store). not (is_some s.stored)) ss in
    let r = list_any (λ a. reaches_span a s.span) bytes in
    ap₂ (λ p r. (p || passes) && (is_some s.stored || not (hides v s.root) && not r) && all_let passes bytes (map (λ (s : Store). hides v s.root) ss) (map shown_store ss)) (sym (some_span s.span))
    (any_same (λ a. reaches_shown a (option_map area_of s.span)) (λ a. reaches_span a s.span) (λ a. sym (span_shown a s.span)) bytes)
    ∙ ap (λ g. (is_some s.span || passes) && (is_some s.stored || not (hides v s.root) && not r) && g) (queue_lets passes bytes v ss)
    ∙ one_more passes (is_some s.span) (is_some s.stored) (hides v s.root) r (list_any lacks_address ss) (list_any (lacks_data_for bytes) ss) (any (map (λ (s : Store). hides v s.root) rest))
    ∙ ap (λ c. none_of passes (lacks_address s || list_any lacks_address ss) (lacks_data_for bytes s || list_any (lacks_data_for bytes) ss) c)
    (sym (any_if (not (is_some s.stored)) (hides v s.root) v s rest refl))

-- ---- of the entries

some_if : {X : Type 0} (b : Bool) (x : X) → is_some (if b then Some x else None) ≡ b
some_if true x = refl
some_if false x = refl

entry_lets : (model : SttModel) (passes : Bool) (bytes : List ℕ) (before : List Entry) (e : Entry) → is_store e.item.kind ≡ true → (shown_entry e).computed ≡ true →
    lets_shown passes bytes (address_tainted model before e) (shown_entry e) ≡ lets model passes bytes before e
entry_lets model passes bytes before e s u =
    let t = address_tainted model before e in
    let r = list_any (λ a. reaches_shown a (shown_entry e).span) bytes in
    ap₂ (λ p d. (p || passes) && (d || not t && not r)) (some_if (has_address e) (area_in e)) (some_if (has_data e) _)
    ∙ ap (λ r. (has_address e || passes) && (has_data e || not t && not r)) (any_same (λ a. reaches_shown a (shown_entry e).span) (λ a. covers a e) (λ a. covers_shown a e s u) bytes)

let_one : (passes : Bool) (bytes : List ℕ) (b t l r : Bool) (ts : List Bool) (e : Entry) (f : List Entry) → (b ≡ true → lets_shown passes bytes t (shown_entry e) ≡ l) →
    all_let passes bytes ts (map shown_entry f) ≡ r →
    all_let passes bytes (if b then t ∷ ts else ts) (map shown_entry (cond b (e ∷ f) f)) ≡ ((not b || l) && r)
let_one passes bytes true t l r ts e f k h = ap₂ (λ l r. l && r) (k refl) h
let_one passes bytes false t l r ts e f k h = h

window_lets : (model : SttModel) (passes : Bool) (bytes : List ℕ) (before : List Entry) → all_computed (stores_in before) ≡ true →
    all_let passes bytes (tainted_stores model before) (stores_in before) ≡ stores_let model passes bytes before
window_lets model passes bytes [] u = refl
window_lets model passes bytes (e ∷ before) u =
    let f = filter (λ (e : Entry). is_store e.item.kind) before in
    let us = computed_one (is_store e.item.kind) e f u in
    let_one passes bytes (is_store e.item.kind) (address_tainted model before e) (lets model passes bytes before e) (stores_let model passes bytes before) (tainted_stores model before) e f
    (λ s. entry_lets model passes bytes before e s (us.0 s)) (window_lets model passes bytes before us.1)

-- ---- All older stores are known

both_known : (ss : List Store) → list_all is_known ss ≡ list_all (λ (s : Shown). is_some s.span && is_some s.stored) (map shown_store ss)
both_known [] = refl
both_known (s ∷ ss) = ap₂ (λ k r. (k && is_some s.stored) && r) (some_span s.span) (both_known ss)

one_complete : (b r : Bool) (e : Entry) (f : List Entry) → list_all (λ (s : Shown). is_some s.span && is_some s.stored) (map shown_entry f) ≡ r →
    list_all (λ (s : Shown). is_some s.span && is_some s.stored) (map shown_entry (cond b (e ∷ f) f)) ≡ ((not b || has_address e && has_data e) && r)
one_complete true r e f h = ap₂ (λ k r. k && r) (ap₂ (λ a d. a && d) (some_if (has_address e) (area_in e)) (some_if (has_data e) _)) h
one_complete false r e f h = h

window_complete : (before : List Entry) → list_all (λ (s : Shown). is_some s.span && is_some s.stored) (stores_in before) ≡ all_complete before
window_complete [] = refl
window_complete (e ∷ before) = one_complete (is_store e.item.kind) (all_complete before) e (filter (λ (e : Entry). is_store e.item.kind) before) (window_complete before)

-- older stores are all known where both parts of each have issued
pub known_is : KnownAsComplete
known_is ss before h = both_known ss ∙ ap (list_all (λ (s : Shown). is_some s.span && is_some s.stored)) h ∙ window_complete before

-- ---- the law

of_bytes : (model : SttModel) (passes : Bool) (v : ℕ → Bool) → ((a b : ℕ) → a ≤ b → v b ≡ true → v a ≡ true) → (ss : List Store) (before : List Entry) (bytes : List ℕ) →
    map shown_store ss ≡ stores_in before → map (λ s. hides v s.root) ss ≡ tainted_stores model before →
    stores_let model passes bytes before ≡ none_of passes (list_any lacks_address ss) (list_any (lacks_data_for bytes) ss) (hides v (youngest_root (filter (λ s. not (is_some s.stored)) ss)))
of_bytes model passes v down ss before bytes h t =
    sym (window_lets model passes bytes before (all_have ss before h)) ∙ ap₂ (all_let passes bytes) (sym t) (sym h) ∙ queue_lets passes bytes v ss
    ∙ ap (none_of passes (list_any lacks_address ss) (list_any (lacks_data_for bytes) ss)) (sym (hides_youngest v down (filter (λ s. not (is_some s.stored)) ss)))

-- the queue lets a load go exactly where the machine does
pub lets_are : LetsAsAsked
lets_are model passes v down ss before fault a n h t = of_bytes model passes v down ss before (bytes_asked fault a n) h t
