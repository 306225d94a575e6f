-- The one load, and the one division, of a cycle: the entry that is granted the port is the oldest that asks for it.
use Rattle.std.proofs.Common.{◌≡◌, ℕ, ◌+◌, Bool, true, false, ◌&&◌, List, [], ◌∷◌, ◌++◌, take, slice_get, Option, Some, None, refl, ap, sym, ◌∙◌, arith}
use mathlib.Core.List.{reverse_aux}
use Rattle.std.specs.Prelude.{if◌then◌else◌, nat_lt, is_none}
use Rattle.std.specs.Option.{option_map}
use Rattle.std.proofs.lemmas.Bool.Decides.{nat_tests}
use Rattle.std.proofs.Math.Bool.{and-false, and-true}
use Rattle.std.proofs.lemmas.List.{take_more}
use Rattle.std.proofs.lemmas.Option.{get_or_from_slice_get, slice_get_within}
use Rattle.rv_types.specs.Value.{one_if}
use Rattle.machine_desc.specs.declared.Desc.{Desc}
use Rattle.window_model.specs.declared.Divider.{Divider}
use Rattle.window_model.specs.declared.Entry.{Entry}
use Rattle.window_model.specs.Around.{Around}
use Rattle.window_model.specs.Order.{Place, before_at, first, first_from}
use Rattle.window_model.specs.Ports.{Port, DivPort, asking, is_granted, may_at, ports}
use Rattle.window_model.specs.Issue.{taken_for}
use Rattle.issue.specs.Shared.{divider_left}

-- the first elements of a list, and the next one behind them
pub one_more : {X : Type 0} (xs : List X) (i : ℕ) (x : X) → slice_get xs i ≡ Some x → take (i + 1) xs ≡ take i xs ++ x ∷ []
one_more xs i x h = take_more xs i x (slice_get_within xs i x h) ∙ ap (λ x. take i xs ++ x ∷ []) (get_or_from_slice_get xs i x x h)

-- the first of two options, else the second
abbrev or_else : {A : Type 0} → Option A → Option A → Option A
or_else None b = b
or_else (Some a) b = Some a

-- the value of a function at an entry in its place, by the older ones
abbrev pub at : {A : Type 0} → (List Entry → Entry → A) → Place → A
at f place = f place.before place.entry

-- the value of a function at the oldest entry that has a property
abbrev pub of_first : {A : Type 0} → (List Entry → Entry → Bool) → (List Entry → Entry → A) → List Entry → Option A
of_first p f window = option_map (at f) (first p window)

first_push : {A : Type 0} (p : List Entry → Entry → Bool) (f : List Entry → Entry → A) (before es : List Entry) (e : Entry) →
    option_map (at f) (first_from p before (es ++ e ∷ []))
    ≡ or_else (option_map (at f) (first_from p before es)) (if p (reverse_aux es before) e then Some (f (reverse_aux es before) e) else None)
first_push p f before [] e = here (p before e)
  where
    here : (b : Bool) → option_map (at f) (if b then Some (record { before = before; entry = e; younger = [] }) else None) ≡ (if b then Some (f before e) else None)
    here true = refl
    here false = refl
first_push {A = A} p f before (x ∷ es) e = there (p before x) (first_push p f (x ∷ before) es e)
  where
    last : Option A
    last = if p (reverse_aux es (x ∷ before)) e then Some (f (reverse_aux es (x ∷ before)) e) else None

    there : (b : Bool) →
        option_map (at f) (first_from p (x ∷ before) (es ++ e ∷ [])) ≡ or_else (option_map (at f) (first_from p (x ∷ before) es)) last →
        option_map (at f) (if b then Some (record { before = before; entry = x; younger = es ++ e ∷ [] }) else first_from p (x ∷ before) (es ++ e ∷ []))
        ≡ or_else (option_map (at f) (if b then Some (record { before = before; entry = x; younger = es }) else first_from p (x ∷ before) es)) last
    there true h = refl
    there false h = h

first_more : {A : Type 0} (p : List Entry → Entry → Bool) (f : List Entry → Entry → A) (window : List Entry) (i : ℕ) (e : Entry) → slice_get window i ≡ Some e →
    of_first p f (take (i + 1) window) ≡ or_else (of_first p f (take i window)) (if p (before_at window i) e then Some (f (before_at window i) e) else None)
first_more p f window i e h = ap (of_first p f) (one_more window i e h) ∙ first_push p f [] (take i window) e

-- ---- nobody has asked for a port while there is no first that asks for it

none_more : (t : Bool) (p : Place) (o : Option Place) (a : ℕ) → (is_none (if t then Some p else o) && nat_lt a 1) ≡ (is_none o && nat_lt (one_if t + a) 1)
none_more true p o a = grind (arith, nat_tests, and-false)
none_more false p o a = grind (arith, nat_tests)

none_asks : (d : Desc) (now : Around) (port : Port) (before es : List Entry) →
    (is_none (first_from (may_at d now port) before es) && nat_lt (asking d now port before) 1) ≡ nat_lt (asking d now port (reverse_aux es before)) 1
none_asks d now port before [] = refl
none_asks d now port before (e ∷ es) = none_more (may_at d now port before e) _ _ (asking d now port before) ∙ none_asks d now port (e ∷ before) es

none_first : {A : Type 0} (f : List Entry → Entry → A) (o : Option Place) → is_none (option_map (at f) o) ≡ is_none o
none_first f None = refl
none_first f (Some p) = refl

unasked : {A : Type 0} (f : List Entry → Entry → A) (d : Desc) (now : Around) (port : Port) (window : List Entry) (i : ℕ) → is_none (of_first (may_at d now port) f (take i window)) ≡ nat_lt (asking d now port (before_at window i)) 1
unasked f d now port window i =
    let o = first (may_at d now port) (take i window) in
    none_first f o ∙ sym (and-true (is_none o)) ∙ none_asks d now port [] (take i window)

-- ---- one entry more behind those that were looked at

value_more : {A : Type 0} (t : Bool) (old : Option A) (v : A) → (if t && is_none old then Some v else old) ≡ or_else old (if t then Some v else None)
value_more true None v = refl
value_more true (Some a) v = refl
value_more false None v = refl
value_more false (Some a) v = refl

-- what is kept of the entry that is granted the one port is what the first that asks for it makes
pub slot_more : {A : Type 0} (f : List Entry → Entry → A) (d : Desc) (now : Around) (port : Port) (window : List Entry) (i : ℕ) (e : Entry) (old new : Option A) → slice_get window i ≡ Some e → ports d port ≡ 1 →
    new ≡ (if is_granted d now port (before_at window i) e then Some (f (before_at window i) e) else old) →
    old ≡ of_first (may_at d now port) f (take i window) → new ≡ of_first (may_at d now port) f (take (i + 1) window)
slot_more f d now port window i e old new h one n o =
    let before = before_at window i in
    let t = may_at d now port before e in
    let none : nat_lt (asking d now port before) 1 ≡ is_none old = sym (ap is_none o ∙ unasked f d now port window i) in
    let g : is_granted d now port before e ≡ (t && is_none old) = ap (λ n. t && nat_lt (asking d now port before) n) one ∙ ap (λ b. t && b) none in
    n ∙ ap (λ b. if b then Some (f before e) else old) g ∙ value_more t old (f before e) ∙ ap (λ o. or_else o (if t then Some (f before e) else None)) o ∙ sym (first_more (may_at d now port) f window i e h)

-- the divider that is kept, whether this division takes it or not, is what the first division leaves of it
left_by : (b : Bool) (v : Divider) (o : Option Divider) (start : Divider) → (if b then v else divider_left o start) ≡ divider_left (if b then Some v else o) start
left_by true v o start = refl
left_by false v o start = refl

pub divider_more : (d : Desc) (now : Around) (window : List Entry) (i : ℕ) (e : Entry) (start old new : Divider) → slice_get window i ≡ Some e →
    new ≡ (if is_granted d now DivPort (before_at window i) e then taken_for now (before_at window i) e else old) →
    old ≡ divider_left (of_first (may_at d now DivPort) (taken_for now) (take i window)) start → new ≡ divider_left (of_first (may_at d now DivPort) (taken_for now) (take (i + 1) window)) start
divider_more d now window i e start old new h n o =
    let b = is_granted d now DivPort (before_at window i) e in
    let v = taken_for now (before_at window i) e in
    let taken = of_first (may_at d now DivPort) (taken_for now) (take i window) in
    n ∙ ap (λ o. if b then v else o) o ∙ left_by b v taken start
    ∙ ap (λ o. divider_left o start) (slot_more (taken_for now) d now DivPort window i e taken (if b then Some v else taken) h refl refl refl)
