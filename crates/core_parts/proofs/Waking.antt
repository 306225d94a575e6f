-- Which loads a move of the visibility point lets give their values.
use Rattle.std.proofs.Common.{◌≡◌, ℕ, zero, suc, ◌+◌, ◌-◌, ◌^◌, ◌<◌, ◌≤◌, Bool, true, false, cond, not, ◌&&◌, List, [], ◌∷◌, ◌++◌, length, map, take, drop, Some, refl, ap, ap₂, sym, ◌∙◌, arith, slice_get}
use Rattle.std.specs.Prelude.{min, nat_le, if◌then◌else◌}
use Rattle.std.specs.List.{All, filter}
use Rattle.std.proofs.lemmas.Bool.Decides.{nat_tests}
use Rattle.std.proofs.lemmas.List.Elements.{All-cons, All-drop, All-head, All-tail, All-weaker, filter-append}
use Rattle.window_model.specs.declared.Entry.{Entry}
use Rattle.window_model.specs.Order.{is_done, is_load}
use Rattle.window_model.specs.Serials.{Rise, below}
use Rattle.window_model.proofs.Positions.{above_of, below_of}
use Rattle.window_model.proofs.Serials.{rise_head, rise_tail}
use Rattle.stations.specs.Stations.{Stations, struck}
use Rattle.refinement.specs.Waiters.{Hold, gives_at}
use Rattle.refinement.specs.Stations.{serials_let_go, struck_by_move, struck_each}
use Rattle.core_parts.specs.Given.{given_from, is_given}

-- ---- which entries are visible

abbrev pub Visible : ℕ → List Entry → Type 0
Visible p es = All (λ e. e.serial ≤ p) es

abbrev pub Hidden : ℕ → List Entry → Type 0
Hidden p es = All (λ e. p < e.serial) es

-- the oldest entries, as many as have a serial up to the point's
pub visible_before : (p h n : ℕ) (es : List Entry) → Rise es → h ≡ min (p + 1) (2 ^ 64 - 1) → take n es ≡ below h es → Visible p (take n es)
visible_before p h n es r q o = All-weaker (λ e. e.serial < h) (λ e. e.serial ≤ p) (λ e l. omega (arith, l, q)) (take n es) (below_of h es n r o)

-- the entries from the position on that the point tells are hidden: no entry has the last serial
pub hidden_behind : (p h n : ℕ) (es : List Entry) → Rise es → All (λ e. e.serial < 2 ^ 64 - 1) es → h ≡ min (p + 1) (2 ^ 64 - 1) → n ≤ length es → take n es ≡ below h es → Hidden p (drop n es)
hidden_behind p h n es r few q w o =
    let not_last = All-drop (λ e. e.serial < 2 ^ 64 - 1) n es few in
    let above = above_of h es n r w o in
    λ k d within. (let l = not_last k d within in let m = above k d within in omega (arith, l, m, q))

-- behind an entry that isn't visible no entry is
pub hidden_from : (p : ℕ) (es : List Entry) (i : ℕ) (e : Entry) → Rise es → slice_get es i ≡ Some e → nat_le e.serial p ≡ false → Hidden p (drop i es)
hidden_from p [] i e r h v = absurd (cc)
hidden_from p (x ∷ es) zero e r h v =
    let q : x ≡ e = cc in
    let n : x.serial ≡ e.serial = ap (λ (e : Entry). e.serial) q in
    let l : p < e.serial = grind (arith, nat_tests) in
    All-cons (λ e. p < e.serial) x es (omega (arith, n, l)) (All-weaker (λ d. x.serial < d.serial) (λ d. p < d.serial) (λ d k. omega (arith, k, n, l)) es (rise_head x es r))
hidden_from p (x ∷ es) (suc i) e r h v = hidden_from p es i e (rise_tail x es r) h v

drop_past : (i : ℕ) (es : List Entry) → length es ≤ i → drop i es ≡ []
drop_past zero [] l = refl
drop_past zero (e ∷ es) l = absurd (omega (arith, l))
drop_past (suc i) [] l = refl
drop_past (suc i) (e ∷ es) l = drop_past i es (omega (arith, l))

-- ---- The entries whose values are given

-- the point gives no value of an entry that it hides
given_hidden : (p : ℕ) (es : List Entry) → Hidden p es → filter (is_given p) es ≡ []
given_hidden p [] a = refl
given_hidden p (e ∷ es) a =
    let l = All-head (λ e. p < e.serial) e es a in
    let v : nat_le e.serial p ≡ false = grind (arith, nat_tests) in
    ap (λ b. cond b (e ∷ filter (is_given p) es) (filter (is_given p) es)) (ap (λ v. is_load e.item.kind && is_done e.state && v) v ∙ none (is_load e.item.kind) (is_done e.state))
    ∙ given_hidden p es (All-tail (λ e. p < e.serial) e es a)
  where
    none : (a b : Bool) → (a && b && false) ≡ false
    none true true = refl
    none true false = refl
    none false b = refl

pub none_left : (p i : ℕ) (es : List Entry) → Hidden p (drop i es) → given_from i p es ≡ []
none_left p i es a = ap (map (λ e. e.serial)) (given_hidden p (drop i es) a)

given_then : (p : ℕ) (es : List Entry) (i : ℕ) (e : Entry) (b : Bool) → slice_get es i ≡ Some e → is_given p e ≡ b → given_from i p es ≡ cond b (e.serial ∷ given_from (suc i) p es) (given_from (suc i) p es)
given_then p [] i e b h g = absurd (cc)
given_then p (x ∷ es) zero e b h g =
    let q : x ≡ e = cc in
    ap (λ (x : Entry). map (λ e. e.serial) (cond (is_given p x) (x ∷ filter (is_given p) es) (filter (is_given p) es))) q
    ∙ ap (λ b. map (λ e. e.serial) (cond b (e ∷ filter (is_given p) es) (filter (is_given p) es))) g ∙ shown b
  where
    shown : (b : Bool) → map (λ (e : Entry). e.serial) (cond b (e ∷ filter (is_given p) es) (filter (is_given p) es)) ≡ cond b (e.serial ∷ given_from 0 p es) (given_from 0 p es)
    shown true = refl
    shown false = refl
given_then p (x ∷ es) (suc i) e b h g = given_then p es i e b h g

-- the serials that are given from a position on: that of the entry there, if its value is given, and those behind it
given_next : (p : ℕ) (es : List Entry) (i : ℕ) (e : Entry) (b : Bool) → slice_get es i ≡ Some e → is_given p e ≡ b → given_from i p es ≡ cond b (e.serial ∷ given_from (i + 1) p es) (given_from (i + 1) p es)
given_next p es i e b h g =
    let n : suc i ≡ i + 1 = omega arith in
    given_then p es i e b h g ∙ ap (λ n. cond b (e.serial ∷ given_from n p es) (given_from n p es)) n

-- behind the youngest there is none
pub past_end : (p i : ℕ) (es : List Entry) → length es ≤ i → given_from i p es ≡ []
past_end p i es l = ap (λ fs. map (λ (e : Entry). e.serial) (filter (is_given p) fs)) (drop_past i es l)

-- ---- the stations once they are told

-- the stations once they know of the values that the entries from a position on give by the point's move
abbrev pub woken_from : ℕ → ℕ → List Entry → Stations → Stations
woken_from i p es s = record s { held = struck_each (given_from i p es) s.held }

pub none_woken : (i p : ℕ) (es : List Entry) (s : Stations) → given_from i p es ≡ [] → s ≡ woken_from i p es s
none_woken i p es s h = ap (λ serials. record s { held = struck_each serials s.held }) (sym h)

-- the stations are told of the entry at a position first, and then of those behind it
pub wakes_next : (i p : ℕ) (es : List Entry) (s t : Stations) (e : Entry) → slice_get es i ≡ Some e → nat_le e.serial p ≡ true →
    t ≡ record s { held = if is_load e.item.kind && is_done e.state then map (struck e.serial) s.held else s.held } → woken_from (i + 1) p es t ≡ woken_from i p es s
wakes_next i p es s t e h v q = ap (woken_from (i + 1) p es) q ∙ by_test (is_load e.item.kind && is_done e.state) refl
  where
    by_test : (b : Bool) → (is_load e.item.kind && is_done e.state) ≡ b → woken_from (i + 1) p es (record s { held = if b then map (struck e.serial) s.held else s.held }) ≡ woken_from i p es s
    by_test b g = by_both b (given_next p es i e b h (ap₂ (λ a v. a && v) g v ∙ last b))
      where
        last : (b : Bool) → (b && true) ≡ b
        last true = refl
        last false = refl

        by_both : (b : Bool) → given_from i p es ≡ cond b (e.serial ∷ given_from (i + 1) p es) (given_from (i + 1) p es) →
            woken_from (i + 1) p es (record s { held = if b then map (struck e.serial) s.held else s.held }) ≡ woken_from i p es s
        by_both true k = ap (λ serials. record s { held = struck_each serials s.held }) (sym k)
        by_both false k = ap (λ serials. record s { held = struck_each serials s.held }) (sym k)

-- ---- a move of the point

-- an entry that was visible gave its value as it does
gave : (h d : Bool) (n p p2 : ℕ) → n ≤ p → p ≤ p2 → (not (not (true && h && not (nat_le n p)) && d) && (not (true && h && not (nat_le n p2)) && d)) ≡ false
gave h d n p p2 l k =
    let a : nat_le n p ≡ true = grind (arith, nat_tests) in
    let b : nat_le n p2 ≡ true = grind (arith, nat_tests) in
    ap₂ (λ a b. not (not (true && h && not a) && d) && (not (true && h && not b) && d)) a b ∙ both h d
  where
    both : (h d : Bool) → (not (not (true && h && not true) && d) && (not (true && h && not true) && d)) ≡ false
    both true true = refl
    both true false = refl
    both false true = refl
    both false false = refl

-- an entry that wasn't visible gives its value by the move where it is a load that is Done and is now visible
gets : (h d : Bool) (n p p2 : ℕ) → p < n → (not (not (true && h && not (nat_le n p)) && d) && (not (true && h && not (nat_le n p2)) && d)) ≡ (h && d && nat_le n p2)
gets h d n p p2 l =
    let a : nat_le n p ≡ false = grind (arith, nat_tests) in
    ap (λ a. not (not (true && h && not a) && d) && (not (true && h && not (nat_le n p2)) && d)) a ∙ each h d (nat_le n p2)
  where
    each : (h d v : Bool) → (not (not (true && h && not false) && d) && (not (true && h && not v) && d)) ≡ (h && d && v)
    each true true true = refl
    each true true false = refl
    each true false true = refl
    each true false false = refl
    each false true v = refl
    each false false v = refl

-- by where the point is
abbrev pub at_point : ℕ → Hold
at_point p = record { holds = true; point = p }

abbrev newly : ℕ → ℕ → Entry → Bool
newly p p2 e = not (gives_at (at_point p) e) && gives_at (at_point p2) e

none_newly : (p p2 : ℕ) (es : List Entry) → p ≤ p2 → Visible p es → filter (newly p p2) es ≡ []
none_newly p p2 [] k a = refl
none_newly p p2 (e ∷ es) k a =
    ap (λ b. cond b (e ∷ filter (newly p p2) es) (filter (newly p p2) es)) (gave (is_load e.item.kind) (is_done e.state) e.serial p p2 (All-head (λ e. e.serial ≤ p) e es a) k)
    ∙ none_newly p p2 es k (All-tail (λ e. e.serial ≤ p) e es a)

each_newly : (p p2 : ℕ) (es : List Entry) → Hidden p es → filter (newly p p2) es ≡ filter (is_given p2) es
each_newly p p2 [] a = refl
each_newly p p2 (e ∷ es) a =
    ap₂ (λ b fs. cond b (e ∷ fs) fs) (gets (is_load e.item.kind) (is_done e.state) e.serial p p2 (All-head (λ e. p < e.serial) e es a)) (each_newly p p2 es (All-tail (λ e. p < e.serial) e es a))

halves : (n : ℕ) (es : List Entry) → take n es ++ drop n es ≡ es
halves zero es = refl
halves (suc n) [] = refl
halves (suc n) (e ∷ es) = ap (λ fs. e ∷ fs) (halves n es)

-- the point moves on: those that then give their values are those from the first that wasn't visible on
pub released_from : (p p2 i : ℕ) (es : List Entry) → p ≤ p2 → Visible p (take i es) → Hidden p (drop i es) → given_from i p2 es ≡ serials_let_go (at_point p) (at_point p2) es
released_from p p2 i es k a b =
    ap (map (λ e. e.serial))
    (sym (each_newly p p2 (drop i es) b)
    ∙ ap (λ fs. fs ++ filter (newly p p2) (drop i es)) (sym (none_newly p p2 (take i es) k a))
    ∙ sym (filter-append (newly p p2) (take i es) (drop i es))
    ∙ ap (filter (newly p p2)) (halves i es))

-- the stations that know of each value given from a position on are those that the definition of the point's move
-- leaves
pub woken_as : (p p2 i : ℕ) (es : List Entry) (s : Stations) → p ≤ p2 → Visible p (take i es) → Hidden p (drop i es) →
    woken_from i p2 es s ≡ record s { held = struck_by_move (at_point p) (at_point p2) es s.held }
woken_as p p2 i es s k a b = ap (λ serials. record s { held = struck_each serials s.held }) (released_from p p2 i es k a b)

-- ---- where nothing is held back

-- where no result is held back, a move of the point releases none
pub none_released : (p p2 : ℕ) (es : List Entry) → serials_let_go (record { holds = false; point = p }) (record { holds = false; point = p2 }) es ≡ []
none_released p p2 es = ap (map (λ e. e.serial)) (all_gave es)
  where
    both : (d : Bool) → (not d && d) ≡ false
    both true = refl
    both false = refl

    all_gave : (es : List Entry) → filter (λ e. not (gives_at (record { holds = false; point = p }) e) && gives_at (record { holds = false; point = p2 }) e) es ≡ []
    all_gave [] = refl
    all_gave (e ∷ es) = ap₂ (λ b fs. cond b (e ∷ fs) fs) (both (is_done e.state)) (all_gave es)
