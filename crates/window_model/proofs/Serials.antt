-- Serials that rise with age, and the entries that are looked back on.
use Rattle.std.proofs.Common.{◌≡◌, ℕ, zero, suc, ◌+◌, ◌<◌, ◌≤◌, Bool, true, false, cond, List, [], ◌∷◌, ◌++◌, length, map, take, get_or, Some, refl, ap, ◌∙◌, sym, subst, arith, slice_get}
use Rattle.std.specs.Prelude.{nat_lt}
use Rattle.std.specs.List.{All}
use Rattle.std.proofs.lemmas.Bool.Decides.{nat_tests}
use Rattle.std.proofs.lemmas.List.{get_or-map, length-map, map-append}
use Rattle.std.proofs.lemmas.List.Elements.{All-nil, All-cons, All-head, All-tail, All-weaker, All-push}
use mathlib.Core.List.{reverse_aux}
use Rattle.window_model.specs.declared.Entry.{Entry}
use Rattle.window_model.specs.Along.{Along, Behind, Fact}
use Rattle.window_model.specs.Serials.{Rise, below}

-- ---- what holds of all of a list

-- what holds of all of a list holds of all its first elements
pub all_left : {X : Type 0} (P : X → Type 0) (xs ys : List X) → All P (xs ++ ys) → All P xs
all_left P [] ys a = All-nil P
all_left P (x ∷ xs) ys a = All-cons P x xs (All-head P x (xs ++ ys) a) (all_left P xs ys (All-tail P x (xs ++ ys) a))

-- what holds of all of a list holds of all its last elements
pub all_right : {X : Type 0} (P : X → Type 0) (xs ys : List X) → All P (xs ++ ys) → All P ys
all_right P [] ys a = a
all_right P (x ∷ xs) ys a = all_right P xs ys (All-tail P x (xs ++ ys) a)

-- what holds of all of a list holds of the element at a position
pub all_at : {X : Type 0} (P : X → Type 0) (xs : List X) (i : ℕ) (x : X) → All P xs → slice_get xs i ≡ Some x → P x
all_at P [] i x a h = absurd (cc)
all_at P (y ∷ ys) zero x a h = let e : y ≡ x = cc in subst P e (All-head P y ys a)
all_at P (y ∷ ys) (suc i) x a h = all_at P ys i x (All-tail P y ys a) h

-- what holds of all of a list holds of one between the others
pub all_seam : {X : Type 0} (P : X → Type 0) (xs : List X) (x : X) (ys : List X) → All P (xs ++ x ∷ ys) → P x
all_seam P xs x ys a = All-head P x ys (all_right P xs (x ∷ ys) a)

-- what holds of each along a list holds of each, looked back on from behind the list
pub behind : (P : Fact) (before es : List Entry) → Behind P before → Along P before es → Behind P (reverse_aux es before)
behind P before [] u k = u
behind P before (e ∷ es) u k = behind P (e ∷ before) es (k.0, u) k.1

-- what holds of each along a list holds of each before a position
pub behind_at : (P : Fact) (before es : List Entry) (i : ℕ) → Behind P before → Along P before es → Behind P (reverse_aux (take i es) before)
behind_at P before es zero u k = u
behind_at P before [] (suc i) u k = u
behind_at P before (e ∷ es) (suc i) u k = behind_at P (e ∷ before) es i (k.0, u) k.1

-- ---- serials that rise with age

-- serials rise in the empty window
pub rise_nil : Rise []
rise_nil i j d lt within = absurd (omega arith)

-- the oldest entry's serial is below the others'
pub rise_head : (e : Entry) (es : List Entry) → Rise (e ∷ es) → All (λ d. e.serial < d.serial) es
rise_head e es r k d within = r 0 (suc k) d (omega arith) (omega arith)

-- serials still rise without the oldest entry
pub rise_tail : (e : Entry) (es : List Entry) → Rise (e ∷ es) → Rise es
rise_tail e es r i j d lt within = r (suc i) (suc j) d (omega arith) (omega arith)

-- serials still rise with an older entry in front, whose serial is below the others
pub rise_cons : (e : Entry) (es : List Entry) → All (λ d. e.serial < d.serial) es → Rise es → Rise (e ∷ es)
rise_cons e es a r zero zero d lt within = absurd (omega arith)
rise_cons e es a r zero (suc j) d lt within = a j d (omega arith)
rise_cons e es a r (suc i) zero d lt within = absurd (omega arith)
rise_cons e es a r (suc i) (suc j) d lt within = r i j d (omega arith) (omega arith)

-- serials still rise with a younger entry at the end, whose serial is above the others
pub rise_push : (es : List Entry) (e : Entry) → Rise es → All (λ b. b.serial < e.serial) es → Rise (es ++ e ∷ [])
rise_push [] e r a = rise_cons e [] (All-nil (λ d. e.serial < d.serial)) rise_nil
rise_push (x ∷ es) e r a =
    rise_cons x (es ++ e ∷ []) (All-push (λ d. x.serial < d.serial) es e (rise_head x es r) (All-head (λ b. b.serial < e.serial) x es a))
    (rise_push es e (rise_tail x es r) (All-tail (λ b. b.serial < e.serial) x es a))

-- serials rise among the oldest entries of a window in which they rise
pub rise_left : (older gone : List Entry) → Rise (older ++ gone) → Rise older
rise_left [] gone r = rise_nil
rise_left (e ∷ older) gone r =
    rise_cons e older (all_left (λ d. e.serial < d.serial) older gone (rise_head e (older ++ gone) r)) (rise_left older gone (rise_tail e (older ++ gone) r))

-- the serials of a list of entries, in order
abbrev serials : List Entry → List ℕ
serials es = map (λ (e : Entry). e.serial) es

-- an entry's serial where the serials of two windows are the same
serial_at : (es es2 : List Entry) (i : ℕ) (d : Entry) → serials es ≡ serials es2 → i < length es → i < length es2 → (get_or es i d).serial ≡ (get_or es2 i d).serial
serial_at es es2 i d h in1 in2 =
    sym (get_or-map (λ (e : Entry). e.serial) es i d 0 in1) ∙ ap (λ ns. get_or ns i 0) h ∙ get_or-map (λ (e : Entry). e.serial) es2 i d 0 in2

-- serials rise in a window that has the serials of one in which they rise
rise_same : (es es2 : List Entry) → serials es ≡ serials es2 → Rise es → Rise es2
rise_same es es2 h r i j d lt within =
    let n1 = length-map es (λ (e : Entry). e.serial) in
    let n2 = length-map es2 (λ (e : Entry). e.serial) in
    let n = ap length h in
    let jn : j < length es = omega (arith, n1, n2, n) in
    let a = serial_at es es2 i d h (omega (arith, lt, jn)) (omega (arith, lt)) in
    let b = serial_at es es2 j d h jn within in
    let rises = r i j d lt jn in
    omega (arith, a, b, rises)

-- serials still rise with another entry of the same serial in an entry's place
pub rise_with : (older younger : List Entry) (e e2 : Entry) → e2.serial ≡ e.serial → Rise (older ++ e ∷ younger) → Rise (older ++ e2 ∷ younger)
rise_with older younger e e2 q r =
    let f : Entry → ℕ = λ e. e.serial in
    let same = map-append f older (e ∷ younger) ∙ ap (λ n. serials older ++ n ∷ serials younger) (sym q) ∙ sym (map-append f older (e2 ∷ younger)) in
    rise_same (older ++ e ∷ younger) (older ++ e2 ∷ younger) same r

-- ---- the entries that are looked back on have smaller serials

-- the entries that an entry looks back on have smaller serials
abbrev pub Falls : Fact
Falls before e = All (λ b. b.serial < e.serial) before

falls_from : (before es : List Entry) → All (λ b. All (λ e. b.serial < e.serial) es) before → Rise es → Along Falls before es
falls_from before [] a r = tt
falls_from before (e ∷ es) a r = (
  All-weaker (λ b. All (λ d. b.serial < d.serial) (e ∷ es)) (λ b. b.serial < e.serial) (λ b h. All-head (λ d. b.serial < d.serial) e es h) before a,
  falls_from (e ∷ before) es
      (All-cons (λ b. All (λ d. b.serial < d.serial) es) e before (rise_head e es r)
      (All-weaker (λ b. All (λ d. b.serial < d.serial) (e ∷ es)) (λ b. All (λ d. b.serial < d.serial) es) (λ b h. All-tail (λ d. b.serial < d.serial) e es h) before a))
      (rise_tail e es r),
)

-- where serials rise, each entry looks back on smaller ones
pub falls : (es : List Entry) → Rise es → Along Falls [] es
falls es r = falls_from [] es (All-nil (λ b. All (λ e. b.serial < e.serial) es)) r

-- ---- the entries below a serial

-- where each entry has a serial below this one, those below it are the whole list
pub all_below : (serial : ℕ) (es : List Entry) → All (λ e. e.serial < serial) es → below serial es ≡ es
all_below serial [] a = refl
all_below serial (e ∷ es) a =
    let lt : e.serial < serial = All-head (λ e. e.serial < serial) e es a in
    let t : nat_lt e.serial serial ≡ true = grind (arith, nat_tests) in
    ap (λ b. cond b (e ∷ below serial es) (below serial es)) t ∙ ap (λ es. e ∷ es) (all_below serial es (All-tail (λ e. e.serial < serial) e es a))

-- where no entry has a serial below this one, those below it are none
pub none_below : (serial : ℕ) (es : List Entry) → All (λ e. serial ≤ e.serial) es → below serial es ≡ []
none_below serial [] a = refl
none_below serial (e ∷ es) a =
    let le : serial ≤ e.serial = All-head (λ e. serial ≤ e.serial) e es a in
    let f : nat_lt e.serial serial ≡ false = grind (arith, nat_tests) in
    ap (λ b. cond b (e ∷ below serial es) (below serial es)) f ∙ none_below serial es (All-tail (λ e. serial ≤ e.serial) e es a)

-- the entries below a serial are the oldest of the list, and each of the others has that serial or a later one
pub record Splits (serial : ℕ) (es : List Entry) : Type 0 where
  pub gone : List Entry
  pub whole : es ≡ below serial es ++ gone
  pub older : All (λ e. e.serial < serial) (below serial es)
  pub younger : All (λ e. serial ≤ e.serial) gone

-- where serials rise, those below any serial are the oldest entries, and all others come behind them
pub splits : (serial : ℕ) (es : List Entry) → Rise es → Splits serial es
splits serial [] r = record { gone = []; whole = refl; older = All-nil (λ e. e.serial < serial); younger = All-nil (λ e. serial ≤ e.serial) }
splits serial (e ∷ es) r = by_test (nat_lt e.serial serial) refl (splits serial es (rise_tail e es r))
  where
    by_test : (b : Bool) → nat_lt e.serial serial ≡ b → Splits serial es → Splits serial (e ∷ es)
    by_test true t s =
        let is : below serial (e ∷ es) ≡ e ∷ below serial es = ap (λ b. cond b (e ∷ below serial es) (below serial es)) t in
        let lt : e.serial < serial = grind (arith, nat_tests) in
        record {
          gone = s.gone;
          whole = ap (λ ds. e ∷ ds) s.whole ∙ ap (λ ds. ds ++ s.gone) (sym is);
          older = subst (All (λ d. d.serial < serial)) (sym is) (All-cons (λ d. d.serial < serial) e (below serial es) lt s.older);
          younger = s.younger;
        }
    by_test false t s =
        let le : serial ≤ e.serial = grind (arith, nat_tests) in
        let young = All-weaker (λ d. e.serial < d.serial) (λ d. serial ≤ d.serial) (λ d lt. omega (arith, le, lt)) es (rise_head e es r) in
        let is : below serial (e ∷ es) ≡ [] = ap (λ b. cond b (e ∷ below serial es) (below serial es)) t ∙ none_below serial es young in
        record {
          gone = e ∷ es;
          whole = ap (λ ds. ds ++ e ∷ es) (sym is);
          older = subst (All (λ d. d.serial < serial)) (sym is) (All-nil (λ d. d.serial < serial));
          younger = All-cons (λ d. serial ≤ d.serial) e es le young;
        }

-- an entry stands at the position that counts the entries with serials below its own
pub place_of : (es : List Entry) (i : ℕ) (e : Entry) → Rise es → slice_get es i ≡ Some e → length (below e.serial es) ≡ i
place_of [] i e r h = absurd (cc)
place_of (x ∷ es) zero e r h =
    let is : x ≡ e = cc in
    let n : x.serial ≡ e.serial = ap (λ (e : Entry). e.serial) is in
    let f : nat_lt x.serial e.serial ≡ false = grind (arith, nat_tests) in
    let young = All-weaker (λ d. x.serial < d.serial) (λ d. e.serial ≤ d.serial) (λ d lt. omega (arith, n, lt)) es (rise_head x es r) in
    ap (λ b. length (cond b (x ∷ below e.serial es) (below e.serial es))) f ∙ ap (λ ds. length ds) (none_below e.serial es young)
place_of (x ∷ es) (suc i) e r h =
    let lt : x.serial < e.serial = all_at (λ d. x.serial < d.serial) es i e (rise_head x es r) h in
    let t : nat_lt x.serial e.serial ≡ true = grind (arith, nat_tests) in
    let k = place_of es i e (rise_tail x es r) h in
    let n = ap (λ b. length (cond b (x ∷ below e.serial es) (below e.serial es))) t in
    omega (arith, k, n)

-- the entries below the serial after an entry's are those up to it
pub below_next : (older : List Entry) (e : Entry) (younger : List Entry) → Rise (older ++ e ∷ younger) → below (e.serial + 1) (older ++ e ∷ younger) ≡ older ++ e ∷ []
below_next [] e younger rise =
    let t : nat_lt e.serial (e.serial + 1) ≡ true = grind (arith, nat_tests) in
    let above : All (λ d. e.serial + 1 ≤ d.serial) younger = λ k d within. (let lt = rise_head e younger rise k d within in omega (arith, lt)) in
    ap (λ b. cond b (e ∷ below (e.serial + 1) younger) (below (e.serial + 1) younger)) t ∙ ap (λ es. e ∷ es) (none_below (e.serial + 1) younger above)
below_next (x ∷ older) e younger rise =
    let lt : x.serial < e.serial = all_seam (λ d. x.serial < d.serial) older e younger (rise_head x (older ++ e ∷ younger) rise) in
    let t : nat_lt x.serial (e.serial + 1) ≡ true = grind (arith, nat_tests) in
    ap (λ b. cond b (x ∷ below (e.serial + 1) (older ++ e ∷ younger)) (below (e.serial + 1) (older ++ e ∷ younger))) t
    ∙ ap (λ es. x ∷ es) (below_next older e younger (rise_tail x (older ++ e ∷ younger) rise))
