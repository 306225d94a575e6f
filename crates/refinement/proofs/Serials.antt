-- Serials that rise with age: the oldest, and the entries below one, as entries come, go on and leave.
use Rattle.std.proofs.Common.{List, Some, [], ap, arith, cond, length, refl, slice_get, subst, sym, take, true, ℕ, ◌++◌, ◌+◌, ◌<◌, ◌∙◌, ◌∷◌, ◌≡◌, ◌≤◌}
use Rattle.std.proofs.lemmas.List.Elements.{All-cons, All-head, All-nil, All-tail, All-weaker}
use Rattle.std.specs.List.{All, AllZip}
use Rattle.std.specs.Prelude.{nat_lt}
use Rattle.rob_ring.specs.Ring.{below}
use Rattle.window_model.proofs.Booleans.{is_below}
use Rattle.window_model.proofs.Serials.{all_at, place_of, rise_cons, rise_head, rise_tail, splits}
use Rattle.window_model.specs.Serials.{Rise}
use Rattle.window_model.specs.declared.Entry.{Entry}
use Rattle.refinement.proofs.Lists.{take_first}
use Rattle.refinement.specs.Stations.{GoesOn}
use Rattle.refinement.specs.Waiters.{oldest_of}

-- no entry in flight is older
pub oldest_least : (next : ℕ) (es : List Entry) → Rise es → All (λ e. oldest_of next es ≤ e.serial) es
oldest_least next [] r = All-nil (λ e. next ≤ e.serial)
oldest_least next (e ∷ es) r =
    All-cons (λ d. e.serial ≤ d.serial) e es (omega arith) (All-weaker (λ d. e.serial < d.serial) (λ d. e.serial ≤ d.serial) (λ d lt. omega arith) es (rise_head e es r))

-- no entry is older than the oldest, and the next one is younger
pub oldest_first : (next : ℕ) (es : List Entry) → All (λ e. e.serial < next) es → oldest_of next es ≤ next
oldest_first next [] a = omega arith
oldest_first next (e ∷ es) a = let lt = All-head (λ e. e.serial < next) e es a in omega (arith, lt)

-- the oldest serial, once an entry with the next one is there
pub oldest_push : (next : ℕ) (es : List Entry) (e : Entry) → e.serial ≡ next → oldest_of (next + 1) (es ++ e ∷ []) ≡ oldest_of next es
oldest_push next [] e h = h
oldest_push next (x ∷ es) e h = refl

-- without the oldest the next one is the oldest, and younger
pub oldest_above : (next : ℕ) (x : Entry) (es : List Entry) → Rise (x ∷ es) → x.serial < next → x.serial < oldest_of next es
oldest_above next x [] r lt = lt
oldest_above next x (e ∷ es) r lt = All-head (λ d. x.serial < d.serial) e es (rise_head x (e ∷ es) r)

-- the oldest stays where entries from a serial on are dropped, but not all
pub oldest_below : (next first : ℕ) (es : List Entry) (i : ℕ) (e : Entry) → Rise es → slice_get es i ≡ Some e → e.serial < first → oldest_of next (below first es) ≡ oldest_of next es
oldest_below next first [] i e r h lt = absurd (cc)
oldest_below next first (x ∷ es) i e r h lt =
    let le = all_at (λ d. x.serial ≤ d.serial) (x ∷ es) i e (oldest_least next (x ∷ es) r) h in
    let t : nat_lt x.serial first ≡ true = is_below x.serial first (omega (arith, le, lt)) in
    ap (λ b. oldest_of next (cond b (x ∷ below first es) (below first es))) t

-- the entries below an entry's serial are those before it
pub below_is : (es : List Entry) (i : ℕ) (e : Entry) → Rise es → slice_get es i ≡ Some e → below e.serial es ≡ take i es
below_is es i e r h =
    let t = splits e.serial es r in
    sym (take_first (below e.serial es) t.gone) ∙ ap (take (length (below e.serial es))) (sym t.whole) ∙ ap (λ n. take n es) (place_of es i e r h)

-- ---- entries go on

-- an entry that stays goes on
pub goes_same : (e : Entry) → GoesOn e e
goes_same e = record { serial = refl; item = refl }

-- a fact of serials that all have, as entries go on
pub all_on : (P : ℕ → Type 0) (es es2 : List Entry) → AllZip GoesOn es es2 → All (λ e. P e.serial) es → All (λ e. P e.serial) es2
all_on P [] [] v a = a
all_on P [] (e2 ∷ es2) v a = absurd v
all_on P (e ∷ es) [] v a = absurd v
all_on P (e ∷ es) (e2 ∷ es2) v a =
    All-cons (λ e. P e.serial) e2 es2 (subst P (sym v.0.serial) (All-head (λ e. P e.serial) e es a)) (all_on P es es2 v.1 (All-tail (λ e. P e.serial) e es a))

-- serials rise, as entries go on
pub rise_on : (es es2 : List Entry) → AllZip GoesOn es es2 → Rise es → Rise es2
rise_on [] [] v r = r
rise_on [] (e2 ∷ es2) v r = absurd v
rise_on (e ∷ es) [] v r = absurd v
rise_on (e ∷ es) (e2 ∷ es2) v r =
    rise_cons e2 es2 (subst (λ n. All (λ d. n < d.serial) es2) (sym v.0.serial) (all_on (λ m. e.serial < m) es es2 v.1 (rise_head e es r))) (rise_on es es2 v.1 (rise_tail e es r))

-- the oldest serial stays, as entries go on
pub oldest_on : (next : ℕ) (es es2 : List Entry) → AllZip GoesOn es es2 → oldest_of next es2 ≡ oldest_of next es
oldest_on next [] [] v = refl
oldest_on next [] (e2 ∷ es2) v = absurd v
oldest_on next (e ∷ es) [] v = absurd v
oldest_on next (e ∷ es) (e2 ∷ es2) v = v.0.serial
