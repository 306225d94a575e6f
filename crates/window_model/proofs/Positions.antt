-- The walk by serial: where serials rise, the entries with a serial below another are the oldest ones.
use Rattle.std.proofs.Common.{◌≡◌, ℕ, zero, suc, ◌+◌, ◌-◌, ◌<◌, ◌≤◌, false, cond, List, [], ◌∷◌, ◌++◌, length, take, drop, get_or, Some, refl, ap, sym, ◌∙◌, subst, arith, slice_get, ⊎_elim}
use Rattle.std.specs.Prelude.{min, nat_lt}
use Rattle.std.specs.List.{All}
use Rattle.std.proofs.lemmas.Bool.{cases_lt}
use Rattle.std.proofs.lemmas.Bool.Decides.{nat_tests}
use Rattle.std.proofs.lemmas.List.{append-nil, get_or-take, length-take-le, take_all, take_more}
use Rattle.std.proofs.lemmas.List.Elements.{All-cons, All-head, All-weaker, filter-append}
use Rattle.std.proofs.lemmas.Option.{get_or_from_slice_get}
use Rattle.window_model.specs.declared.Entry.{Entry}
use Rattle.window_model.specs.Serials.{Rise, below}
use Rattle.window_model.proofs.Serials.{all_below, none_below, rise_head, rise_tail, splits}

-- in a window of rising serials, the entries up to one whose serial is below a number have serials below it
up_to : (serial : ℕ) (es : List Entry) (j : ℕ) (e : Entry) → Rise es → 0 < j → j ≤ length es → slice_get es (j - 1) ≡ Some e → e.serial < serial → All (λ e. e.serial < serial) (take j es)
up_to serial es j e rise some le h lt k d within =
    let n = length-take-le j es le in
    let here : get_or es (j - 1) d ≡ e = get_or_from_slice_get es (j - 1) e d h in
    let there : get_or (take j es) k d ≡ get_or es k d = get_or-take j es k d (omega arith) in
    let last : (get_or es (j - 1) d).serial < serial = rw here lt in
    let below_it : (get_or es k d).serial < serial =
    ⊎_elim
    (λ (kl : k < j - 1). let r = rise k (j - 1) d kl (omega arith) in omega (arith, r, last))
    (λ (kl : j - 1 ≤ k). let q : k ≡ j - 1 = omega arith in rw q last)
    (cases_lt k (j - 1)) in
    rw there below_it

-- ---- the walk from the youngest entry: none from place j on has a lower serial

pub below_start : (serial : ℕ) (es : List Entry) (n : ℕ) → n ≡ length es → below serial es ≡ below serial (take n es)
below_start serial es n q = ap (below serial) (sym (take_all n es (omega arith)))

pub below_on : (serial : ℕ) (es : List Entry) (j : ℕ) (e : Entry) → 0 < j → j ≤ length es → slice_get es (j - 1) ≡ Some e → serial ≤ e.serial →
    below serial es ≡ below serial (take j es) → below serial es ≡ below serial (take (j - 1) es)
below_on serial es j e some le h not_lower walked =
    let q : j ≡ j - 1 + 1 = omega arith in
    let here : get_or es (j - 1) e ≡ e = get_or_from_slice_get es (j - 1) e e h in
    let f : nat_lt e.serial serial ≡ false = grind (arith, nat_tests) in
    walked
    ∙ ap (λ n. below serial (take n es)) q
    ∙ ap (below serial) (take_more es (j - 1) e (omega arith))
    ∙ ap (λ x. below serial (take (j - 1) es ++ x ∷ [])) here
    ∙ filter-append (λ (e : Entry). nat_lt e.serial serial) (take (j - 1) es) (e ∷ [])
    ∙ ap (λ b. below serial (take (j - 1) es) ++ cond b (e ∷ []) []) f
    ∙ append-nil (below serial (take (j - 1) es))

pub older_at : (serial : ℕ) (es : List Entry) (j : ℕ) (e : Entry) → Rise es → 0 < j → j ≤ length es → slice_get es (j - 1) ≡ Some e → e.serial < serial →
    below serial es ≡ below serial (take j es) → take j es ≡ below serial es
older_at serial es j e rise some le h lt walked = sym (walked ∙ all_below serial (take j es) (up_to serial es j e rise some le h lt))

pub older_at_start : (serial : ℕ) (es : List Entry) (j : ℕ) → j ≡ 0 → below serial es ≡ below serial (take j es) → take j es ≡ below serial es
older_at_start serial es zero z walked = sym walked
older_at_start serial es (suc j) z walked = absurd (omega arith)

-- ---- halving: none behind an entry whose serial isn't lower has a lower one

pub below_to : (serial : ℕ) (es : List Entry) (j : ℕ) (e : Entry) → Rise es → slice_get es j ≡ Some e → serial ≤ e.serial → below serial es ≡ below serial (take j es)
below_to serial [] j e rise h le = absurd (cc)
below_to serial (x ∷ es) zero e rise h le =
    let is : x ≡ e = cc in
    let not_lower : serial ≤ x.serial = subst (λ (d : Entry). serial ≤ d.serial) (sym is) le in
    none_below serial (x ∷ es) (All-cons (λ d. serial ≤ d.serial) x es not_lower (All-weaker (λ d. x.serial < d.serial) (λ d. serial ≤ d.serial) (λ d lt. omega (arith, not_lower, lt)) es (rise_head x es rise)))
below_to serial (x ∷ es) (suc j) e rise h le = ap (λ older. cond (nat_lt x.serial serial) (x ∷ older) older) (below_to serial es j e (rise_tail x es rise) h le)

-- ---- where the walk begins

-- where serials rise, entries behind one whose serial is at least this have greater ones
next_lower : (lower : ℕ) (e : Entry) (es : List Entry) → Rise (e ∷ es) → lower ≤ e.serial → All (λ b. lower + 1 ≤ b.serial) es
next_lower lower e es r l = All-weaker (λ b. e.serial < b.serial) (λ b. lower + 1 ≤ b.serial) (λ b lt. omega (arith, l, lt)) es (rise_head e es r)

reaches : (serial lower n : ℕ) (es : List Entry) → Rise es → All (λ e. lower ≤ e.serial) es → serial ≤ lower + n → below serial es ≡ below serial (take n es)
reaches serial lower zero es r a l = none_below serial es (All-weaker (λ e. lower ≤ e.serial) (λ e. serial ≤ e.serial) (λ e le. omega (arith, l, le)) es a)
reaches serial lower (suc n) [] r a l = refl
reaches serial lower (suc n) (e ∷ es) r a l =
    let h : lower ≤ e.serial = All-head (λ e. lower ≤ e.serial) e es a in
    let m : serial ≤ lower + 1 + n = omega (arith, l) in
    ap (λ older. cond (nat_lt e.serial serial) (e ∷ older) older) (reaches serial (lower + 1) n es (rise_tail e es r) (next_lower lower e es r h) m)

from_head : (e : Entry) (es : List Entry) → Rise (e ∷ es) → All (λ b. e.serial ≤ b.serial) (e ∷ es)
from_head e es r zero d lt = omega arith
from_head e es r (suc k) d lt = let s = r 0 (suc k) d (omega arith) lt in omega (arith, s)

pub reach_is : (serial : ℕ) (es : List Entry) (head : Entry) (ahead n : ℕ) → Rise es → slice_get es 0 ≡ Some head → ahead ≡ serial - head.serial → n ≡ min ahead (length es) →
    below serial es ≡ below serial (take n es)
reach_is serial [] head ahead n r h a q = absurd (cc)
reach_is serial (e ∷ es) head ahead n r h a q =
    let same : e ≡ head = cc in
    let b : ahead ≡ serial - e.serial = a ∙ ap (λ (e : Entry). serial - e.serial) (sym same) in
    ⊎_elim
    (λ (lt : ahead < length (e ∷ es)). let m : serial ≤ e.serial + n = omega (arith, lt, b, q) in reaches serial e.serial n (e ∷ es) r (from_head e es r) m)
    (λ (le : length (e ∷ es) ≤ ahead). let m : n ≡ length (e ∷ es) = omega (arith, le, q) in below_start serial (e ∷ es) n m)
    (cases_lt ahead (length (e ∷ es)))

-- ---- where the walk ends

-- where the first n entries are those with a serial below this one, n is how many of these there are
pub count_of : (serial : ℕ) (es : List Entry) (n : ℕ) → n ≤ length es → take n es ≡ below serial es → n ≡ length (below serial es)
count_of serial es n le q = sym (length-take-le n es le) ∙ ap length q

-- where the first n entries are those with a serial below this one, each of the n has such a serial
pub below_of : (serial : ℕ) (es : List Entry) (n : ℕ) → Rise es → take n es ≡ below serial es → All (λ e. e.serial < serial) (take n es)
below_of serial es n r q = subst (All (λ e. e.serial < serial)) (sym q) (splits serial es r).older

drop_left : (xs ys : List Entry) → drop (length xs) (xs ++ ys) ≡ ys
drop_left [] ys = refl
drop_left (x ∷ xs) ys = drop_left xs ys

-- where the first n entries are those with a serial below this one, none of the others has such a serial
pub above_of : (serial : ℕ) (es : List Entry) (n : ℕ) → Rise es → n ≤ length es → take n es ≡ below serial es → All (λ e. serial ≤ e.serial) (drop n es)
above_of serial es n r le q =
    let s = splits serial es r in
    let left : drop n es ≡ s.gone = ap (λ k. drop k es) (count_of serial es n le q) ∙ ap (drop (length (below serial es))) s.whole ∙ drop_left (below serial es) s.gone in
    subst (All (λ e. serial ≤ e.serial)) (sym left) s.younger
