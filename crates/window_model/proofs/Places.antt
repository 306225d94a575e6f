-- Where the oldest entry with a property stands.
use Rattle.std.proofs.Common.{◌≡◌, Bool, true, false, List, [], ◌∷◌, ◌++◌, Option, Some, None, refl, ap, ◌∙◌, subst}
use Rattle.std.specs.Prelude.{if◌then◌else◌, reverse}
use mathlib.Core.List.{reverse_aux}
use Rattle.std.proofs.lemmas.List.{reverse-reverse}
use Rattle.window_model.specs.declared.Entry.{Entry}
use Rattle.window_model.specs.Order.{Place, first, first_from}
use Rattle.window_model.proofs.Booleans.{some_of}

-- a place in these entries, where older ones are looked back on, whose entry has the property
pub record Found (t : List Entry → Entry → Bool) (b es : List Entry) (q : Place) : Type 0 where
  pub older : List Entry
  pub all : es ≡ older ++ q.entry ∷ q.younger
  pub back : q.before ≡ reverse_aux older b
  pub has : t q.before q.entry ≡ true

found_if : (t : List Entry → Entry → Bool) (b : List Entry) (e : Entry) (es : List Entry) (q : Place) (c : Bool) → t b e ≡ c →
    (first_from t (e ∷ b) es ≡ Some q → Found t (e ∷ b) es q) → (if c then Some (record { before = b; entry = e; younger = es }) else first_from t (e ∷ b) es) ≡ Some q → Found t b (e ∷ es) q
found_if t b e es q true h more k =
    let here : Place = record { before = b; entry = e; younger = es } in
    let now : Found t b (e ∷ es) here = record { older = []; all = refl; back = refl; has = h } in
    subst (Found t b (e ∷ es)) (some_of here q k) now
found_if t b e es q false h more k =
    let f = more k in
    record { older = e ∷ f.older; all = ap (λ w. e ∷ w) f.all; back = f.back; has = f.has }

-- the place that a walk answers is one of these entries, and meets the test
pub found : (t : List Entry → Entry → Bool) (b es : List Entry) (q : Place) → first_from t b es ≡ Some q → Found t b es q
found t b [] q h = absurd (cc)
found t b (e ∷ es) q h = found_if t b e es q (t b e) refl (found t (e ∷ b) es q) h

-- in the whole window what is before the place are the older entries
pub older_is : (t : List Entry → Entry → Bool) (w : List Entry) (q : Place) (f : Found t [] w q) → reverse q.before ≡ f.older
older_is t w q f = ap reverse f.back ∙ reverse-reverse f.older

-- what holds where nothing is found, and where something is, holds
pub by_place : (t : List Entry → Entry → Bool) (w : List Entry) (P : Option Place → Type 0) → P None → ((p : Place) → Found t [] w p → P (Some p)) → P (first t w)
by_place t w P none some = by_first (first t w) refl
  where
    by_first : (o : Option Place) → first t w ≡ o → P o
    by_first None q = none
    by_first (Some p) q = some p (found t [] w p q)
