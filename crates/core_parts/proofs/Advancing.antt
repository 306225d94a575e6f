-- A visibility point that has moved over a window goes on to say which entries are visible, as entries go on that
-- permit younger ones to be visible exactly where they did.
use Rattle.std.proofs.Common.{◌≡◌, ℕ, ◌+◌, ◌<◌, ◌≤◌, true, ◌&&◌, List, [], ◌∷◌, refl, ap, ap₂, sym, ◌∙◌, subst, arith}
use Rattle.std.proofs.lemmas.Bool.Decides.{nat_tests}
use Rattle.std.proofs.lemmas.List.Elements.{All-nil, All-cons, All-head, All-tail}
use Rattle.std.specs.List.{All, AllZip, list_all}
use Rattle.std.specs.Prelude.{nat_le}
use Rattle.machine_desc.specs.declared.SttModel.{SttModel}
use Rattle.window_model.specs.declared.Entry.{Entry}
use Rattle.window_model.specs.Along.{Along}
use Rattle.window_model.specs.Taint.{visible}
use Rattle.window_model.proofs.Before.{all_reverse}
use Rattle.visibility.specs.Point.{CanAdvance, HasAdvanced, HasMoved, IsPoint, NotPast, AllPermit, Point, next_after, permits}
use Rattle.visibility.proofs.Moving.{Tells}

-- ---- what it says of each entry is all that is to be kept

-- entries below the point permit younger ones to be visible
all_below : (p : Point) (s : ℕ) (es : List Entry) → All (λ e. e.serial < s) es → s ≤ p.serial → AllPermit p es → list_all (permits p.model) es ≡ true
all_below p s [] a le h = refl
all_below p s (e ∷ es) a le h =
    let l = All-head (λ e. e.serial < s) e es a in
    let t = All-head (λ e. e.serial < p.serial → permits p.model e ≡ true) e es h (omega (arith, l, le)) in
    ap₂ (λ a b. a && b) t (all_below p s es (All-tail (λ e. e.serial < s) e es a) le (All-tail (λ e. e.serial < p.serial → permits p.model e ≡ true) e es h))

-- a point that tells each entry's visibility, and can move on from where it is, has moved over the window
pub has_moved : (p : Point) (e : Entry) (es : List Entry) → IsPoint p (e ∷ es) → CanAdvance p (e ∷ es) → HasMoved p (e ∷ es)
has_moved p e es i can = record {
  each = i;
  smaller = λ s a.
      let t : nat_le e.serial p.serial ≡ true = i.0 in
      let n : e.serial ≤ p.serial = grind (arith, nat_tests) in
      let l = All-head (λ e. s < e.serial) e es a in
      omega (arith, n, l);
  next = λ s a le. all_reverse (permits p.model) (e ∷ es) ∙ all_below p s (e ∷ es) a le can.permit;
  again = can;
}

-- ---- entries that go on, and permit younger ones to be visible exactly where they did

-- two entries have one serial, and under the model both permit younger ones to be visible or neither does
abbrev pub Alike : SttModel → Entry → Entry → Type 0
Alike model e f = (f.serial ≡ e.serial) × (permits model f ≡ permits model e)

alike_visible : (model : SttModel) (b b2 : List Entry) → AllZip (Alike model) b b2 → visible model b2 ≡ visible model b
alike_visible model [] [] z = refl
alike_visible model [] (f ∷ b2) z = elim z [ ]
alike_visible model (e ∷ b) [] z = elim z [ ]
alike_visible model (e ∷ b) (f ∷ b2) z = ap₂ (λ a v. a && v) z.0.1 (alike_visible model b b2 z.1)

alike_tells : (p : Point) (b b2 es es2 : List Entry) → AllZip (Alike p.model) b b2 → AllZip (Alike p.model) es es2 → Along (Tells p) b es → Along (Tells p) b2 es2
alike_tells p b b2 [] [] y z k = tt
alike_tells p b b2 [] (f ∷ es2) y z k = elim z [ ]
alike_tells p b b2 (e ∷ es) [] y z k = elim z [ ]
alike_tells p b b2 (e ∷ es) (f ∷ es2) y z k =
    (ap (λ s. nat_le s p.serial) z.0.0 ∙ k.0 ∙ sym (alike_visible p.model b b2 y), alike_tells p (e ∷ b) (f ∷ b2) es es2 (z.0, y) z.1 k.1)

alike_permit : (p : Point) (es es2 : List Entry) → AllZip (Alike p.model) es es2 → AllPermit p es → AllPermit p es2
alike_permit p [] [] z h = All-nil (λ e. e.serial < p.serial → permits p.model e ≡ true)
alike_permit p [] (f ∷ es2) z h = elim z [ ]
alike_permit p (e ∷ es) [] z h = elim z [ ]
alike_permit p (e ∷ es) (f ∷ es2) z h =
    All-cons (λ e. e.serial < p.serial → permits p.model e ≡ true) f es2
    (λ l. z.0.1 ∙ All-head (λ e. e.serial < p.serial → permits p.model e ≡ true) e es h (subst (λ s. s < p.serial) z.0.0 l))
    (alike_permit p es es2 z.1 (All-tail (λ e. e.serial < p.serial → permits p.model e ≡ true) e es h))

alike_next : (model : SttModel) (s : ℕ) (es es2 : List Entry) → AllZip (Alike model) es es2 → next_after s es2 ≡ next_after s es
alike_next model s [] [] z = refl
alike_next model s [] (f ∷ es2) z = elim z [ ]
alike_next model s (e ∷ es) [] z = elim z [ ]
alike_next model s (e ∷ es) (f ∷ es2) z = ap (λ n. next_after (n + 1) es2) z.0.0 ∙ alike_next model (e.serial + 1) es es2 z.1

-- a point that has moved over a window has moved over each one whose entries have these serials and permit alike
pub alike_advanced : (p : Point) (w w2 : List Entry) → AllZip (Alike p.model) w w2 → HasAdvanced p w → HasAdvanced p w2
alike_advanced p [] [] z a = tt
alike_advanced p [] (f ∷ es2) z a = elim z [ ]
alike_advanced p (e ∷ es) [] z a = elim z [ ]
alike_advanced p (e ∷ es) (f ∷ es2) z a =
    has_moved p f es2 (alike_tells p [] [] (e ∷ es) (f ∷ es2) tt z a.each)
    (record {
      permit = alike_permit p (e ∷ es) (f ∷ es2) z a.again.permit;
      near = subst (NotPast p) (sym (alike_next p.model p.serial (e ∷ es) (f ∷ es2) z)) a.again.near;
    })
