-- Where the point is to stand over a window whose serials rise.
use Rattle.std.proofs.Common.{◌≡◌, ◌≢◌, ℕ, zero, suc, ◌+◌, ◌-◌, ◌^◌, ◌<◌, ◌≤◌, Bool, true, false, not, ◌&&◌, List, [], ◌∷◌, length, Option, Some, None, refl, ap, ap₂, sym, ◌∙◌, subst, arith, slice_get}
use Rattle.std.specs.Prelude.{if◌then◌else◌, nat_le, reverse}
use Rattle.std.specs.List.{find, list_all, All}
use Rattle.std.specs.Option.{option_map, unwrap_or}
use Rattle.std.proofs.lemmas.Bool.Decides.{nat_tests}
use Rattle.std.proofs.lemmas.List.Elements.{All-nil, All-cons, All-head, All-tail, All-weaker}
use Rattle.machine_desc.specs.declared.SttModel.{SttModel}
use Rattle.machine_desc.specs.declared.SttModel.TheVariants.{Spectre, Futuristic, Off}
use Rattle.window_model.specs.declared.Entry.{Entry}
use Rattle.window_model.specs.Along.{Along}
use Rattle.window_model.specs.Taint.{protects, visible}
use Rattle.window_model.proofs.Before.{all_reverse}
use Rattle.window_model.specs.Serials.{Rise}
use Rattle.window_model.proofs.Serials.{rise_head, rise_tail}
use Rattle.visibility.specs.Point.{Point, permits, next_after, serial_of, stops_at, moved_over, AllPermit, IsPoint, CanAdvance, HasMoved, HasAdvanced, ShowsAll}

-- ---- what the search finds

-- the oldest entry that doesn't permit younger ones to be visible
abbrev pub stop : SttModel → List Entry → Option Entry
stop model es = find (λ e. not (permits model e)) es

-- what the search passes over permits younger ones to be visible, and what it finds doesn't
on : (model : SttModel) (e f : Entry) (es : List Entry) → stop model (e ∷ es) ≡ Some f → permits model e ≡ true → stop model es ≡ Some f
on model e f es h p = let q = p in cc

here : (model : SttModel) (e f : Entry) (es : List Entry) → stop model (e ∷ es) ≡ Some f → permits model e ≡ false → e ≡ f
here model e f es h p = let q : Some e ≡ Some f = cc in cc

-- what holds of all entries holds of the one that is found
found_has : (model : SttModel) (P : Entry → Type 0) (f : Entry) (es : List Entry) → All P es → stop model es ≡ Some f → P f
found_has model P f [] a h = absurd (cc)
found_has model P f (e ∷ es) a h = by_test (permits model e) refl (λ Q. found_has model Q f es)
  where
    by_test : (b : Bool) → permits model e ≡ b → ((P : Entry → Type 0) → All P es → stop model es ≡ Some f → P f) → P f
    by_test true q more = more P (All-tail P e es a) (on model e f es h q)
    by_test false q more = subst P (here model e f es h q) (All-head P e es a)

-- what is found doesn't permit younger ones to be visible
found_fails : (model : SttModel) (f : Entry) (es : List Entry) → stop model es ≡ Some f → permits model f ≡ false
found_fails model f [] h = absurd (cc)
found_fails model f (e ∷ es) h = by_test (permits model e) refl (found_fails model f es)
  where
    by_test : (b : Bool) → permits model e ≡ b → (stop model es ≡ Some f → permits model f ≡ false) → permits model f ≡ false
    by_test true q more = more (on model e f es h q)
    by_test false q more = subst (λ e. permits model e ≡ false) (here model e f es h q) q

-- where none is found, all permit younger ones to be visible
past : (model : SttModel) (e : Entry) (es : List Entry) → stop model (e ∷ es) ≡ None → (b : Bool) → permits model e ≡ b → (permits model e ≡ true) × (stop model es ≡ None)
past model e es h true q = (q, cc)
past model e es h false q = absurd (cc)

none_stops : (model : SttModel) (es : List Entry) → stop model es ≡ None → list_all (permits model) es ≡ true
none_stops model [] h = refl
none_stops model (e ∷ es) h = let p = past model e es h (permits model e) refl in ap₂ (λ a b. a && b) p.0 (none_stops model es p.1)

all_permit : (model : SttModel) (es : List Entry) → stop model es ≡ None → All (λ e. permits model e ≡ true) es
all_permit model [] h = All-nil (λ e. permits model e ≡ true)
all_permit model (e ∷ es) h = let p = past model e es h (permits model e) refl in All-cons (λ e. permits model e ≡ true) e es p.0 (all_permit model es p.1)

-- ---- what the point tells of each entry

-- the visibility point tells whether an entry is visible
abbrev pub Tells : Point → List Entry → Entry → Type 0
Tells p before e = nat_le e.serial p.serial ≡ visible p.model before

-- entries above the point, behind one that doesn't permit them to be visible
hidden : (p : Point) (before es : List Entry) → visible p.model before ≡ false → All (λ e. p.serial < e.serial) es → Along (Tells p) before es
hidden p before [] v a = tt
hidden p before (e ∷ es) v a =
    let l : p.serial < e.serial = All-head (λ e. p.serial < e.serial) e es a in
    let n : nat_le e.serial p.serial ≡ false = grind (arith, nat_tests) in
    let c : visible p.model (e ∷ before) ≡ false = ap (λ b. permits p.model e && b) v ∙ and_false (permits p.model e) in
    (n ∙ sym v, hidden p (e ∷ before) es c (All-tail (λ e. p.serial < e.serial) e es a))
  where
    and_false : (b : Bool) → (b && false) ≡ false
    and_false true = refl
    and_false false = refl

-- the point stands at the first that doesn't permit younger ones to be visible
stops : (p : Point) (f : Entry) (before es : List Entry) → visible p.model before ≡ true → stop p.model es ≡ Some f → f.serial ≡ p.serial → Rise es → Along (Tells p) before es
stops p f before [] v h q r = tt
stops p f before (e ∷ es) v h q r = by_test (permits p.model e) refl (stops p f (e ∷ before) es)
  where
    by_test : (b : Bool) → permits p.model e ≡ b → (visible p.model (e ∷ before) ≡ true → stop p.model es ≡ Some f → f.serial ≡ p.serial → Rise es → Along (Tells p) (e ∷ before) es) → Along (Tells p) before (e ∷ es)
    by_test true t more =
        let s = on p.model e f es h t in
        let l : e.serial < f.serial = found_has p.model (λ b. e.serial < b.serial) f es (rise_head e es r) s in
        let n : nat_le e.serial p.serial ≡ true = grind (arith, nat_tests) in
        let c : visible p.model (e ∷ before) ≡ true = ap₂ (λ a b. a && b) t v in
        (n ∙ sym v, more c s q (rise_tail e es r))
    by_test false t more =
        let m : e.serial ≡ p.serial = ap (λ (e : Entry). e.serial) (here p.model e f es h t) ∙ q in
        let n : nat_le e.serial p.serial ≡ true = grind (arith, nat_tests) in
        let c : visible p.model (e ∷ before) ≡ false = ap₂ (λ a b. a && b) t v in
        (n ∙ sym v, hidden p (e ∷ before) es c (subst (λ n. All (λ b. n < b.serial) es) m (rise_head e es r)))

-- the point tells that every entry is visible where every one lets younger ones be, and it is past them
permits_all : (p : Point) (before es : List Entry) → visible p.model before ≡ true → stop p.model es ≡ None → All (λ e. e.serial < p.serial) es → Along (Tells p) before es
permits_all p before [] v h a = tt
permits_all p before (e ∷ es) v h a =
    let t = past p.model e es h (permits p.model e) refl in
    let l : e.serial < p.serial = All-head (λ e. e.serial < p.serial) e es a in
    let n : nat_le e.serial p.serial ≡ true = grind (arith, nat_tests) in
    let c : visible p.model (e ∷ before) ≡ true = ap₂ (λ a b. a && b) t.0 v in
    (n ∙ sym v, permits_all p (e ∷ before) es c t.1 (All-tail (λ e. e.serial < p.serial) e es a))

-- what stands before the one that doesn't permit younger ones to be visible does permit it
before_stop : (p : Point) (f : Entry) (es : List Entry) → stop p.model es ≡ Some f → f.serial ≡ p.serial → Rise es → AllPermit p es
before_stop p f [] h q r = All-nil (λ e. e.serial < p.serial → permits p.model e ≡ true)
before_stop p f (e ∷ es) h q r = by_test (permits p.model e) refl (before_stop p f es)
  where
    by_test : (b : Bool) → permits p.model e ≡ b → (stop p.model es ≡ Some f → f.serial ≡ p.serial → Rise es → AllPermit p es) → AllPermit p (e ∷ es)
    by_test true t more = All-cons (λ e. e.serial < p.serial → permits p.model e ≡ true) e es (λ lt. t) (more (on p.model e f es h t) q (rise_tail e es r))
    by_test false t more =
        let m : e.serial ≡ p.serial = ap (λ (e : Entry). e.serial) (here p.model e f es h t) ∙ q in
        All-cons (λ e. e.serial < p.serial → permits p.model e ≡ true) e es (λ lt. absurd (omega arith))
        (All-weaker (λ b. e.serial < b.serial) (λ b. b.serial < p.serial → permits p.model b ≡ true) (λ b l lt. absurd (omega arith)) es (rise_head e es r))

-- ---- the serial after the youngest

below_next : (s : ℕ) (e : Entry) (es : List Entry) → Rise (e ∷ es) → All (λ b. b.serial < next_after s (e ∷ es)) (e ∷ es)
below_next s e [] r = All-cons (λ b. b.serial < e.serial + 1) e [] (omega arith) (All-nil (λ b. b.serial < e.serial + 1))
below_next s e (f ∷ es) r =
    let m = below_next (e.serial + 1) f es (rise_tail e (f ∷ es) r) in
    let k = All-head (λ b. b.serial < next_after s (e ∷ f ∷ es)) f es m in
    let l = All-head (λ b. e.serial < b.serial) f es (rise_head e (f ∷ es) r) in
    All-cons (λ b. b.serial < next_after s (e ∷ f ∷ es)) e (f ∷ es) (omega (arith, k, l)) m

-- ---- the point has moved

smaller : (p : Point) (e : Entry) (es : List Entry) → IsPoint p (e ∷ es) → (s : ℕ) → All (λ e. s < e.serial) (e ∷ es) → s ≤ p.serial
smaller p e es i s a =
    let t : nat_le e.serial p.serial ≡ true = i.0 in
    let n : e.serial ≤ p.serial = grind (arith, nat_tests) in
    let l = All-head (λ e. s < e.serial) e es a in
    omega arith

can_at : (p : Point) (f e : Entry) (es : List Entry) → Rise (e ∷ es) → stop p.model (e ∷ es) ≡ Some f → f.serial ≡ p.serial → CanAdvance p (e ∷ es)
can_at p f e es r h q = record {
  permit = before_stop p f (e ∷ es) h q r;
  near = λ _. let l = found_has p.model (λ b. b.serial < next_after p.serial (e ∷ es)) f (e ∷ es) (below_next p.serial e es r) h in omega arith;
}

moved_to : (p : Point) (f e : Entry) (es : List Entry) → Rise (e ∷ es) → stop p.model (e ∷ es) ≡ Some f → f.serial ≡ p.serial → HasMoved p (e ∷ es)
moved_to p f e es r h q =
    let i = stops p f [] (e ∷ es) refl h q r in
    record {
      each = i;
      smaller = smaller p e es i;
      next = λ s a le. let l = found_has p.model (λ b. b.serial < s) f (e ∷ es) a h in absurd (omega arith);
      again = can_at p f e es r h q;
    }

can_past : (p : Point) (old : ℕ) (e : Entry) (es : List Entry) → stop p.model (e ∷ es) ≡ None → next_after old (e ∷ es) ≡ p.serial → CanAdvance p (e ∷ es)
can_past p old e es h q = record {
  permit = All-weaker (λ b. permits p.model b ≡ true) (λ b. b.serial < p.serial → permits p.model b ≡ true) (λ b t lt. t) (e ∷ es) (all_permit p.model (e ∷ es) h);
  near = λ _. omega (arith, q);
}

moved_past : (p : Point) (old : ℕ) (e : Entry) (es : List Entry) → Rise (e ∷ es) → stop p.model (e ∷ es) ≡ None → next_after old (e ∷ es) ≡ p.serial → HasMoved p (e ∷ es)
moved_past p old e es r h q =
    let i = permits_all p [] (e ∷ es) refl h (subst (λ n. All (λ b. b.serial < n) (e ∷ es)) q (below_next old e es r)) in
    record {
      each = i;
      smaller = smaller p e es i;
      next = λ s a le. all_reverse (permits p.model) (e ∷ es) ∙ none_stops p.model (e ∷ es) h;
      again = can_past p old e es h q;
    }

-- ---- under a model that doesn't protect it stays

-- under a model that doesn't protect every entry lets younger ones be visible
pub permits_unprotected : (model : SttModel) (e : Entry) → protects model ≡ false → permits model e ≡ true
permits_unprotected Spectre e h = absurd (cc)
permits_unprotected Futuristic e h = absurd (cc)
permits_unprotected Off e h = refl

all_visible : (model : SttModel) (before : List Entry) → protects model ≡ false → visible model before ≡ true
all_visible model [] h = refl
all_visible model (e ∷ before) h = ap₂ (λ a b. a && b) (permits_unprotected model e h) (all_visible model before h)

all_tell : (p : Point) (before es : List Entry) → protects p.model ≡ false → All (λ e. e.serial ≤ p.serial) es → Along (Tells p) before es
all_tell p before [] h a = tt
all_tell p before (e ∷ es) h a =
    let l : e.serial ≤ p.serial = All-head (λ e. e.serial ≤ p.serial) e es a in
    let n : nat_le e.serial p.serial ≡ true = grind (arith, nat_tests) in
    (n ∙ sym (all_visible p.model before h), all_tell p (e ∷ before) es h (All-tail (λ e. e.serial ≤ p.serial) e es a))

shows_all : (p : Point) (e : Entry) (es : List Entry) → protects p.model ≡ false → All (λ e. e.serial ≤ p.serial) (e ∷ es) → CanAdvance p (e ∷ es) → HasMoved p (e ∷ es)
shows_all p e es h a can =
    let i = all_tell p [] (e ∷ es) h a in
    record { each = i; smaller = smaller p e es i; next = λ s a le. all_visible p.model (reverse (e ∷ es)) h; again = can }

-- ---- whether it stops or not

module _ (p : Point) where
  -- the point where it goes, if the model protects
  abbrev at : List Entry → Bool → Point
  at window b = record p { serial = if b then stops_at window p else p.serial }

  at_stop : (P : Point → Type 0) (e : Entry) (es : List Entry) → ((f : Entry) → stop p.model (e ∷ es) ≡ Some f → P (record p { serial = f.serial })) →
      (stop p.model (e ∷ es) ≡ None → P (record p { serial = next_after p.serial (e ∷ es) })) → P (at (e ∷ es) true)
  at_stop P e es found none = by_stop (stop p.model (e ∷ es)) refl
    where
      by_stop : (o : Option Entry) → stop p.model (e ∷ es) ≡ o → P (record p { serial = serial_of o (next_after p.serial (e ∷ es)) })
      by_stop None h = none h
      by_stop (Some f) h = found f h

  -- what holds of the point where it goes if the model protects, and of the point as it was if not, holds of it once
  -- moved
  pub by_model : (P : Point → Type 0) (window : List Entry) → (protects p.model ≡ true → P (at window true)) → (protects p.model ≡ false → P p) → P (moved_over window p)
  by_model P window goes stays = either (protects p.model) refl
    where
      either : (b : Bool) → protects p.model ≡ b → P (at window b)
      either true h = goes h
      either false h = stays h

  -- the point can move again, once it has moved over a window
  pub can_again : (window : List Entry) → Rise window → CanAdvance p window → CanAdvance (moved_over window p) window
  can_again [] r can = by_model (λ q. CanAdvance q []) [] (λ _. can) (λ _. can)
  can_again (e ∷ es) r can =
      by_model (λ q. CanAdvance q (e ∷ es)) (e ∷ es)
      (λ _. at_stop (λ q. CanAdvance q (e ∷ es)) e es (λ f h. can_at (record p { serial = f.serial }) f e es r h refl)
      (λ h. can_past (record p { serial = next_after p.serial (e ∷ es) }) p.serial e es h refl))
      (λ _. can)

  -- the point says of the window what the contract says, once it has moved over it
  pub has_advanced : (window : List Entry) → Rise window → ShowsAll p → All (λ e. e.serial < 2 ^ 64 - 1) window → CanAdvance p window → HasAdvanced (moved_over window p) window
  has_advanced [] r all few can = tt
  has_advanced (e ∷ es) r all few can =
      by_model (λ q. HasMoved q (e ∷ es)) (e ∷ es)
      (λ _. at_stop (λ q. HasMoved q (e ∷ es)) e es (λ f h. moved_to (record p { serial = f.serial }) f e es r h refl)
      (λ h. moved_past (record p { serial = next_after p.serial (e ∷ es) }) p.serial e es r h refl))
      (λ h. let last = all h in
      shows_all p e es h (All-weaker (λ e. e.serial < 2 ^ 64 - 1) (λ e. e.serial ≤ p.serial) (λ e l. omega (arith, l, last)) (e ∷ es) few) can)

  not_below : (m n : ℕ) → (m < n → ⊥) → n ≤ m
  not_below m n h = by_test (nat_le n m) refl
    where
      by_test : (b : Bool) → nat_le n m ≡ b → n ≤ m
      by_test true q = grind (arith, nat_tests)
      by_test false q = let l : m < n = grind (arith, nat_tests) in absurd (h l)

  -- the point hasn't gone back where it moved over a window
  pub moves_on : (window : List Entry) → Rise window → CanAdvance p window → p.serial ≤ (moved_over window p).serial
  moves_on [] r can = by_model (λ q. p.serial ≤ q.serial) [] (λ _. omega arith) (λ _. omega arith)
  moves_on (e ∷ es) r can =
      by_model (λ q. p.serial ≤ q.serial) (e ∷ es)
      (λ g. at_stop (λ q. p.serial ≤ q.serial) e es
      (λ f h. let fails = found_fails p.model f (e ∷ es) h in
      not_below f.serial p.serial (λ lt. let t = found_has p.model (λ b. b.serial < p.serial → permits p.model b ≡ true) f (e ∷ es) can.permit h lt in absurd (cc)))
      (λ h. can.near g))
      (λ _. omega arith)

-- ---- what the code finds

-- the last of a list
pub next_is : (n s : ℕ) (es : List Entry) (e : Entry) → length es ≡ n + 1 → slice_get es n ≡ Some e → e.serial + 1 ≡ next_after s es
next_is n s [] e l h = absurd (cc)
next_is zero s (x ∷ []) e l h = let i : Some x ≡ Some e = h in let j : x ≡ e = cc in ap (λ (e : Entry). e.serial + 1) (sym j)
next_is zero s (x ∷ y ∷ es) e l h = absurd (omega (arith, l))
next_is (suc n) s (x ∷ es) e l h = let m : length es ≡ n + 1 = omega (arith, l) in next_is n (x.serial + 1) es e m h

-- the serial of what is found, else another
serial_is : (found : Option Entry) (next : ℕ) → unwrap_or (option_map (λ e. e.serial) found) next ≡ serial_of found next
serial_is None next = refl
serial_is (Some e) next = refl

-- a model is `off`, or it protects
pub is_protecting : (model : SttModel) → model ≢ Off → protects model ≡ true
is_protecting Spectre h = refl
is_protecting Futuristic h = refl
is_protecting Off h = absurd (h refl)

-- what the search and the youngest entry come to, at the point as it was, if the model protects
module _ (p old : Point) (window : List Entry) (n next : ℕ) (found : Option ℕ) (same : p ≡ old) (guards : p.model ≢ Off)
    (is : n ≡ unwrap_or found next) (stop_is : found ≡ option_map (λ e. e.serial) (stop p.model window)) (next_is : next ≡ next_after p.serial window)
    (rise : Rise window) (can : CanAdvance old window) where
  moved : n ≡ (moved_over window p).serial
  moved =
      is ∙ ap₂ (λ next found. unwrap_or found next) next_is stop_is ∙ serial_is (stop p.model window) (next_after p.serial window)
      ∙ ap (λ b. if b then stops_at window p else p.serial) (sym (is_protecting p.model guards))

  can_here : CanAdvance p window
  can_here = subst (λ q. CanAdvance q window) (sym same) can

  pub advanced_at : ShowsAll p → All (λ e. e.serial < 2 ^ 64 - 1) window → HasAdvanced (record p { serial = n }) window
  advanced_at all few = subst (λ n. HasAdvanced (record p { serial = n }) window) (sym moved) (has_advanced p window rise all few can_here)

  pub on_at : old.serial ≤ n
  on_at =
      let l = moves_on p window rise can_here in
      let s : p.serial ≡ old.serial = ap (λ (q : Point). q.serial) same in
      let m = moved in
      omega (arith, l, s, m)

-- under `off` the point is left as it is
pub left_advanced : (p old : Point) (window : List Entry) → p ≡ old → p.model ≡ Off → Rise window → ShowsAll p → All (λ e. e.serial < 2 ^ 64 - 1) window → CanAdvance old window → HasAdvanced old window
left_advanced p old window same off rise all few can =
    let none : protects p.model ≡ false = ap protects off in
    let left : moved_over window p ≡ p = ap (λ b. let q : Point = record p { serial = if b then stops_at window p else p.serial } in q) none in
    subst (λ q. HasAdvanced q window) (left ∙ same) (has_advanced p window rise all few (subst (λ q. CanAdvance q window) (sym same) can))
