-- The store that is found, at its place in the window, and the younger load that it violates, at its own.
use Rattle.std.proofs.Common.{◌≡◌, ℕ, ◌+◌, ◌-◌, ◌<◌, ◌≤◌, Bool, true, cond, List, [], ◌∷◌, ◌++◌, length, Option, Some, None, refl, ap, sym, ◌∙◌, subst, arith, slice_get}
use Rattle.std.specs.Prelude.{nat_lt, reverse, slice_set}
use Rattle.std.specs.List.{All}
use Rattle.std.specs.Option.{option_map}
use Rattle.std.proofs.Math.Seq.{set-append_seam}
use Rattle.std.proofs.lemmas.Bool.Decides.{nat_tests}
use Rattle.std.proofs.lemmas.List.{append_assoc, length-append}
use Rattle.std.proofs.lemmas.List.Elements.{All-cons, All-weaker}
use Rattle.machine_desc.specs.declared.Desc.{Desc}
use Rattle.window_model.specs.declared.Entry.{Entry}
use Rattle.window_model.specs.Clear.{cleared_one, clears, is_violated, may_clear, violated_by}
use Rattle.window_model.specs.Order.{Place, first}
use Rattle.window_model.specs.Serials.{Rise, below}
use Rattle.window_model.specs.State.{Machine}
use Rattle.window_model.proofs.Booleans.{some_of}
use Rattle.window_model.proofs.Clearing.{MayClear, clear_parts}
use Rattle.window_model.proofs.Places.{found, older_is}
use Rattle.window_model.proofs.Serials.{all_seam, none_below, rise_head, rise_tail, rise_with}
use Rattle.window_model.proofs.Lists.{get_seam}
use Rattle.clear.specs.Cleared.{clearing}

-- ---- a place in a list

stands_at : (t : List Entry → Entry → Bool) (w : List Entry) (p : Place) → first t w ≡ Some p → w ≡ reverse p.before ++ p.entry ∷ p.younger
stands_at t w p h = let f = found t [] w p h in f.all ∙ ap (λ o. o ++ p.entry ∷ p.younger) (sym (older_is t w p f))

-- a younger entry has a greater serial
pub above : (older : List Entry) (e : Entry) (younger : List Entry) → Rise (older ++ e ∷ younger) → All (λ d. e.serial < d.serial) younger
above [] e younger rise = rise_head e younger rise
above (x ∷ older) e younger rise = above older e younger (rise_tail x (older ++ e ∷ younger) rise)

-- below an entry's serial are the older ones
pub below_at : (older : List Entry) (e : Entry) (younger : List Entry) → Rise (older ++ e ∷ younger) → below e.serial (older ++ e ∷ younger) ≡ older
below_at [] e younger rise =
    let same : e.serial ≤ e.serial = omega arith in
    none_below e.serial (e ∷ younger)
    (All-cons (λ d. e.serial ≤ d.serial) e younger same
    (All-weaker (λ d. e.serial < d.serial) (λ d. e.serial ≤ d.serial) (λ d lt. omega (arith, lt)) younger (rise_head e younger rise)))
below_at (x ∷ older) e younger rise =
    let lt : x.serial < e.serial = all_seam (λ d. x.serial < d.serial) older e younger (rise_head x (older ++ e ∷ younger) rise) in
    let t : nat_lt x.serial e.serial ≡ true = grind (arith, nat_tests) in
    ap (λ b. cond b (x ∷ below e.serial (older ++ e ∷ younger)) (below e.serial (older ++ e ∷ younger))) t
    ∙ ap (λ es. x ∷ es) (below_at older e younger (rise_tail x (older ++ e ∷ younger) rise))

-- ---- the store that is cleared

-- the oldest store that may be cleared
pub record Store (d : Desc) (x : Machine) (serial : ℕ) : Type 0 where
  pub place : Place
  pub is : first (may_clear d) x.window ≡ Some place
  pub named : place.entry.serial ≡ serial
  pub whole : x.window ≡ reverse place.before ++ place.entry ∷ place.younger
  pub may : MayClear d place.before place.entry

pub store_at : (d : Desc) (x : Machine) (serial : ℕ) → Some serial ≡ clearing d x → Store d x serial
store_at d x serial h = by_first (first (may_clear d) x.window) refl h
  where
    by_first : (o : Option Place) → first (may_clear d) x.window ≡ o → Some serial ≡ option_map (λ (p : Place). p.entry.serial) o → Store d x serial
    by_first None q h = absurd (cc)
    by_first (Some p) q h =
        record {
          place = p;
          is = q;
          named = some_of _ _ (sym h);
          whole = stands_at (may_clear d) x.window p q;
          may = clear_parts d p.before p.entry (found (may_clear d) [] x.window p q).has;
        }

-- ---- the load that it violates

-- the oldest load that passed this store wrongly
pub record Load (p : Place) (serial : ℕ) : Type 0 where
  pub place : Place
  pub is : violated_by p ≡ Some place
  pub named : place.entry.serial ≡ serial

pub load_at : (p : Place) (serial : ℕ) → Some serial ≡ option_map (λ q. q.entry.serial) (violated_by p) → Load p serial
load_at p serial h = by_first (violated_by p) refl h
  where
    by_first : (o : Option Place) → violated_by p ≡ o → Some serial ≡ option_map (λ (q : Place). q.entry.serial) o → Load p serial
    by_first None q n = absurd (cc)
    by_first (Some l) q n = record { place = l; is = q; named = some_of _ _ (sym n) }

-- ---- where store and load stand

-- serials rose before the store was cleared if they do then
pub rose : (d : Desc) (x : Machine) (serial : ℕ) (k : Store d x serial) → Rise (clears k.place x).machine.window → Rise x.window
rose d x serial k r = subst Rise (sym k.whole) (rise_with (reverse k.place.before) k.place.younger (cleared_one k.place.entry) k.place.entry refl r)

module _ (d : Desc) (x : Machine) (serial : ℕ) (k : Store d x serial) (rises : Rise x.window) where
  rises_here : Rise (reverse k.place.before ++ k.place.entry ∷ k.place.younger)
  rises_here = subst Rise k.whole rises

  -- the entries below the store's serial are as many as stand before the store
  pub place_is : length (below serial x.window) ≡ length (reverse k.place.before)
  place_is =
      ap (λ n. length (below n x.window)) (sym k.named)
      ∙ ap (λ w. length (below k.place.entry.serial w)) k.whole
      ∙ ap length (below_at (reverse k.place.before) k.place.entry k.place.younger rises_here)

  -- the store stands at the position that its serial tells
  pub stands_there : slice_get x.window (length (below serial x.window)) ≡ Some k.place.entry
  stands_there =
      ap (slice_get x.window) place_is
      ∙ ap (λ w. slice_get w (length (reverse k.place.before))) k.whole
      ∙ get_seam (reverse k.place.before) k.place.younger k.place.entry

  -- the store is cleared at the position that its serial tells
  pub set_there : slice_set x.window (length (below serial x.window)) (cleared_one k.place.entry) ≡ (clears k.place x).machine.window
  set_there =
      ap (λ n. slice_set x.window n (cleared_one k.place.entry)) place_is
      ∙ ap (λ w. slice_set w (length (reverse k.place.before)) (cleared_one k.place.entry)) k.whole
      ∙ set-append_seam (reverse k.place.before) k.place.entry k.place.younger (cleared_one k.place.entry)

  -- serials rise once the store is cleared, as before
  pub rises_cleared : Rise (clears k.place x).machine.window
  rises_cleared = rise_with (reverse k.place.before) k.place.younger k.place.entry (cleared_one k.place.entry) refl rises_here

  -- ---- the load that is violated

  module _ (q : Place) (v : violated_by k.place ≡ Some q) where
    younger_is : k.place.younger ≡ reverse q.before ++ q.entry ∷ q.younger
    younger_is = stands_at (λ between e. is_violated k.place.entry e) k.place.younger q v

    -- the violated load is younger than the store
    pub load_younger : k.place.entry.serial < q.entry.serial
    load_younger =
        all_seam (λ d. k.place.entry.serial < d.serial) (reverse q.before) q.entry q.younger
        (subst (All (λ d. k.place.entry.serial < d.serial)) younger_is (above (reverse k.place.before) k.place.entry k.place.younger rises_here))

    -- the entries older than the violated load, once the store is cleared
    abbrev pub front : List Entry
    front = reverse k.place.before ++ cleared_one k.place.entry ∷ reverse q.before

    pub front_is : (clears k.place x).machine.window ≡ front ++ q.entry ∷ q.younger
    front_is =
        ap (λ es. reverse k.place.before ++ cleared_one k.place.entry ∷ es) younger_is
        ∙ sym (append_assoc (reverse k.place.before) (cleared_one k.place.entry ∷ reverse q.before) (q.entry ∷ q.younger))

    pub below_load : below q.entry.serial (clears k.place x).machine.window ≡ front
    below_load = ap (below q.entry.serial) front_is ∙ below_at front q.entry q.younger (subst Rise front_is rises_cleared)

    -- the violated load stands behind the entries that are older than it
    pub load_there : slice_get (clears k.place x).machine.window (length (below q.entry.serial (clears k.place x).machine.window)) ≡ Some q.entry
    load_there =
        ap (λ es. slice_get (clears k.place x).machine.window (length es)) below_load
        ∙ ap (λ w. slice_get w (length front)) front_is
        ∙ get_seam front q.younger q.entry

    -- the violated load and those younger than it are what goes
    pub gone : length (clears k.place x).machine.window - length (below q.entry.serial (clears k.place x).machine.window) ≡ length q.younger + 1
    gone =
        let a = ap length front_is in
        let b = ap length below_load in
        let c = length-append front (q.entry ∷ q.younger) in
        omega (arith, a, b, c)
