-- Clear at the place that it finds: the store there is cleared, and what is younger stays, or goes from a load on.
use Rattle.std.proofs.Common.{◌≡◌, Bool, true, false, not, ◌&&◌, List, [], ◌∷◌, ◌++◌, Option, Some, None, refl, ap, sym, ◌∙◌, subst, append_assoc}
use Rattle.std.proofs.lemmas.List.{append-nil, reverse-append}
use Rattle.std.specs.Prelude.{if◌then◌else◌, reverse}
use Rattle.std.specs.List.{AllByRecursion as Each}
use Rattle.machine_desc.specs.declared.Desc.{Desc}
use Rattle.window_model.specs.declared.Entry.{Entry}
use Rattle.window_model.specs.State.{Machine, nothing}
use Rattle.window_model.specs.Order.{Place, first, first_from, has_address, is_load, is_store}
use Rattle.window_model.specs.Taint.{address_tainted}
use Rattle.machine_desc.specs.Questions.{loads_pass}
use Rattle.window_model.specs.Clear.{clear, clear_at, clear_with, cleared_one, clears, is_violated, may_clear, is_passed_by, violated_by, violates}
use Rattle.window_model.proofs.Booleans.{both, not_true}
use Rattle.window_model.proofs.Counts.{Goes}
use Rattle.window_model.proofs.Lists.{each_push}
use Rattle.window_model.proofs.Places.{by_place, older_is}

-- only a load passes a store
pub passed_load : (store load : Entry) → is_passed_by store load ≡ true → is_load load.item.kind ≡ true
passed_load store load h = (both (is_load load.item.kind) _ h).0

-- ---- what a store that may be cleared is

-- a store that isn't cleared, with a known, untainted address
pub record MayClear (d : Desc) (b : List Entry) (e : Entry) : Type 0 where
  pub store : is_store e.item.kind ≡ true
  pub fresh : e.cleared ≡ false
  pub known : has_address e ≡ true
  pub clean : address_tainted d.stt_model b e ≡ false

-- a store that may be cleared isn't cleared yet, and has a known, untainted address
pub clear_parts : (d : Desc) (b : List Entry) (e : Entry) → may_clear d b e ≡ true → MayClear d b e
clear_parts d b e h =
    let p = both (is_store e.item.kind && not e.cleared && has_address e) _ h in
    let q = both (is_store e.item.kind && not e.cleared) _ p.0 in
    let r = both (is_store e.item.kind) _ q.0 in
    record { store = r.0; fresh = not_true e.cleared r.1; known = q.1; clean = not_true _ p.1 }

-- an entry that is cleared keeps its item and serial, and doesn't come to wait
pub cleared_goes : (e : Entry) → Goes e (cleared_one e)
cleared_goes e = record { item = refl; serial = refl; waits = λ h. h }

-- ---- where the store and the violated load stand

-- what Clear knows of the store that it takes, and of the window
pub record Cleared (d : Desc) (x : Machine) (p : Place) : Type 0 where
  pub loads_pass : loads_pass d ≡ true
  pub window : x.window ≡ reverse p.before ++ p.entry ∷ p.younger
  pub parts : MayClear d p.before p.entry

-- what Clear knows of the violated load: it is among the entries younger than the store, and passed the store wrongly
pub record Violated (p q : Place) : Type 0 where
  pub younger : p.younger ≡ reverse q.before ++ q.entry ∷ q.younger
  pub has : is_violated p.entry q.entry ≡ true

-- no entry in the list has the property
abbrev pub NoneHas : (Entry → Bool) → List Entry → Type 0
NoneHas f es = Each (λ e. f e ≡ false) es

-- what holds where none has the property, and of the oldest that has it, holds of the first that is found
module _ (f : Entry → Bool) (w : List Entry) (P : Option Place → Type 0) (none : NoneHas f w → P None)
    (some : (q : Place) → w ≡ reverse q.before ++ q.entry ∷ q.younger → f q.entry ≡ true → NoneHas f (reverse q.before) → P (Some q)) where
  walk : (b es : List Entry) → w ≡ reverse b ++ es → NoneHas f (reverse b) → P (first_from (λ b e. f e) b es)
  walk b [] q n = none (subst (NoneHas f) (sym (q ∙ append-nil (reverse b))) n)
  walk b (e ∷ es) q n =
      let more : reverse (e ∷ b) ≡ reverse b ++ e ∷ [] = reverse-append (e ∷ []) b in
      by_test (f e) refl
      (λ h. walk (e ∷ b) es (q ∙ sym (append_assoc (reverse b) (e ∷ []) es) ∙ ap (λ r. r ++ es) (sym more)) (subst (NoneHas f) (sym more) (each_push (λ e. f e ≡ false) (reverse b) e n h)))
    where
      by_test : (t : Bool) → f e ≡ t → (f e ≡ false → P (first_from (λ b e. f e) (e ∷ b) es)) → P (if t then Some (record { before = b; entry = e; younger = es }) else first_from (λ b e. f e) (e ∷ b) es)
      by_test true h more = some (record { before = b; entry = e; younger = es }) q h n
      by_test false h more = more h

  pub by_oldest : P (first (λ b e. f e) w)
  by_oldest = walk [] w refl tt

-- what is kept where a store is cleared and no load is violated, and where the oldest that is goes, Clear keeps
module _ (d : Desc) (P : Machine → Type 0)
    (stays : (x : Machine) (p : Place) → Cleared d x p → NoneHas (is_violated p.entry) p.younger → P x → P (clears p x).machine)
    (cuts : (x : Machine) (p q : Place) → Cleared d x p → Violated p q → NoneHas (is_violated p.entry) (reverse q.before) → P x → P (violates d p q x).machine) where
  by_load : (x : Machine) (p : Place) → Cleared d x p → P x → P (clear_with d p (violated_by p) x).machine
  by_load x p t h =
      by_oldest (is_violated p.entry) p.younger (λ o. P (clear_with d p o x).machine) (λ n. stays x p t n h)
      (λ q y v n. cuts x p q t (record { younger = y; has = v }) n h)

  by_store : loads_pass d ≡ true → (x : Machine) → P x → P (clear_at d (first (may_clear d) x.window) x).machine
  by_store a x h =
      by_place (may_clear d) x.window (λ o. P (clear_at d o x).machine) h
      (λ p f.
      let all = f.all ∙ ap (λ o. o ++ p.entry ∷ p.younger) (sym (older_is (may_clear d) x.window p f)) in
      by_load x p (record { loads_pass = a; window = all; parts = clear_parts d p.before p.entry f.has }) h)

  pub clear_spares : (x : Machine) → P x → P (clear d x).machine
  clear_spares x h = by_passing (loads_pass d) refl
    where
      by_passing : (b : Bool) → loads_pass d ≡ b → P (if b then clear_at d (first (may_clear d) x.window) x else nothing x).machine
      by_passing true a = by_store a x h
      by_passing false a = h

-- what is kept where a store is cleared alone, and where a violated load goes with it, Clear keeps
pub clear_keep : (d : Desc) (P : Machine → Type 0) → ((x : Machine) (p : Place) → Cleared d x p → P x → P (clears p x).machine) →
    ((x : Machine) (p q : Place) → Cleared d x p → Violated p q → P x → P (violates d p q x).machine) → (x : Machine) → P x → P (clear d x).machine
clear_keep d P stays cuts = clear_spares d P (λ x p t n h. stays x p t h) (λ x p q t u n h. cuts x p q t u h)
