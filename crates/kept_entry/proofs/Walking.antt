-- The oldest entry with a property, on a walk from the oldest entry on.
use mathlib.Core.List.{reverse_aux}
use Rattle.std.proofs.Common.{◌≡◌, ℕ, zero, suc, ◌+◌, Bool, true, false, List, [], ◌∷◌, length, take, drop, Some, None, slice_get, refl, ap, subst, sym, ◌∙◌, arith}
use Rattle.std.specs.Prelude.{if◌then◌else◌}
use Rattle.std.proofs.lemmas.List.{drop_all}
use Rattle.window_model.specs.declared.Entry.{Entry}
use Rattle.window_model.specs.Order.{Place, before_at, first, first_from}

module _ (p : List Entry → Entry → Bool) where
  -- an entry in its place, where the entries from position i on are `es`
  place : List Entry → List Entry → ℕ → Entry → Place
  place before es i e = record { before = reverse_aux (take i es) before; entry = e; younger = drop (suc i) es }

  one_on : (before es : List Entry) (i : ℕ) (e : Entry) → slice_get es i ≡ Some e →
      first_from p (reverse_aux (take i es) before) (drop i es)
      ≡ (if p (reverse_aux (take i es) before) e then Some (place before es i e) else first_from p (reverse_aux (take (suc i) es) before) (drop (suc i) es))
  unfolding place
  one_on before [] i e h = absurd (cc)
  one_on before (x ∷ es) zero e h =
      let is : x ≡ e = cc in
      subst (λ e. first_from p before (x ∷ es) ≡ (if p before e then Some (record { before = before; entry = e; younger = es }) else first_from p (x ∷ before) es)) is refl
  one_on before (x ∷ es) (suc i) e h = one_on (x ∷ before) es i e h

  -- ---- from a position of the window on

  -- the oldest one from position i on is the oldest one of the whole window
  abbrev pub FirstFrom : List Entry → ℕ → Type 0
  FirstFrom window i = first_from p (before_at window i) (drop i window) ≡ first p window

  pub all_from : (window : List Entry) → FirstFrom window 0
  all_from window = refl

  module _ (window : List Entry) (i : ℕ) (e : Entry) (here : slice_get window i ≡ Some e) where
    -- an entry with the property is the oldest one, where no older one has it
    pub first_here : p (before_at window i) e ≡ true → FirstFrom window i → (q : Place) × (first p window ≡ Some q) × (q.before ≡ before_at window i) × (q.entry ≡ e)
    unfolding place
    first_here has t =
        let is : first p window ≡ Some (place [] window i e) =
        sym t ∙ one_on [] window i e here
        ∙ ap (λ b. if b then Some (place [] window i e) else first_from p (before_at window (suc i)) (drop (suc i) window)) has in
        (place [] window i e, is, refl, refl)

    -- an entry without it is passed
    pub first_later : p (before_at window i) e ≡ false → FirstFrom window i → FirstFrom window (i + 1)
    first_later lacks t =
        let same : suc i ≡ i + 1 = omega arith in
        subst (FirstFrom window) same
        (ap (λ b. if b then Some (place [] window i e) else first_from p (before_at window (suc i)) (drop (suc i) window)) (sym lacks) ∙ sym (one_on [] window i e here) ∙ t)

  -- none has it, where none is left
  pub first_nowhere : (window : List Entry) → FirstFrom window (length window) → None ≡ first p window
  first_nowhere window t = let n = length window in ap (first_from p (before_at window n)) (sym (drop_all n window (omega arith))) ∙ t

  -- none is found where none has it
  pub none_first : (before es : List Entry) → ((before : List Entry) (e : Entry) → p before e ≡ false) → first_from p before es ≡ None
  none_first before [] h = refl
  none_first before (e ∷ es) h =
      ap (λ b. if b then Some (record { before = before; entry = e; younger = es }) else first_from p (e ∷ before) es) (h before e) ∙ none_first (e ∷ before) es h
