-- The oldest entry that is resolved with a marked outcome, on a walk from the oldest entry on.
use Rattle.std.proofs.Common.{◌≡◌, ℕ, ◌+◌, ◌≤◌, true, false, ◌&&◌, List, [], ◌∷◌, length, drop, Option, Some, None, slice_get, refl, ap, ap₂, sym, ◌∙◌, arith}
use Rattle.std.specs.Prelude.{if◌then◌else◌}
use Rattle.std.proofs.lemmas.List.{drop_all}
use Rattle.window_model.specs.declared.Entry.{Entry}
use Rattle.secret_marks.specs.declared.EntryMarks.{EntryMarks}
use Rattle.secret_marks.specs.declared.Shown.{Shown}
use Rattle.window_model.specs.Rename.{is_call}
use Rattle.window_model.specs.State.{Machine}
use Rattle.secret_marks.specs.Marks.{Marks}
use Rattle.secret_marks.specs.Shows.{call_shows, outcome_marked}
use Rattle.secret_marks.specs.Shown.{head_shown, resolved_shown, shown_by}
use Rattle.entry_marks.proofs.Before.{drop_step}

module _ (window : List Entry) (marks : List EntryMarks) where
  -- what shows from a position on
  abbrev from : ℕ → Option Shown
  from i = resolved_shown (drop i window) (drop i marks)

  module _ (i : ℕ) (e : Entry) (mark : EntryMarks) (here : slice_get window i ≡ Some e) (here2 : slice_get marks i ≡ Some mark) where
    one_on : from i ≡ (if e.resolved && outcome_marked mark then Some (shown_by e) else from (i + 1))
    one_on = ap₂ resolved_shown (drop_step window i (i + 1) e refl here) (drop_step marks i (i + 1) mark refl here2)

    pub shows_here : (s : Shown) → (e.resolved && outcome_marked mark) ≡ true → s ≡ shown_by e → Some s ≡ from i
    shows_here s q p = ap Some p ∙ ap (λ b. if b then Some (shown_by e) else from (i + 1)) (sym q) ∙ sym one_on

    pub shows_later : (e.resolved && outcome_marked mark) ≡ false → from (i + 1) ≡ from i
    shows_later q = ap (λ b. if b then Some (shown_by e) else from (i + 1)) (sym q) ∙ sym one_on

  none_left : (marks : List EntryMarks) → resolved_shown [] marks ≡ None
  none_left [] = refl
  none_left (m ∷ ms) = refl

  pub shows_nowhere : (i : ℕ) → length window ≤ i → None ≡ from i
  shows_nowhere i le = sym (ap (λ es. resolved_shown es (drop i marks)) (drop_all i window le) ∙ none_left (drop i marks))

-- ---- a call at the head

module _ (x : Machine) (m : Marks) where
  head_on : (window : List Entry) (e : Entry) → slice_get window 0 ≡ Some e → head_shown window x m ≡ (if is_call e.item.kind && call_shows x m then Some (shown_by e) else None)
  head_on [] e h = absurd (cc)
  head_on (y ∷ window) e h =
      let same : y ≡ e = cc in
      ap (λ (y : Entry). if is_call y.item.kind && call_shows x m then Some (shown_by y) else None) same

  module _ (window : List Entry) (e : Entry) (here : slice_get window 0 ≡ Some e) where
    -- a call at the head that shows something marked is what shows of the head
    pub head_tells : (s : Shown) → (is_call e.item.kind && call_shows x m) ≡ true → s ≡ shown_by e → Some s ≡ head_shown window x m
    head_tells s q p = ap Some p ∙ ap (λ b. if b then Some (shown_by e) else None) (sym q) ∙ sym (head_on window e here)

    -- nothing shows of a head that is no call, or whose call shows nothing marked
    pub head_silent : (is_call e.item.kind && call_shows x m) ≡ false → None ≡ head_shown window x m
    head_silent q = ap (λ b. if b then Some (shown_by e) else None) (sym q) ∙ sym (head_on window e here)

  -- nothing shows of the head of an empty window
  pub no_head : (window : List Entry) → length window ≡ 0 → None ≡ head_shown window x m
  no_head [] h = refl
  no_head (y ∷ window) h = absurd (omega (arith, h))
