-- The oldest operand that shows, on a walk from the oldest entry on.
use Rattle.std.proofs.Common.{◌≡◌, ℕ, ◌+◌, true, false, List, [], ◌∷◌, length, drop, Option, Some, None, slice_get, refl, ap, ap₂, sym, ◌∙◌, arith, Bool}
use Rattle.std.specs.Prelude.{if◌then◌else◌}
use Rattle.std.proofs.lemmas.List.{drop_all}
use Rattle.std.proofs.lemmas.Option.{slice_get_within}
use Rattle.machine_desc.specs.declared.Desc.{Desc}
use Rattle.window_model.specs.declared.Entry.{Entry}
use Rattle.window_model.specs.Order.{before_at}
use Rattle.secret_marks.specs.declared.EntryMarks.{EntryMarks}
use Rattle.secret_marks.specs.declared.Shown.{Shown}
use Rattle.secret_marks.specs.Marks.{Marks}
use Rattle.secret_marks.specs.Shows.{operand_shows}
use Rattle.secret_marks.specs.Shown.{operands_shown, shown_by}
use Rattle.entry_marks.specs.Beside.{marks_before}
use Rattle.entry_marks.proofs.Before.{before_step, drop_step, found_at}

-- what shows from a position on
abbrev pub from : Desc → Marks → List Entry → List EntryMarks → ℕ → Option Shown
from d m window owns i = operands_shown d m (before_at window i) (marks_before owns i) (drop i window) (drop i owns)

-- what shows from position i on is what shows first in the whole window
abbrev pub ShowsFrom : Desc → Marks → List Entry → List EntryMarks → ℕ → Type 0
ShowsFrom d m window owns i = from d m window owns i ≡ operands_shown d m [] [] window owns

module _ (d : Desc) (m : Marks) (window : List Entry) (owns : List EntryMarks) where
  pub all_from : ShowsFrom d m window owns 0
  all_from = refl

  module _ (step : length owns ≡ length window) (i : ℕ) (e : Entry) (here : slice_get window i ≡ Some e) where
    abbrev shows : Bool
    shows = operand_shows d m (before_at window i) (marks_before owns i) e

    own_here : (own : EntryMarks) × (slice_get owns i ≡ Some own)
    own_here = let within = slice_get_within window i e here in found_at owns i (omega (arith, within, step))

    one_on : from d m window owns i ≡ (if shows then Some (shown_by e) else from d m window owns (i + 1))
    one_on =
        let (own, here2) = own_here in
        ap₂ (operands_shown d m (before_at window i) (marks_before owns i)) (drop_step window i (i + 1) e refl here) (drop_step owns i (i + 1) own refl here2)
        ∙ ap₂ (λ es ms. if shows then Some (shown_by e) else operands_shown d m es ms (drop (i + 1) window) (drop (i + 1) owns))
        (sym (before_step window (i + 1) i e refl here)) (sym (before_step owns (i + 1) i own refl here2))

    -- an entry that shows is what shows first in the whole window
    pub shows_here : (s : Shown) → shows ≡ true → s ≡ shown_by e → ShowsFrom d m window owns i → Some s ≡ operands_shown d m [] [] window owns
    shows_here s q p t = ap Some p ∙ ap (λ b. if b then Some (shown_by e) else from d m window owns (i + 1)) (sym q) ∙ sym one_on ∙ t

    -- an entry that doesn't show is passed
    pub shows_later : shows ≡ false → ShowsFrom d m window owns i → ShowsFrom d m window owns (i + 1)
    shows_later q t = ap (λ b. if b then Some (shown_by e) else from d m window owns (i + 1)) (sym q) ∙ sym one_on ∙ t

  none_left : (before : List Entry) (marks owns : List EntryMarks) → operands_shown d m before marks [] owns ≡ None
  none_left before marks [] = refl
  none_left before marks (own ∷ owns) = refl

  -- behind the last entry nothing shows in the whole window
  pub shows_nowhere : ShowsFrom d m window owns (length window) → None ≡ operands_shown d m [] [] window owns
  shows_nowhere t =
      let n = length window in
      sym (ap (λ es. operands_shown d m (before_at window n) (marks_before owns n) es (drop n owns)) (drop_all n window (omega arith)) ∙ none_left (before_at window n) (marks_before owns n) (drop n owns)) ∙ t
