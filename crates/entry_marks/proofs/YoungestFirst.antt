-- The marks that Issue leaves, on a walk from the youngest entry on: what stands before a position is as it was.
use Rattle.std.proofs.Common.{◌≡◌, ℕ, ◌+◌, Bool, true, false, ◌||◌, ◌&&◌, List, [], ◌∷◌, ◌++◌, length, take, drop, Some, slice_get, slice_set, refl, ap, ap₂, sym, ◌∙◌, arith, append_assoc}
use Rattle.std.specs.Prelude.{reverse, if◌then◌else◌}
use Rattle.std.proofs.lemmas.List.{take_more, length-take-le}
use Rattle.std.proofs.Math.Seq.{set-append_seam, take-append_seam}
use Rattle.std.proofs.lemmas.Option.{get_or_from_slice_get, slice_get_within}
use Rattle.window_model.specs.declared.Entry.{Entry}
use Rattle.window_model.specs.Order.{before_at, sources}
use Rattle.window_model.proofs.Lists.{get_seam}
use Rattle.secret_marks.specs.declared.EntryMarks.{EntryMarks}
use Rattle.secret_marks.specs.declared.WordMarks.{WordMarks}
use Rattle.secret_marks.specs.Words.{either}
use Rattle.secret_marks.specs.Marks.{Marks, goes_mark, is_at, issued_from, issued_marks, second_marks, value_marks}
use Rattle.entry_marks.specs.Beside.{marks_before}
use Rattle.entry_marks.proofs.Before.{before_step, drop_step, found_at}
use Rattle.entry_marks.proofs.Getting.{same_marks}

-- ---- an entry that hasn't issued keeps its marks

neither_left : (a b : Bool) → (a || b) ≡ false → a ≡ false
neither_left true b h = absurd (cc)
neither_left false b h = refl

neither_right : (a b : Bool) → (a || b) ≡ false → b ≡ false
neither_right true b h = absurd (cc)
neither_right false b h = h

kept_word : (b : Bool) (w own : WordMarks) → b ≡ false → (if b then w else own) ≡ own
kept_word true w own h = absurd (cc)
kept_word false w own h = refl

kept_mark : (own b g : Bool) → b ≡ false → (own || b && g) ≡ own
kept_mark true b g h = refl
kept_mark false true g h = absurd (cc)
kept_mark false false g h = refl

module _ (cycle base : ℕ) (m : Marks) where
  -- an entry that doesn't issue, whole or by a part, keeps its marks
  pub keeps : (before : List Entry) (marks : List EntryMarks) (e : Entry) (own : EntryMarks) →
      (is_at cycle e.issued || is_at (cycle + 1) e.data_due) ≡ false → issued_marks cycle base m before marks e own ≡ own
  keeps before marks e own h =
      let issued = neither_left (is_at cycle e.issued) (is_at (cycle + 1) e.data_due) h in
      let stored = neither_right (is_at cycle e.issued) (is_at (cycle + 1) e.data_due) h in
      let r = kept_word (is_at cycle e.issued) (either own.result (value_marks e.item.kind cycle base m before marks e)) own.result issued in
      let g = kept_mark own.goes (is_at cycle e.issued) (goes_mark m before marks e) issued in
      let s = kept_word (is_at (cycle + 1) e.data_due) (either own.stored (second_marks m.regs before marks (sources e))) own.stored stored in
      same_marks _ _ _ _ _ _ r g s

-- ---- the seam of what is walked and what isn't

seam : {A : Type 0} (xs : List A) (k : ℕ) (x : A) → slice_get xs k ≡ Some x → (ys : List A) → take (k + 1) xs ++ ys ≡ take k xs ++ x ∷ ys
seam xs k x at ys =
    ap (λ t. t ++ ys) (take_more xs k x (slice_get_within xs k x at))
    ∙ ap (λ y. (take k xs ++ y ∷ []) ++ ys) (get_or_from_slice_get xs k x x at)
    ∙ append_assoc (take k xs) (x ∷ []) ys

module _ (cycle base : ℕ) (m : Marks) (window : List Entry) (owns : List EntryMarks) where
  -- the marks once the entries from position k on have those with which Issue leaves them
  abbrev pub left_from : ℕ → List EntryMarks
  left_from k = take k owns ++ issued_from cycle base m (before_at window k) (marks_before owns k) (drop k window) (drop k owns)

  module _ (step : length owns ≡ length window) (n k : ℕ) (next : n ≡ k + 1) (e : Entry) (here : slice_get window k ≡ Some e) where
    -- the marks behind position k, with which Issue leaves those entries
    abbrev rest : List EntryMarks
    rest = issued_from cycle base m (before_at window n) (marks_before owns n) (drop n window) (drop n owns)

    own_here : (own : EntryMarks) × (slice_get owns k ≡ Some own)
    own_here = let within = slice_get_within window k e here in found_at owns k (omega (arith, within, step))

    -- the marks that the entry at position k is given
    abbrev given : EntryMarks → EntryMarks
    given own = issued_marks cycle base m (before_at window k) (marks_before owns k) e own

    walked : (own : EntryMarks) → slice_get owns k ≡ Some own → left_from k ≡ take k owns ++ given own ∷ rest
    walked own own_is =
        let es = before_step window n k e next here in
        let ms = before_step owns n k own next own_is in
        ap₂ (λ w o. take k owns ++ issued_from cycle base m (before_at window k) (marks_before owns k) w o) (drop_step window k n e next here) (drop_step owns k n own next own_is)
        ∙ ap₂ (λ b o. take k owns ++ given own ∷ issued_from cycle base m b o (drop n window) (drop n owns)) (sym es) (sym ms)

    unwalked : (own : EntryMarks) → slice_get owns k ≡ Some own → left_from n ≡ take k owns ++ own ∷ rest
    unwalked own own_is = ap (λ j. take j owns ++ rest) next ∙ seam owns k own own_is rest

    count : length (take k owns) ≡ k
    count = let within = slice_get_within window k e here in length-take-le k owns (omega (arith, within, step))

    -- an entry that hasn't issued keeps its marks
    pub stays : (is_at cycle e.issued || is_at (cycle + 1) e.data_due) ≡ false → left_from n ≡ left_from k
    stays h =
        let (own, own_is) = own_here in
        unwalked own own_is
        ∙ ap (λ x. take k owns ++ x ∷ rest) (sym (keeps cycle base m (before_at window k) (marks_before owns k) e own h))
        ∙ sym (walked own own_is)

    -- an entry that has issued gets the marks with which Issue leaves it
    pub gets : (now : List EntryMarks) → now ≡ left_from n →
        (own : EntryMarks) × (slice_get now k ≡ Some own) × (slice_set now k (issued_marks cycle base m (before_at window k) (marks_before now k) e own) ≡ left_from k)
    gets now is =
        let (own, own_is) = own_here in
        let shape = is ∙ unwalked own own_is in
        let at_k : slice_get now k ≡ Some own = ap₂ (λ xs i. slice_get xs i) shape (sym count) ∙ get_seam (take k owns) rest own in
        let older : take k now ≡ take k owns = ap₂ (λ xs i. take i xs) shape (sym count) ∙ take-append_seam (take k owns) (own ∷ rest) in (
          own,
          at_k,
          ap₂ (λ xs b. slice_set xs k (issued_marks cycle base m (before_at window k) b e own)) shape (ap reverse older)
              ∙ ap (λ i. slice_set (take k owns ++ own ∷ rest) i (given own)) (sym count)
              ∙ set-append_seam (take k owns) own rest (given own)
              ∙ sym (walked own own_is),
        )
