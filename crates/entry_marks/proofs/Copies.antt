-- What is copied of the oldest entries, and how their marks move once they have left.
use Rattle.std.proofs.Common.{◌≡◌, ℕ, zero, suc, ◌+◌, ◌-◌, ◌<◌, ◌≤◌, Bool, true, false, List, [], ◌∷◌, ◌++◌, length, drop, Some, slice_get, refl, ap, ap₂, subst, ◌∙◌, ◌⊎◌, inl, inr, arith}
use Rattle.std.specs.Prelude.{min, if◌then◌else◌}
use Rattle.std.proofs.lemmas.List.{length-drop}
use Rattle.window_model.specs.declared.Entry.{Entry}
use Rattle.window_model.specs.Order.{is_done}
use Rattle.secret_marks.specs.declared.EntryMarks.{EntryMarks}
use Rattle.secret_marks.specs.Marks.{Marks, leaves_as, marks_after_leaving}
use Rattle.secret_marks.proofs.Retire.{left_none}
use Rattle.entry_marks.specs.declared.oldest.LeavingEntry.{LeavingEntry}
use Rattle.entry_marks.specs.Oldest.{IsCopied, done_heads}
use Rattle.entry_marks.proofs.Before.{drop_step}

-- ---- copies are added one by one

-- an element of a list with one more is an earlier one, or the new one
one_more : {A : Type 0} (xs : List A) (x : A) (i : ℕ) (y : A) → slice_get (xs ++ x ∷ []) i ≡ Some y → (slice_get xs i ≡ Some y) ⊎ ((i ≡ length xs) × (x ≡ y))
one_more [] x zero y h = inr (refl, cc)
one_more [] x (suc i) y h = absurd (cc)
one_more (z ∷ xs) x zero y h = inl h
one_more (z ∷ xs) x (suc i) y h = elim (one_more xs x i y h) [
  | inl older ↦ inl older
  | inr it ↦ inr (ap suc it.0, it.1)
]

module _ (window : List Entry) (marks : List EntryMarks) where
  -- every element is the copy of the entry and its marks at the element's position
  abbrev pub Copies : List LeavingEntry → Type 0
  Copies copies = (i : ℕ) (e : Entry) (mark : EntryMarks) (copy : LeavingEntry) →
      slice_get window i ≡ Some e → slice_get marks i ≡ Some mark → slice_get copies i ≡ Some copy → IsCopied e mark copy

  pub copied_more : (copies : List LeavingEntry) (k : ℕ) (e : Entry) (mark : EntryMarks) (copy : LeavingEntry) → length copies ≡ k →
      slice_get window k ≡ Some e → slice_get marks k ≡ Some mark → IsCopied e mark copy → Copies copies → Copies (copies ++ copy ∷ [])
  copied_more copies k e mark copy count here here2 it older = λ i e2 mark2 copy2 at at2 at3. elim (one_more copies copy i copy2 at3) [
    | inl h ↦ older i e2 mark2 copy2 at at2 h
    | inr h ↦
        let same : i ≡ k = h.0 ∙ count in
        let entry : e ≡ e2 = cc in
        let its : mark ≡ mark2 = cc in
        subst (λ e. IsCopied e mark2 copy2) entry (subst (λ mark. IsCopied e mark copy2) its (subst (λ copy. IsCopied e mark copy) (h.1) it))
  ]

-- ---- how many of the oldest entries are Done

few_on : (b : Bool) (n m : ℕ) → n ≤ m → (if b then suc n else 0) ≤ suc m
few_on true n m h = omega (arith, h)
few_on false n m h = omega arith

-- no more entries are Done than there are
pub few_done : (window : List Entry) → done_heads window ≤ length window
few_done [] = omega arith
few_done (e ∷ window) = few_on (is_done e.state) (done_heads window) (length window) (few_done window)

module _ (window : List Entry) (i : ℕ) where
  -- the first i entries are Done, and the others are left to count
  abbrev pub Counted : Type 0
  Counted = i + done_heads (drop i window) ≡ done_heads window

  module _ (e : Entry) (here : slice_get window i ≡ Some e) where
    done_on : (b : Bool) → is_done e.state ≡ b → done_heads (drop i window) ≡ (if b then suc (done_heads (drop (i + 1) window)) else 0)
    done_on b q =
        ap done_heads (drop_step window i (i + 1) e refl here)
        ∙ ap (λ b. if b then suc (done_heads (drop (i + 1) window)) else 0) q

    -- an entry that is Done is counted
    pub one_counted : is_done e.state ≡ true → Counted → (i + 1) + done_heads (drop (i + 1) window) ≡ done_heads window
    one_counted q was = let on = done_on true q in omega (arith, on, was)

    -- an entry that isn't Done ends the count
    pub ends_count : is_done e.state ≡ false → Counted → done_heads window ≡ i
    ends_count q was = let on = done_on false q in omega (arith, on, was)

  -- where the window or the room is over the count is as many as were copied
  pub all_counted : i ≡ min (length window) 4 → Counted → i ≡ min (done_heads window) 4
  all_counted end was =
      let few = few_done (drop i window) in
      let rest = length-drop i window in
      omega (arith, end, was, few, rest)

-- ---- entries leave, the oldest first

pub leaves_next : (base count : ℕ) (window : List Entry) (marks : List EntryMarks) (m : Marks) (k : ℕ) (e : Entry) (mark : EntryMarks) → k < count →
    slice_get window k ≡ Some e → slice_get marks k ≡ Some mark →
    marks_after_leaving base (count - k) (drop k window) m (drop k marks)
    ≡ marks_after_leaving base (count - (k + 1)) (drop (k + 1) window) (leaves_as e.item.kind base e mark (drop (k + 1) marks) m) (drop (k + 1) marks)
leaves_next base count window marks m k e mark lt here here2 =
    let more : count - k ≡ suc (count - (k + 1)) = omega (arith, lt) in
    ap (λ n. marks_after_leaving base n (drop k window) m (drop k marks)) more
    ∙ ap₂ (λ w o. marks_after_leaving base (suc (count - (k + 1))) w m o) (drop_step window k (k + 1) e refl here) (drop_step marks k (k + 1) mark refl here2)

-- where no entry leaves, the marks are as they were
pub none_leaves : (base n : ℕ) (window : List Entry) (m : Marks) (marks : List EntryMarks) → n ≡ 0 → marks_after_leaving base n window m marks ≡ m
none_leaves base n window m marks none = ap (λ n. marks_after_leaving base n window m marks) none ∙ left_none base window m marks
