-- The entries that have issued, by the positions that name them, from the youngest on.
use Rattle.std.proofs.Common.{◌≡◌, ℕ, zero, suc, ◌+◌, ◌-◌, ◌<◌, ◌≤◌, Bool, true, false, List, ◌++◌, length, take, drop, get_or, Some, slice_get, ap, refl, ◌∙◌, inl, inr, arith, append-nil}
use Rattle.std.proofs.Math.Nat.{eq-or-lt_of_le}
use Rattle.std.proofs.lemmas.Bool.{cases_lt}
use Rattle.std.proofs.lemmas.List.{drop_all, get_or_default, take_all}
use Rattle.window_model.specs.declared.Entry.{Entry}
use Rattle.window_model.specs.Order.{before_at}
use Rattle.secret_marks.specs.declared.EntryMarks.{EntryMarks}
use Rattle.secret_marks.specs.Marks.{Marks, issued_from}
use Rattle.entry_marks.specs.Beside.{marks_before}
use Rattle.entry_marks.specs.IssuedNow.{NamesEachIssued, has_issued}
use Rattle.entry_marks.proofs.Before.{found_at}
use Rattle.entry_marks.proofs.YoungestFirst.{left_from, stays}

if_never : (b : Bool) → (b ≡ true → ⊥) → b ≡ false
if_never true h = absurd (h refl)
if_never false h = refl

module _ (cycle base : ℕ) (m : Marks) (window : List Entry) (owns : List EntryMarks) (step : length owns ≡ length window) where
  -- entries from a position on that haven't issued keep their marks
  stay_between : (more k : ℕ) → k + more ≤ length window → ((j : ℕ) (e : Entry) → k ≤ j → j < k + more → slice_get window j ≡ Some e → has_issued cycle e ≡ false) →
      left_from cycle base m window owns (k + more) ≡ left_from cycle base m window owns k
  stay_between zero k le h = ap (left_from cycle base m window owns) (omega arith)
  stay_between (suc more) k le h =
      let (e, here) = found_at window (k + more) (omega (arith, le)) in
      stays cycle base m window owns step (k + suc more) (k + more) (omega arith) e here (h (k + more) e (omega arith) (omega arith) here)
      ∙ stay_between more k (omega (arith, le)) (λ j e low high. h j e low (omega (arith, high)))

  -- entries from one position up to another that haven't issued keep their marks
  pub stay_to : (low n : ℕ) → low ≤ n → n ≤ length window → ((j : ℕ) (e : Entry) → low ≤ j → j < n → slice_get window j ≡ Some e → has_issued cycle e ≡ false) →
      left_from cycle base m window owns n ≡ left_from cycle base m window owns low
  stay_to low n le within h =
      let same : n ≡ low + (n - low) = omega (arith, le) in
      ap (left_from cycle base m window owns) same
      ∙ stay_between (n - low) low (omega (arith, le, within)) (λ j e from to. h j e from (omega (arith, to, le)))

  -- where no entry is walked yet all have their marks
  pub none_walked : left_from cycle base m window owns (length window) ≡ owns
  none_walked =
      let n = length window in
      ap (λ w. take n owns ++ issued_from cycle base m (before_at window n) (marks_before owns n) w (drop n owns)) (drop_all n window (omega arith))
      ∙ ap (λ os. take n owns ++ os) (drop_all n owns (omega (arith, step)))
      ∙ append-nil (take n owns)
      ∙ take_all n owns (omega (arith, step))

-- ---- where the positions that are left end

-- the position behind the youngest entry that the first k positions name, 0 where there are none
abbrev pub behind : List ℕ → ℕ → ℕ
behind positions zero = 0
behind positions (suc k) = get_or positions k 0 + 1

-- that position, by the last of them
pub behind_last : (positions : List ℕ) (k n : ℕ) → k ≡ n + 1 → behind positions k ≡ get_or positions n 0 + 1
behind_last positions k n e = let next : k ≡ suc n = omega (arith, e) in ap (behind positions) next

module _ (cycle : ℕ) (window : List Entry) (positions : List ℕ) (named : NamesEachIssued cycle window positions) where
  in_order : (m k : ℕ) → m ≤ k → k < length positions → get_or positions m 0 ≤ get_or positions k 0
  in_order m k le lt = elim (eq-or-lt_of_le {n = m} {m = k} le) [
    | inl same ↦ let e = ap (λ k. get_or positions k 0) same in omega (arith, e)
    | inr less ↦ let up = named.by_age m k 0 less lt in omega (arith, up)
  ]

  -- a named entry stands before the position behind its own and those of older ones
  stands_before : (m k : ℕ) → m < k → k ≤ length positions → get_or positions m 0 < behind positions k
  stands_before m zero lt le = absurd (omega (arith, lt))
  stands_before m (suc k) lt le = let up = in_order m k (omega (arith, lt)) (omega (arith, le)) in omega (arith, up)

  -- the next named entry stands behind the older ones
  pub behind_older : (k : ℕ) → k < length positions → behind positions k ≤ get_or positions k 0
  behind_older zero lt = omega arith
  behind_older (suc k) lt = let up = named.by_age k (suc k) 0 (omega arith) lt in omega (arith, up)

  -- a named entry stands in the window
  pub stands_within : (k : ℕ) → k < length positions → get_or positions k 0 < length window
  stands_within k lt = named.within k 0 lt

  -- the position behind the older ones lies in the window, or ends it
  pub behind_within : (k : ℕ) → k ≤ length positions → behind positions k ≤ length window
  behind_within zero le = omega arith
  behind_within (suc k) le = let lt = stands_within k (omega (arith, le)) in omega (arith, lt)

  -- no entry between a named one and the next has issued
  pub none_between : (k : ℕ) → k ≤ length positions → (j : ℕ) (e : Entry) → behind positions k ≤ j → (k < length positions → j < get_or positions k 0) → slice_get window j ≡ Some e → has_issued cycle e ≡ false
  none_between k le j e low high here = if_never (has_issued cycle e) (λ h.
      let found = named.each j e here h in
      let m = found.0 in
      let within : m < length positions = found.1 in
      let at : get_or positions m 0 ≡ j = get_or_default positions m 0 j within ∙ found.2 in
      elim (cases_lt m k) [
        | inl lt ↦ let up = stands_before m k lt le in absurd (omega (arith, up, at, low))
        | inr later ↦ let up = in_order k m later within in let down = high (omega (arith, later, within)) in absurd (omega (arith, up, at, down))
      ])
