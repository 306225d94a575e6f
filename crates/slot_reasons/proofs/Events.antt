-- Events that come one after the other, walked over.
use Rattle.std.proofs.Common.{◌≡◌, ℕ, zero, suc, ◌+◌, ◌<◌, ◌≤◌, arith, List, [], ◌∷◌, ◌++◌, length, map, drop, get_or, Some, None, refl, ap, ap₂, sym, ◌∙◌, drop-cons, add-one}
use Rattle.std.specs.Prelude.{slice_get}
use Rattle.window_model.specs.declared.Event.{Event}
use Rattle.window_model.specs.Row.{Row}
use Rattle.run_counts.specs.Counted.{names, numbers}
use Rattle.run_counts.specs.inner.Counting.{after_event, after_events, before_at, numbers_by}
use Rattle.run_counts.proofs.Distinct.{names_length}
use Rattle.run_counts.proofs.Events.{next_event, last_event}
use Rattle.run_counts.proofs.Sums.{row_counted}
use Rattle.slot_reasons.specs.declared.Walked.{Walked}
use Rattle.slot_reasons.specs.inner.Walked.{has_bit}
use Rattle.slot_reasons.specs.Reasons.{walk, walk_on}

-- ---- What is known

-- the event at a place, and those behind it
at_place : (events : List Event) (i : ℕ) (d : Event) → i < length events → drop i events ≡ get_or events i d ∷ drop (i + 1) events
at_place events i d l = drop-cons events i d l ∙ ap (λ k. get_or events i d ∷ drop k events) (sym (add-one i))

-- the event at a place
pub at_get : (events : List Event) (i : ℕ) (d : Event) → i < length events → slice_get events i ≡ Some (get_or events i d)
at_get [] i d l = absurd (omega (arith, l))
at_get (e ∷ es) zero d l = refl
at_get (e ∷ es) (suc i) d l = let r : i < length es = omega (arith, l) in at_get es i d r

-- what comes right behind the event at a place
pub next_before : (events : List Event) (i : ℕ) (d : Event) → i < length events → before_at (i + 1) events ≡ Some (get_or events i d)
next_before events i d l = ap (λ k. before_at k events) (add-one i) ∙ at_get events i d l

-- one more event is behind
pub next_walked : (events : List Event) (i : ℕ) (d : Event) (w w' : Walked) → i < length events
    → w' ≡ walk_on (has_bit (before_at i events)) (get_or events i d) w
    → walk (has_bit (before_at (i + 1) events)) (drop (i + 1) events) w' ≡ walk (has_bit (before_at i events)) (drop i events) w
next_walked events i d w w' l e =
    ap₂ (λ b r. walk b (drop (i + 1) events) r) (ap has_bit (next_before events i d l)) e
    ∙ sym (ap (λ es. walk (has_bit (before_at i events)) es w) (at_place events i d l))

-- ---- What is counted

-- one more event is counted
pub next_counted : (events : List Event) (i : ℕ) (d : Event) (ks new : List ℕ) → i < length events
    → new ≡ numbers_by (λ name k. after_event name (before_at i events) (get_or events i d) k) names ks
    → numbers_by (λ name k. after_events name (before_at (i + 1) events) (drop (i + 1) events) k) names new
    ≡ numbers_by (λ name k. after_events name (before_at i events) (drop i events) k) names ks
next_counted events i d ks new l e =
    ap (λ b. numbers_by (λ name k. after_events name b (drop (i + 1) events) k) names new) (next_before events i d l)
    ∙ next_event events i d (before_at i events) ks new l e

-- as many numbers stay as there were
many_stay : (f : List ℕ → ℕ → ℕ) (ns : List (List ℕ)) (ks : List ℕ) → length ks ≡ length ns → length (numbers_by f ns ks) ≡ length ks
many_stay f [] [] e = refl
many_stay f [] (k ∷ ks) e = absurd (omega (arith, e))
many_stay f (name ∷ rest) [] e = refl
many_stay f (name ∷ rest) (k ∷ ks) e = let l : length ks ≡ length rest = omega (arith, e) in ap suc (many_stay f rest ks l)

pub next_many : (events : List Event) (i : ℕ) (d : Event) (ks new : List ℕ) → i < length events
    → new ≡ numbers_by (λ name k. after_event name (before_at i events) (get_or events i d) k) names ks
    → length ks ≡ 35 → length new ≡ 35
next_many events i d ks new l e n =
    ap length e ∙ many_stay (λ name k. after_event name (before_at i events) (get_or events i d) k) names ks (n ∙ sym names_length) ∙ n

-- all names have a number
all_numbered : (f : List ℕ → ℕ) (ns : List (List ℕ)) → length (map f ns) ≡ length ns
all_numbered f [] = refl
all_numbered f (name ∷ rest) = ap suc (all_numbered f rest)

-- all events of a row are counted
pub row_walked : (rows : List Row) (row : Row) (events : List Event) (i : ℕ) (old new : List ℕ) → length events ≤ i → events ≡ row.events
    → numbers_by (λ name k. after_events name (before_at i events) (drop i events) k) names new ≡ numbers_by (λ name k. after_events name None events k) names old
    → (length old ≡ 35 → length new ≡ 35) → old ≡ numbers rows → new ≡ numbers (rows ++ row ∷ [])
row_walked rows row events i old new l v w n e =
    let long : length old ≡ 35 = ap length e ∙ all_numbered _ names ∙ names_length in
    row_counted rows row old new
    (sym (last_event events i (before_at i events) new l (n long)) ∙ w ∙ ap (λ es. numbers_by (λ name k. after_events name None es k) names old) v)
    e
