-- What an event adds, and then those that come behind it.
use Rattle.std.proofs.Common.{◌≡◌, ℕ, ◌+◌, ◌<◌, ◌≤◌, List, ◌∷◌, length, drop, get_or, Option, Some, None, ap, sym, ◌∙◌, drop-cons, add-one}
use Rattle.std.proofs.lemmas.List.{drop_all}
use Rattle.window_model.specs.declared.Event.{Event}
use Rattle.run_counts.specs.Counted.{names, name_of, further_of}
use Rattle.run_counts.specs.inner.Counting.{numbers_by, number_with, after_further, after_event, after_events}
use Rattle.run_counts.proofs.Each.{each_twice, each_alike}
use Rattle.run_counts.proofs.Distinct.{numbers_stay}

module _ (before : Option Event) (event : Event) (old : List ℕ) where
  -- an event that tells no amount
  pub added_once : (new : List ℕ) → new ≡ numbers_by (λ name k. number_with name (name_of before event) 1 k) names old → further_of event ≡ None
      → new ≡ numbers_by (λ name k. after_event name before event k) names old
  added_once new e h = e ∙ each_alike _ _ names old (λ name k. ap (λ f. after_further name f (number_with name (name_of before event) 1 k)) (sym h))

  -- an event that tells an amount
  pub added_twice : (mid new : List ℕ) (at : List ℕ) (n : ℕ) → mid ≡ numbers_by (λ name k. number_with name (name_of before event) 1 k) names old → new ≡ numbers_by (λ name k. number_with name at n k) names mid
      → further_of event ≡ Some (at, n) → new ≡ numbers_by (λ name k. after_event name before event k) names old
  added_twice mid new at n e f h =
      f
      ∙ ap (λ ks. numbers_by (λ name k. number_with name at n k) names ks) e
      ∙ each_twice (λ name k. number_with name at n k) (λ name k. number_with name (name_of before event) 1 k) names old
      ∙ each_alike _ _ names old (λ name k. ap (λ f. after_further name f (number_with name (name_of before event) 1 k)) (sym h))

-- the event at a place, and those behind it
pub next_event : (events : List Event) (i : ℕ) (d : Event) (before : Option Event) (ks new : List ℕ) → i < length events
    → new ≡ numbers_by (λ name k. after_event name before (get_or events i d) k) names ks
    → numbers_by (λ name k. after_events name (Some (get_or events i d)) (drop (i + 1) events) k) names new ≡ numbers_by (λ name k. after_events name before (drop i events) k) names ks
next_event events i d before ks new l e =
    let event = get_or events i d in
    let rest = drop-cons events i d l ∙ ap (λ k. event ∷ drop k events) (sym (add-one i)) in
    ap (λ ks. numbers_by (λ name k. after_events name (Some event) (drop (i + 1) events) k) names ks) e
    ∙ each_twice (λ name k. after_events name (Some event) (drop (i + 1) events) k) (λ name k. after_event name before event k) names ks
    ∙ ap (λ es. numbers_by (λ name k. after_events name before es k) names ks) (sym rest)

-- behind the last event the numbers stay
pub last_event : (events : List Event) (i : ℕ) (before : Option Event) (ks : List ℕ) → length events ≤ i → length ks ≡ 35
    → numbers_by (λ name k. after_events name before (drop i events) k) names ks ≡ ks
last_event events i before ks l long = ap (λ es. numbers_by (λ name k. after_events name before es k) names ks) (drop_all i events l) ∙ numbers_stay ks long
