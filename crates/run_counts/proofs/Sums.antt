-- What is counted row by row, or of two parts of a run, is what is counted of the whole run.
use Rattle.std.proofs.Common.{◌≡◌, ℕ, ◌+◌, Bool, true, false, List, [], ◌∷◌, ◌++◌, map, Option, Some, None, refl, ap, ap₂, sym, ◌∙◌, arith}
use Rattle.std.specs.Prelude.{if◌then◌else◌}
use Rattle.std.specs.Str.{bytes_eq}
use Rattle.window_model.specs.declared.Event.{Event}
use Rattle.window_model.specs.Row.{Row}
use Rattle.run_counts.specs.Counted.{names, name_of, further_of, further_amount, added_to, amount, amount_in, number_in, as_told, numbers}
use Rattle.run_counts.specs.inner.Counting.{number_with, after_further, after_event, after_events, numbers_by, sums}
use Rattle.run_counts.proofs.Each.{each_given}

-- what is added to a number as it is told
told_more : (a n : ℕ) → as_told (as_told a + n) ≡ as_told (a + n)
unfolding as_told
told_more a n = omega arith

told_both : (a b : ℕ) → as_told (as_told a + as_told b) ≡ as_told (a + b)
unfolding as_told
told_both a b = omega arith

-- one more addition to a number of which so much was counted
more_counts : (name at : List ℕ) (n a : ℕ) → number_with name at n (as_told a) ≡ as_told (a + added_to name at n)
more_counts name at n a = by (bytes_eq at name)
  where
    by : (b : Bool) → (if b then as_told (as_told a + n) else as_told a) ≡ as_told (a + (if b then n else 0))
    by true = told_more a n
    by false = let z : a ≡ a + 0 = omega arith in ap as_told z

further_counts : (name : List ℕ) (f : Option (List ℕ × ℕ)) (a : ℕ) → after_further name f (as_told a) ≡ as_told (a + further_amount name f)
further_counts name None a = let z : a ≡ a + 0 = omega arith in ap as_told z
further_counts name (Some p) a = more_counts name p.0 p.1 a

-- an event, where so much was counted before
event_counts : (name : List ℕ) (before : Option Event) (event : Event) (a : ℕ) → after_event name before event (as_told a) ≡ as_told (a + amount name before event)
event_counts name before event a =
    let one = added_to name (name_of before event) 1 in
    let rest = further_amount name (further_of event) in
    let sum : (a + one) + rest ≡ a + (one + rest) = omega arith in
    ap (after_further name (further_of event)) (more_counts name (name_of before event) 1 a) ∙ further_counts name (further_of event) (a + one) ∙ ap as_told sum

-- events that come one after the other
events_count : (name : List ℕ) (before : Option Event) (events : List Event) (a : ℕ) → after_events name before events (as_told a) ≡ as_told (a + amount_in name before events)
events_count name before [] a = let z : a ≡ a + 0 = omega arith in ap as_told z
events_count name before (event ∷ rest) a =
    let one = amount name before event in
    let behind = amount_in name (Some event) rest in
    let sum : (a + one) + behind ≡ a + (one + behind) = omega arith in
    ap (after_events name (Some event) rest) (event_counts name before event a) ∙ events_count name (Some event) rest (a + one) ∙ ap as_told sum

-- what is counted of rows and then of others
counted_append : (name : List ℕ) (rows others : List Row) → number_in name (rows ++ others) ≡ number_in name rows + number_in name others
counted_append name [] others = omega arith
counted_append name (row ∷ rest) others =
    let next : number_in name (rest ++ others) ≡ number_in name rest + number_in name others = counted_append name rest others in
    let one = amount_in name None row.events in
    let sum : one + (number_in name rest + number_in name others) ≡ (one + number_in name rest) + number_in name others = omega arith in
    ap (λ n. one + n) next ∙ sum

alike : (f g : List ℕ → ℕ) (names : List (List ℕ)) → ((name : List ℕ) → f name ≡ g name) → map f names ≡ map g names
alike f g [] e = refl
alike f g (name ∷ rest) e = ap₂ (λ x xs. x ∷ xs) (e name) (alike f g rest e)

-- a row is counted behind others
pub row_counted : (rows : List Row) (row : Row) (old new : List ℕ) → new ≡ numbers_by (λ name k. after_events name None row.events k) names old → old ≡ numbers rows
    → new ≡ numbers (rows ++ row ∷ [])
row_counted rows row old new w e =
    w
    ∙ ap (numbers_by (λ name k. after_events name None row.events k) names) e
    ∙ each_given (λ name k. after_events name None row.events k) (λ name. as_told (number_in name rows)) names
    ∙ alike _ _ names
    (λ name.
    let last : amount_in name None row.events + 0 ≡ amount_in name None row.events = omega arith in
    events_count name None row.events (number_in name rows)
    ∙ ap as_told (ap (λ n. number_in name rows + n) (sym last) ∙ sym (counted_append name rows (row ∷ []))))

-- the numbers of two parts, name by name
both_parts : (f g : List ℕ → ℕ) (names : List (List ℕ)) → sums (map (λ name. as_told (f name)) names) (map (λ name. as_told (g name)) names) ≡ map (λ name. as_told (f name + g name)) names
both_parts f g [] = refl
both_parts f g (name ∷ rest) = ap₂ (λ x xs. x ∷ xs) (told_both (f name) (g name)) (both_parts f g rest)

-- the numbers of two parts of a run are added
pub parts_counted : (rows others : List Row) (old added new : List ℕ) → new ≡ sums old added → old ≡ numbers rows → added ≡ numbers others → new ≡ numbers (rows ++ others)
parts_counted rows others old added new w e f =
    w
    ∙ ap₂ sums e f
    ∙ both_parts (λ name. number_in name rows) (λ name. number_in name others) names
    ∙ alike _ _ names (λ name. ap as_told (sym (counted_append name rows others)))
