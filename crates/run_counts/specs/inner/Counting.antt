-- Beside Counted.antt: what only clauses of the code and lemmas cite.
use Rattle.std.specs.Prelude.{◌≡◌, ◌==◌, ◌≤◌, ℕ, zero, suc, ◌+◌, Bool, true, false, not, List, [], ◌∷◌, slice_get, slice_index_or, Option, Some, None, if◌then◌else◌}
use Rattle.std.specs.List.{list_any}
use Rattle.std.specs.Str.{bytes_eq}
use Rattle.window_model.specs.declared.Event.{Event}
use Rattle.window_model.specs.declared.Event.TheVariants.{Sq, Call, Div}
use Rattle.run_counts.specs.Counted.{name_of, further_of, as_told}

-- the event is no division, squash or call: it tells no amount, and adds one to a number that it names by itself,
-- whatever comes before it
abbrev pub is_plain : Event → Bool
is_plain (Div serial time) = false
is_plain (Sq count) = false
is_plain (Call serial count) = false
is_plain _ = true

-- the places of the numbers to which the events add that tell an amount
abbrev pub told_places : List ℕ
told_places = 5 ∷ 6 ∷ 22 ∷ 23 ∷ 29 ∷ 30 ∷ 33 ∷ 34 ∷ []

-- only events that tell no amount add to the number at this place
abbrev pub is_plain_place : ℕ → Bool
is_plain_place place = not (list_any (λ told. place == told) told_places)

-- no number to which only events add that tell no amount is greater than this
pub record AtMost (most : ℕ) (ks : List ℕ) : Type 0 where
  pub each : (place : ℕ) → is_plain_place place ≡ true → slice_index_or ks place 0 ≤ most

-- the event right before a place, if there is one
abbrev pub before_at : ℕ → List Event → Option Event
before_at zero events = None
before_at (suc place) events = slice_get events place

-- the number of this name once so much is added to the one of that name
abbrev pub number_with : List ℕ → List ℕ → ℕ → ℕ → ℕ
number_with name at n k = if bytes_eq at name then as_told (k + n) else k

-- the number of this name once the amount that an event tells, if it tells one, is added to its number
abbrev pub after_further : List ℕ → Option (List ℕ × ℕ) → ℕ → ℕ
after_further name None k = k
after_further name (Some p) k = number_with name p.0 p.1 k

-- the number of this name behind an event
abbrev pub after_event : List ℕ → Option Event → Event → ℕ → ℕ
after_event name before event k = after_further name (further_of event) (number_with name (name_of before event) 1 k)

-- the number of this name behind events that come one after the other
abbrev pub after_events : List ℕ → Option Event → List Event → ℕ → ℕ
after_events name before [] k = k
after_events name before (event ∷ rest) k = after_events name (Some event) rest (after_event name before event k)

-- each number by its name, as this makes it
abbrev pub numbers_by : (List ℕ → ℕ → ℕ) → List (List ℕ) → List ℕ → List ℕ
numbers_by f [] ks = []
numbers_by f (name ∷ rest) [] = []
numbers_by f (name ∷ rest) (k ∷ ks) = f name k ∷ numbers_by f rest ks

-- the numbers of two parts of a run, together
abbrev pub sums : List ℕ → List ℕ → List ℕ
sums [] ys = []
sums (x ∷ xs) [] = []
sums (x ∷ xs) (y ∷ ys) = as_told (x + y) ∷ sums xs ys
