-- An entry needs something else from now on: the one in its place alone is another.
use Rattle.std.proofs.Common.{◌≡◌, ◌≢◌, ℕ, zero, suc, ◌<◌, List, [], ◌∷◌, ◌++◌, length, get_or, refl, ap, ap₂, sym, subst, ◌∙◌, arith, inl, inr}
use Rattle.std.specs.Prelude.{IsPermutation}
use Rattle.std.specs.List.{AllPairs, range_with_len}
use Rattle.std.proofs.lemmas.Bool.{cases_eq}
use Rattle.std.proofs.lemmas.List.{get_or_append_left, length-append}
use Rattle.stations.specs.declared.occupant.Occupant.{Occupant}
use Rattle.stations.specs.declared.wants.Wants.{Wants}
use Rattle.stations.specs.Stations.{Rise, Station, left_wanting}
use Rattle.stations.specs.Places.{NotesWaiters, Placed, awaits_in, held_of, nobody, station, wanting}
use Rattle.stations.proofs.Numbers.{all_differ}

-- ---- what is left as it was

-- there are as many stations once one of them wants something else
pub length_left : (i : ℕ) (next : Wants) (held : List Station) → length (left_wanting i next held) ≡ length held
length_left i next [] = refl
length_left zero next (s ∷ held) = refl
length_left (suc i) next (s ∷ held) = ap suc (length_left i next held)

-- every station keeps its serial, once one of them wants something else
serial_left : (i : ℕ) (next : Wants) (held : List Station) (k : ℕ) (d : Station) → (get_or (left_wanting i next held) k d).serial ≡ (get_or held k d).serial
serial_left i next [] k d = refl
serial_left zero next (s ∷ held) zero d = refl
serial_left zero next (s ∷ held) (suc k) d = refl
serial_left (suc i) next (s ∷ held) zero d = refl
serial_left (suc i) next (s ∷ held) (suc k) d = serial_left i next held k d

rise_left : (i : ℕ) (next : Wants) (held : List Station) → Rise held → Rise (left_wanting i next held)
rise_left i next held r j k d lt l =
    let long = length_left i next held in
    let a = serial_left i next held j d in
    let b = serial_left i next held k d in
    let c = r j k d lt (omega arith) in
    omega (arith, a, b, c)

-- ---- the place that is left

module _ (places places2 : List Occupant) (p : ℕ) (next : Wants) (here : get_or places2 p nobody ≡ wanting next (get_or places p nobody)) (others : (q : ℕ) → q ≢ p → get_or places2 q nobody ≡ get_or places q nobody) where
  held_others : (ages : List ℕ) → ((k d : ℕ) → k < length ages → get_or ages k d ≢ p) → held_of places2 ages ≡ held_of places ages
  held_others [] apart = refl
  held_others (q ∷ ages) apart =
      ap₂ (λ o ss. station q o ∷ ss) (others q (apart 0 0 (omega arith))) (held_others ages (λ k d lt. apart (suc k) d (omega (arith, lt))))

  -- the entry whose place it is needs the other thing
  pub held_left : (ages : List ℕ) (i : ℕ) → AllPairs (λ a b. a ≢ b) ages → i < length ages → p ≡ get_or ages i p → held_of places2 ages ≡ left_wanting i next (held_of places ages)
  held_left [] i differ lt at = absurd (omega (arith, lt))
  held_left (q ∷ ages) zero differ lt at =
      ap₂ (λ o ss. station q o ∷ ss) (ap (λ k. get_or places2 k nobody) (sym at) ∙ here ∙ ap (λ k. wanting next (get_or places k nobody)) at)
      (held_others ages (λ k d l same. differ 0 (suc k) d (omega arith) (omega (arith, l)) (sym at ∙ sym same)))
  held_left (q ∷ ages) (suc i) differ lt at =
      ap₂ (λ o ss. station q o ∷ ss) (others q (λ same. differ 0 (suc i) p (omega arith) (omega (arith, lt)) (same ∙ at)))
      (held_left ages i (λ j k d l m. differ (suc j) (suc k) d (omega (arith, l)) (omega (arith, m))) (omega (arith, lt)) at)

  -- the words that tell who awaits a serial do so still, once a station wants something else
  pub noted_left : (waiters : List ℕ) → NotesWaiters places waiters → NotesWaiters places2 waiters
  noted_left waiters m group q h = elim (cases_eq q p) [
    | inl same ↦ m group q (sym (ap (awaits_in group) (ap (λ k. get_or places2 k nobody) same ∙ here ∙ ap (λ k. wanting next (get_or places k nobody)) (sym same))) ∙ h)
    | inr ne ↦ m group q (sym (ap (awaits_in group) (others q ne)) ∙ h)
  ]

-- the places that are taken differ from one another
pub taken_differ : (room : ℕ) (ages free : List ℕ) → IsPermutation (range_with_len 0 room) (ages ++ free) → AllPairs (λ a b. a ≢ b) ages
taken_differ room ages free once i j d lt l same =
    let all = length-append ages free in
    all_differ room (ages ++ free) once i j d lt (omega arith)
    (get_or_append_left ages free d i (omega arith) ∙ same ∙ sym (get_or_append_left ages free d j l))

pub placed_left : (i : ℕ) (next : Wants) (places places2 : List Occupant) (ages free : List ℕ) → Placed places ages free → length places2 ≡ length places → held_of places2 ages ≡ left_wanting i next (held_of places ages) → Placed places2 ages free
placed_left i next places places2 ages free s long held = record {
  once = subst (λ n. IsPermutation (range_with_len 0 n) (ages ++ free)) (sym long) s.once;
  rise = subst Rise (sym held) (rise_left i next (held_of places ages) s.rise);
}
