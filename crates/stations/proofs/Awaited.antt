-- The words that tell who may await a serial, as entries come and wake.
use Rattle.std.proofs.Common.{◌≡◌, ◌≢◌, ℕ, ◌%◌, ◌+◌, ◌<◌, ◌≤◌, Bool, true, false, List, length, get_or, set, Option, Some, None, refl, ap, ap₂, sym, ◌∙◌, arith, inl, inr, ⊎_elim}
use mathlib.Core.Bool.{true≢false}
use Rattle.std.specs.Prelude.{◌==◌, ◌||◌, if◌then◌else◌}
use Rattle.std.specs.Int.{bit_at}
use Rattle.std.proofs.lemmas.Bool.{cases_Bool, cases_eq, cases_lt, eq-eqb}
use Rattle.std.proofs.lemmas.Bool.Decides.{eqb_tells}
use Rattle.std.proofs.lemmas.List.{get_or_past, get_or-set_same, get_or-set_other}
use Rattle.word_bits.specs.Bits.{IsFirstBit}
use Rattle.stations.specs.declared.occupant.Occupant.{Occupant}
use Rattle.stations.specs.Stations.{strike}
use Rattle.stations.specs.Places.{NotesWaiters, awaits_in, is_in, nobody, after_wakeup}

pub neither : (a b : Bool) → (a || b) ≡ false → (a ≡ false) × (b ≡ false)
neither true b h = absurd (cc)
neither false b h = (refl, h)

-- an entry that awaits no serial of a group isn't changed by a serial of it
strike_other : (serial : ℕ) (a : Option ℕ) → is_in (serial % 256) a ≡ false → strike serial a ≡ a
strike_other serial None h = refl
strike_other serial (Some s) h =
    ⊎_elim
    (λ same. absurd (let t : (s % 256 == serial % 256) ≡ true = eq-eqb (s % 256) (serial % 256) (ap (λ n. n % 256) same.1) in cc))
    (λ other. ap (λ b. if b then None else Some s) other.0)
    (eqb_tells s serial)

woken_other : (serial : ℕ) (o : Occupant) → awaits_in (serial % 256) o ≡ false → after_wakeup serial o ≡ o
woken_other serial o h =
    let none = neither _ _ h in
    ap₂ (λ a b. record o { first = a; second = b }) (strike_other serial o.first none.0) (strike_other serial o.second none.1)

-- an entry that awaits something has a place
in_place : (group p : ℕ) (places : List Occupant) → awaits_in group (get_or places p nobody) ≡ true → p < length places
in_place group p places h = elim (cases_lt p (length places)) [
  | inl lt ↦ lt
  | inr past ↦ absurd (let none = ap (awaits_in group) (get_or_past places p nobody past) in cc)
]

-- an entry that comes into a place is noted there
pub noted_push : (places : List Occupant) (waiters waiters2 : List ℕ) (place : ℕ) (o : Occupant) → place < length places → length places ≤ 128 → NotesWaiters places waiters →
    ((group : ℕ) → awaits_in group o ≡ true → bit_at (get_or waiters2 group 0) place ≡ 1) →
    ((group p : ℕ) → p < 128 → bit_at (get_or waiters group 0) p ≡ 1 → bit_at (get_or waiters2 group 0) p ≡ 1) → NotesWaiters (set places place o) waiters2
noted_push places waiters waiters2 place o lt few m here others group p h = elim (cases_eq p place) [
  | inl q ↦ ap (bit_at (get_or waiters2 group 0)) q
      ∙ here group (sym (ap (awaits_in group) (ap (λ k. get_or (set places place o) k nobody) q ∙ get_or-set_same places place o nobody lt)) ∙ h)
  | inr ne ↦
      let was : awaits_in group (get_or places p nobody) ≡ true = sym (ap (awaits_in group) (get_or-set_other places place p o nobody ne)) ∙ h in
      let low = in_place group p places was in
      others group p (omega (arith, low, few)) (m group p was)
]

or_less : (a b a2 b2 : Bool) → (a ≡ true → a2 ≡ true) → (b ≡ true → b2 ≡ true) → (a || b) ≡ true → (a2 || b2) ≡ true
or_less true b a2 b2 f g h = ap (λ x. x || b2) (f refl)
or_less false b true b2 f g h = refl
or_less false b false b2 f g h = g h

struck_by : (b : Bool) (group s : ℕ) → is_in group (if b then None else Some s) ≡ true → is_in group (Some s) ≡ true
struck_by true group s h = absurd (cc)
struck_by false group s h = h

struck_less : (group serial : ℕ) (a : Option ℕ) → is_in group (strike serial a) ≡ true → is_in group a ≡ true
struck_less group serial None h = h
struck_less group serial (Some s) h = struck_by (s == serial) group s h

-- what an entry awaits when it awaits a serial no longer it awaited before
woken_less : (group serial : ℕ) (o : Occupant) → awaits_in group (after_wakeup serial o) ≡ true → awaits_in group o ≡ true
woken_less group serial o h = or_less _ _ _ _ (struck_less group serial o.first) (struck_less group serial o.second) h

-- an entry in its place awaits a serial no longer
module _ (serial : ℕ) (places : List Occupant) (place : ℕ) (o : Occupant) (lt : place < length places) (woke : o ≡ after_wakeup serial (get_or places place nobody)) where
  -- the words that have a bit for each place that awaits their group still do, once an entry awaits a serial less
  pub noted_woken : (waiters : List ℕ) → NotesWaiters places waiters → NotesWaiters (set places place o) waiters
  noted_woken waiters m group p h = elim (cases_eq p place) [
    | inl q ↦
        let now : awaits_in group o ≡ true =
        sym (ap (awaits_in group) (ap (λ k. get_or (set places place o) k nobody) q ∙ get_or-set_same places place o nobody lt)) ∙ h in
        let was : awaits_in group (get_or places place nobody) ≡ true = woken_less group serial (get_or places place nobody) (sym (ap (awaits_in group) woke) ∙ now) in
        m group p (ap (λ k. awaits_in group (get_or places k nobody)) q ∙ was)
    | inr ne ↦ m group p (sym (ap (awaits_in group) (get_or-set_other places place p o nobody ne)) ∙ h)
  ]

  -- a word still has a bit for each place that awaits its group, where the bit of a place that awaits none of the group
  -- goes
  pub noted_out : (waiters : List ℕ) (group word : ℕ) → group < length waiters → length places ≤ 128 → awaits_in group o ≡ false →
      ((p : ℕ) → p < 128 → p ≢ place → bit_at word p ≡ bit_at (get_or waiters group 0) p) → NotesWaiters places waiters →
      NotesWaiters (set places place o) (set waiters group word)
  noted_out waiters group word low few none others m g p h = elim (cases_eq g group) [
    | inl same ↦
        let there : awaits_in group (get_or (set places place o) p nobody) ≡ true = ap (λ k. awaits_in k (get_or (set places place o) p nobody)) (sym same) ∙ h in
        let ne : p ≡ place → ⊥ = λ q.
        let here : awaits_in group (get_or (set places place o) p nobody) ≡ awaits_in group o =
        ap (awaits_in group) (ap (λ k. get_or (set places place o) k nobody) q ∙ get_or-set_same places place o nobody lt) in
        true≢false (sym there ∙ here ∙ none) in
        let p_low = in_place group p places (sym (ap (awaits_in group) (get_or-set_other places place p o nobody ne)) ∙ there) in
        ap (λ w. bit_at w p) (ap (λ k. get_or (set waiters group word) k 0) same ∙ get_or-set_same waiters group word 0 low)
        ∙ others p (omega (arith, p_low, few)) ne ∙ ap (λ k. bit_at (get_or waiters k 0) p) (sym same) ∙ noted_woken waiters m g p h
    | inr other ↦ ap (λ w. bit_at w p) (get_or-set_other waiters group g word 0 other) ∙ noted_woken waiters m g p h
  ]

-- the places are woken up to one from which on they are as they were
module _ (serial : ℕ) (old places : List Occupant) (waiters : List ℕ) (from room : ℕ) (long : room ≡ length places) (m : NotesWaiters places waiters)
    (woken_so_far : (p : ℕ) → p < from → get_or places p nobody ≡ after_wakeup serial (get_or old p nobody)) (rest : (p : ℕ) → from ≤ p → get_or places p nobody ≡ get_or old p nobody) where
  unnoted : (p : ℕ) → (p < room → bit_at (get_or waiters (serial % 256) 0) p ≡ 0) → awaits_in (serial % 256) (get_or places p nobody) ≡ false
  unnoted p none =
      ⊎_elim
      (λ (h : awaits_in (serial % 256) (get_or places p nobody) ≡ true).
      absurd (let lt = in_place (serial % 256) p places h in let one = m (serial % 256) p h in let zero = none (omega (arith, lt, long)) in omega (arith, one, zero)))
      (λ h. h)
      (cases_Bool (awaits_in (serial % 256) (get_or places p nobody)))

  as_it_was : (p : ℕ) → from ≤ p → (p < room → bit_at (get_or waiters (serial % 256) 0) p ≡ 0) → get_or places p nobody ≡ after_wakeup serial (get_or old p nobody)
  as_it_was p low none = rest p low ∙ sym (woken_other serial (get_or old p nobody) (sym (ap (awaits_in (serial % 256)) (rest p low)) ∙ unnoted p none))

  pub woken_one : (places2 : List Occupant) (place : ℕ) → IsFirstBit (bit_at (get_or waiters (serial % 256) 0)) from room place →
      get_or places2 place nobody ≡ after_wakeup serial (get_or places place nobody) → ((p : ℕ) → p ≢ place → get_or places2 p nobody ≡ get_or places p nobody) →
      (p : ℕ) → p < place + 1 → get_or places2 p nobody ≡ after_wakeup serial (get_or old p nobody)
  woken_one places2 place next here others p lt = elim (cases_eq p place) [
    | inl q ↦ let low = next.low in
        ap (λ k. get_or places2 k nobody) q ∙ here ∙ ap (after_wakeup serial) (rest place low) ∙ ap (λ k. after_wakeup serial (get_or old k nobody)) (sym q)
    | inr ne ↦ others p ne ∙ elim (cases_lt p from) [
      | inl before ↦ woken_so_far p before
      | inr low ↦ as_it_was p low (λ l. next.before p low (omega (arith, lt, ne)))
    ]
  ]

  pub woken_rest : ((p : ℕ) → from ≤ p → p < room → bit_at (get_or waiters (serial % 256) 0) p ≡ 0) → (p : ℕ) → get_or places p nobody ≡ after_wakeup serial (get_or old p nobody)
  woken_rest none p = elim (cases_lt p from) [
    | inl before ↦ woken_so_far p before
    | inr low ↦ as_it_was p low (none p low)
  ]
