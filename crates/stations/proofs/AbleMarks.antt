-- Which positions hold an entry that may issue, or of which a part may, as entries come, wake and go.
use Rattle.std.proofs.Common.{◌≡◌, ◌≢◌, ℕ, zero, suc, ◌<◌, ◌≤◌, Bool, true, false, List, [], ◌∷◌, ◌++◌, length, get_or, Option, Some, None, slice_get, refl, ap, sym, ◌∙◌, arith, inl, inr}
use Rattle.std.specs.Prelude.{IfSome, is_none, is_some, ◌||◌}
use Rattle.std.specs.Int.{bit_at}
use Rattle.std.specs.List.{AllPairs, list_any}
use Rattle.std.specs.Option.{option_map}
use Rattle.std.proofs.lemmas.Bool.{cases_eq, cases_lt}
use Rattle.std.proofs.lemmas.Option.{get_or_from_slice_get, slice_get-map, slice_get_within}
use Rattle.word_bits.specs.Bits.{NextBit, one_if}
use Rattle.stations.specs.declared.occupant.Occupant.{Occupant}
use Rattle.stations.specs.declared.wants.Wants.{Wants}
use Rattle.stations.specs.declared.wants.Wants.TheVariants as wants
use Rattle.stations.specs.Stations.{NextAble, Station, able_as, is_able, strike}
use Rattle.stations.specs.Places.{IsPosition, NotesAble, NotesAbleBut, able_in, held_of, meets, nobody, station_in, after_wakeup}

-- ---- what a word tells of a position

same_bit : (a b : Bool) → one_if a ≡ one_if b → a ≡ b
same_bit true true h = refl
same_bit true false h = absurd (omega (arith, h))
same_bit false true h = absurd (omega (arith, h))
same_bit false false h = refl

told : (held : List Station) (i : ℕ) (b : Bool) → i < length held → one_if (meets is_able (slice_get held i)) ≡ one_if b → option_map is_able (slice_get held i) ≡ Some b
told [] i b lt h = absurd (omega (arith, lt))
told (s ∷ held) zero b lt h = ap Some (same_bit (is_able s) b h)
told (s ∷ held) (suc i) b lt h = told held i b (omega (arith, lt)) h

-- the bit at a position tells whether its entry may issue
pub able_told : (held : List Station) (i able : ℕ) (b : Bool) → i < length held → i < 128 → NotesAble held able → bit_at able i ≡ one_if b → option_map is_able (slice_get held i) ≡ Some b
able_told held i able b lt few m is = told held i b lt (sym (m i few) ∙ is)

inside : (held : List Station) (i : ℕ) → one_if (meets is_able (slice_get held i)) ≡ 1 → i < length held
inside [] i h = absurd (omega (arith, h))
inside (s ∷ held) zero h = omega arith
inside (s ∷ held) (suc i) h = let lt = inside held i h in omega (arith, lt)

-- the next bit that is set is that of the next entry that may issue
pub next_told : (held : List Station) (able from : ℕ) (o : Option ℕ) → length held ≤ 96 → NotesAble held able → NextBit (bit_at able) from 128 o → NextAble held from o
next_told held able from None few m none = λ k low lt. able_told held k able false lt (omega (arith, lt, few)) m (none k low (omega (arith, lt, few)))
next_told held able from (Some i) few m first =
    let high = first.high in
    let within = inside held i (sym (m i high) ∙ first.here) in
    record {
      low = first.low;
      within = within;
      before = λ k low lt. able_told held k able false (omega (arith, lt, within)) (omega (arith, lt, high)) m (first.before k low lt);
      here = able_told held i able true within high m first.here;
    }

-- no more than 96 entries are held, and the next is among them
pub next_few : (held : List Station) (able from : ℕ) (o : Option ℕ) → length held ≤ 96 → NotesAble held able → NextBit (bit_at able) from 128 o → IfSome o (λ i. i < 96)
next_few held able from None few m none = tt
next_few held able from (Some i) few m first = let within = (next_told held able from (Some i) few m first).within in omega (arith, within, few)

none_of : (held : List Station) → ((k : ℕ) → k < length held → option_map is_able (slice_get held k) ≡ Some false) → list_any is_able held ≡ false
none_of [] none = refl
none_of (s ∷ held) none =
    let first : Some (is_able s) ≡ Some false = none 0 (omega arith) in
    let unable : is_able s ≡ false = cc in
    ap (λ b. b || list_any is_able held) unable ∙ none_of held (λ k lt. none (suc k) (omega (arith, lt)))

or_true : (b : Bool) → (b || true) ≡ true
or_true true = refl
or_true false = refl

some_of : (held : List Station) (i : ℕ) → option_map is_able (slice_get held i) ≡ Some true → list_any is_able held ≡ true
some_of [] i h = absurd (cc)
some_of (s ∷ held) zero h = let able : is_able s ≡ true = cc in ap (λ b. b || list_any is_able held) able
some_of (s ∷ held) (suc i) h = ap (λ b. is_able s || b) (some_of held i h) ∙ or_true (is_able s)

-- there is an entry that may issue where there is a next one from the oldest on
pub any_is : (held : List Station) (o : Option ℕ) → NextAble held 0 o → is_some o ≡ list_any is_able held
any_is held None none = sym (none_of held (λ k lt. none k (omega arith) lt))
any_is held (Some i) next = sym (some_of held i next.here)

-- ---- one position changes

-- the word is right where it is at a position, and elsewhere neither it nor who may issue has changed
able_put : (held held2 : List Station) (i able able2 : ℕ) → ((k : ℕ) → k ≢ i → meets is_able (slice_get held2 k) ≡ meets is_able (slice_get held k)) → bit_at able2 i ≡ one_if (meets is_able (slice_get held2 i)) →
    ((b : ℕ) → b < 128 → b ≢ i → bit_at able2 b ≡ bit_at able b) → NotesAble held able → NotesAble held2 able2
able_put held held2 i able able2 same here others m k lt = elim (cases_eq k i) [
  | inl q ↦ ap (bit_at able2) q ∙ here ∙ ap (λ k. one_if (meets is_able (slice_get held2 k))) (sym q)
  | inr ne ↦ others k lt ne ∙ m k lt ∙ ap one_if (sym (same k ne))
]

push_other : (held : List Station) (s : Station) (k : ℕ) → k ≢ length held → meets is_able (slice_get (held ++ s ∷ []) k) ≡ meets is_able (slice_get held k)
push_other [] s zero ne = absurd (ne refl)
push_other [] s (suc k) ne = refl
push_other (t ∷ held) s zero ne = refl
push_other (t ∷ held) s (suc k) ne = push_other held s k (λ q. ne (ap suc q))

push_here : (held : List Station) (s : Station) → meets is_able (slice_get (held ++ s ∷ []) (length held)) ≡ is_able s
push_here [] s = refl
push_here (t ∷ held) s = push_here held s

-- an entry comes, which is the youngest then
pub able_push : (held : List Station) (s : Station) (i able able2 : ℕ) → i ≡ length held → bit_at able2 i ≡ one_if (is_able s) → ((b : ℕ) → b < 128 → b ≢ i → bit_at able2 b ≡ bit_at able b) →
    NotesAble held able → NotesAble (held ++ s ∷ []) able2
able_push held s i able able2 at here others m =
    able_put held (held ++ s ∷ []) i able able2 (λ k ne. push_other held s k (λ q. ne (q ∙ sym at)))
    (here ∙ ap one_if (sym (ap (λ i. meets is_able (slice_get (held ++ s ∷ []) i)) at ∙ push_here held s))) others m

-- ---- the entry in one place changes

-- whether the entry at a position may issue, by the place that it has
abbrev able_by : List Occupant → Option ℕ → Bool
able_by places o = meets is_able (option_map (station_in places) o)

able_at : (places : List Occupant) (ages : List ℕ) (k : ℕ) → meets is_able (slice_get (held_of places ages) k) ≡ able_by places (slice_get ages k)
able_at places ages k = ap (meets is_able) (slice_get-map (station_in places) ages k)

-- no two positions have one place
one_position : (ages : List ℕ) (i k p : ℕ) → AllPairs (λ a b. a ≢ b) ages → slice_get ages i ≡ Some p → slice_get ages k ≡ Some p → k ≡ i
one_position ages i k p differ at_i at_k =
    let same = get_or_from_slice_get ages k p p at_k ∙ sym (get_or_from_slice_get ages i p p at_i) in
    let i_lt = slice_get_within ages i p at_i in
    let k_lt = slice_get_within ages k p at_k in
    elim (cases_lt k i) [
      | inl lt ↦ absurd (differ k i p lt i_lt same)
      | inr ge ↦ elim (cases_lt i k) [
        | inl lt ↦ absurd (differ i k p lt k_lt (sym same))
        | inr le ↦ omega (arith, ge, le)
      ]
    ]

module _ (places places2 : List Occupant) (p : ℕ) (others : (q : ℕ) → q ≢ p → get_or places2 q nobody ≡ get_or places q nobody) where
  able_others : (o : Option ℕ) → o ≢ Some p → able_by places2 o ≡ able_by places o
  able_others None ne = refl
  able_others (Some q) ne = ap able_in (others q (λ e. ne (ap Some e)))

  -- the entry at a position changes, and its mark with it
  pub able_changed : (ages : List ℕ) (i able able2 : ℕ) → AllPairs (λ a b. a ≢ b) ages → slice_get ages i ≡ Some p → bit_at able2 i ≡ one_if (able_in (get_or places2 p nobody)) →
      ((b : ℕ) → b < 128 → b ≢ i → bit_at able2 b ≡ bit_at able b) → NotesAble (held_of places ages) able → NotesAble (held_of places2 ages) able2
  able_changed ages i able able2 differ at here same m =
      able_put (held_of places ages) (held_of places2 ages) i able able2
      (λ k ne. able_at places2 ages k ∙ able_others (slice_get ages k) (λ e. ne (one_position ages i k p differ at e)) ∙ sym (able_at places ages k))
      (here ∙ ap one_if (sym (able_at places2 ages i ∙ ap (able_by places2) at))) same m

  -- an entry that may issue still does, as the one in a place changes, where the word isn't written
  pub able_but : (ages : List ℕ) (able : ℕ) → (able_in (get_or places p nobody) ≡ true → able_in (get_or places2 p nobody) ≡ true) → NotesAble (held_of places ages) able → NotesAbleBut p places2 ages able
  able_but ages able still m i lt unable = m i lt ∙ ap one_if (able_at places ages i ∙ by_place (slice_get ages i) unable ∙ sym (able_at places2 ages i))
    where
      unable_before : (a b : Bool) → (a ≡ true → b ≡ true) → b ≡ false → a ≡ b
      unable_before true b still lacks = sym (still refl)
      unable_before false b still lacks = sym lacks

      by_place : (o : Option ℕ) → (o ≡ Some p → able_in (get_or places2 p nobody) ≡ false) → able_by places o ≡ able_by places2 o
      by_place None lacks = refl
      by_place (Some q) lacks = elim (cases_eq q p) [
        | inl e ↦ ap (λ q. able_in (get_or places q nobody)) e ∙ unable_before _ _ still (lacks (ap Some e)) ∙ ap (λ q. able_in (get_or places2 q nobody)) (sym e)
        | inr ne ↦ ap able_in (sym (others q ne))
      ]

-- ---- an entry wakes

none_still : (serial : ℕ) (a : Option ℕ) → is_none a ≡ true → is_none (strike serial a) ≡ true
none_still serial None h = refl
none_still serial (Some s) h = absurd (cc)

still_as : (serial : ℕ) (w : Wants) (a b : Option ℕ) → able_as w (a ∷ b ∷ []) ≡ true → able_as w (strike serial a ∷ strike serial b ∷ []) ≡ true
still_as serial w None None h = h
still_as serial wants.Whole None (Some b) h = absurd (cc)
still_as serial wants.Whole (Some a) b h = absurd (cc)
still_as serial wants.Either None (Some b) h = refl
still_as serial wants.Either (Some a) None h = or_true (is_none (strike serial (Some a)))
still_as serial wants.Either (Some a) (Some b) h = absurd (cc)
still_as serial wants.Address None (Some b) h = refl
still_as serial wants.Address (Some a) b h = absurd (cc)
still_as serial wants.Data a (Some b) h = absurd (cc)
still_as serial wants.Data (Some a) None h = refl

-- who may issue, or of whom a part may, still does once a serial is awaited no longer
pub able_still : (serial : ℕ) (o : Occupant) → able_in o ≡ true → able_in (after_wakeup serial o) ≡ true
able_still serial o h = still_as serial o.wants o.first o.second h

-- ---- the entry in one place is marked, if it may issue

module _ (places : List Occupant) (ages : List ℕ) (place able : ℕ) (m : NotesAbleBut place places ages able) where
  pub mark_none : able_in (get_or places place nobody) ≡ false → NotesAble (held_of places ages) able
  mark_none unable i lt = m i lt (λ e. unable)

  pub mark_nowhere : IsPosition ages place 0 None → NotesAble (held_of places ages) able
  mark_nowhere none i lt = m i lt (λ e. absurd (none i (omega arith) e))

  pub mark_at : (i able2 : ℕ) → AllPairs (λ a b. a ≢ b) ages → able_in (get_or places place nobody) ≡ true → IsPosition ages place 0 (Some i) → bit_at able2 i ≡ 1 →
      ((b : ℕ) → b < 128 → b ≢ i → bit_at able2 b ≡ bit_at able b) → NotesAble (held_of places ages) able2
  mark_at i able2 differ may at here others k lt = elim (cases_eq k i) [
    | inl q ↦ ap (bit_at able2) q ∙ here ∙ ap one_if (sym (ap (λ k. meets is_able (slice_get (held_of places ages) k)) q ∙ able_at places ages i ∙ ap (able_by places) at ∙ may))
    | inr ne ↦ others k lt ne ∙ m k lt (λ e. absurd (ne (one_position ages i k place differ at e)))
  ]
