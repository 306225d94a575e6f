-- Places are taken once or free as entries come, wake and go.
use Rattle.std.proofs.Common.{◌≡◌, ◌≢◌, ℕ, ◌+◌, ◌<◌, List, [], ◌∷◌, ◌++◌, length, get_or, set, take, drop, suc, Option, refl, ap, ap₂, sym, ◌∙◌, arith, subst}
use Rattle.std.specs.Prelude.{map, IsPermutation}
use Rattle.std.specs.List.{All, remove, range_with_len}
use Rattle.std.proofs.lemmas.List.{append_assoc, map-append, map-id, length-map, length-set, take-map, drop-map, get_or-map, get_or-set_same, get_or-set_other}
use Rattle.std.proofs.lemmas.List.Elements.{All-head, All-tail}
use Rattle.std.proofs.lemmas.List.FromFn.{map-range_with_len_more}
use Rattle.std.proofs.lemmas.List.Quantifiers.{all_pairs_push, all_pairs_remove}
use Rattle.std.proofs.lemmas.List.Sorted.{IsPermutation-sym, IsPermutation-trans, IsPermutation-append_left, IsPermutation-pop_more, IsPermutation-remove, IsPermutation-to_front}
use Rattle.stations.specs.declared.occupant.Occupant.{Occupant}
use Rattle.stations.specs.declared.wants.Wants.{Wants}
use Rattle.stations.specs.Stations.{Rise, Station, struck}
use Rattle.stations.specs.Places.{awaited_serials, station, station_in, nobody, held_of, after_wakeup, Placed}
use Rattle.stations.proofs.Numbers.{below, apart}

abbrev Once : List Occupant → List ℕ → Type 0
Once places numbers = IsPermutation (range_with_len 0 (length places)) numbers

pub range_more : (n : ℕ) → range_with_len 0 (n + 1) ≡ range_with_len 0 n ++ n ∷ []
range_more n = sym (map-id (range_with_len 0 (n + 1))) ∙ map-range_with_len_more (λ k. k) 0 n n (omega arith) ∙ ap (λ ns. ns ++ n ∷ []) (map-id (range_with_len 0 n))

-- ---- one more entry waits

-- the entry is seen as it was made
pub new_station : (p : ℕ) (o : Occupant) (serial : ℕ) (wants : Wants) (awaits : List (Option ℕ)) → o.serial ≡ serial → o.wants ≡ wants → awaited_serials o ≡ awaits → station p o ≡ record { serial = serial; wants = wants; awaits = awaits; place = p }
new_station p o serial wants awaits s w a = ap₂ (λ serial rest. record { serial = serial; wants = o.wants; awaits = rest; place = p }) s a ∙ ap (λ w. record { serial = serial; wants = w; awaits = awaits; place = p }) w

-- what happens in one place leaves the entries in others
held_set : (places : List Occupant) (p : ℕ) (o : Occupant) (ages : List ℕ) → All (λ q. q ≢ p) ages → held_of (set places p o) ages ≡ held_of places ages
held_set places p o [] a = refl
held_set places p o (q ∷ ages) a =
    ap₂ (λ s ss. s ∷ ss) (ap (station q) (get_or-set_other places p q o nobody (All-head (λ q. q ≢ p) q ages a))) (held_set places p o ages (All-tail (λ q. q ≢ p) q ages a))

module _ (places : List Occupant) (ages free rest : List ℕ) (p : ℕ) (o : Occupant) (s : Placed places ages free) (f : free ≡ rest ++ p ∷ []) where
  before : Once places (ages ++ (rest ++ p ∷ []))
  before = subst (λ free. Once places (ages ++ free)) f s.once

  -- the youngest entry is the one that came
  pub held_push : held_of (set places p o) (ages ++ p ∷ []) ≡ held_of places ages ++ station p o ∷ []
  held_push =
      map-append (station_in (set places p o)) ages (p ∷ [])
      ∙ ap₂ (λ a b. a ++ station p b ∷ []) (held_set places p o ages (apart (length places) ages rest p before)) (get_or-set_same places p o nobody (below (length places) ages rest p before))

  pub placed_push : All (λ s. s.serial < o.serial) (held_of places ages) → Placed (set places p o) (ages ++ p ∷ []) rest
  placed_push y = record {
    once = subst (λ n. IsPermutation (range_with_len 0 n) ((ages ++ p ∷ []) ++ rest)) (sym (length-set places p o)) (IsPermutation-pop_more _ ages _ rest p before (IsPermutation-to_front rest p));
    rise = subst Rise (sym held_push) (all_pairs_push (λ a b. a.serial < b.serial) (held_of places ages) (station p o) s.rise y);
  }

-- ---- one entry fewer waits

map_remove : {X Y : Type 0} (f : X → Y) (xs : List X) (i : ℕ) → map f (remove xs i) ≡ remove (map f xs) i
map_remove f xs i = map-append f (take i xs) (drop (suc i) xs) ∙ sym (ap₂ (λ a b. a ++ b) (take-map f i xs) (drop-map f (suc i) xs))

pub held_remove : (places : List Occupant) (ages : List ℕ) (i : ℕ) → held_of places (remove ages i) ≡ remove (held_of places ages) i
held_remove places ages i = map_remove (station_in places) ages i

pub placed_remove : (places : List Occupant) (ages ages2 free free2 : List ℕ) (i p : ℕ) → Placed places ages free → i < length ages → p ≡ get_or ages i p → ages2 ≡ remove ages i → free2 ≡ free ++ p ∷ [] → Placed places ages2 free2
placed_remove places ages ages2 free free2 i p s lt is a f =
    let taken : IsPermutation ages (p ∷ remove ages i) = IsPermutation-remove ages i p lt is in
    let freed : IsPermutation (p ∷ (remove ages i ++ free)) ((remove ages i ++ free) ++ p ∷ []) = IsPermutation-sym _ _ (IsPermutation-to_front (remove ages i ++ free) p) in
    let long = length-map ages (station_in places) in
    rw (a, f) (record {
      once = subst (Once places) (append_assoc (remove ages i) free (p ∷ []))
          (IsPermutation-trans _ _ _ s.once (IsPermutation-trans _ _ _ (IsPermutation-append_left free _ _ taken) freed));
      rise = subst Rise (sym (held_remove places ages i)) (all_pairs_remove (λ a b. a.serial < b.serial) (held_of places ages) i (omega arith) s.rise);
    })

-- ---- a serial is awaited no longer

-- places that are woken one by one hold entries that are struck
pub held_woken : (serial : ℕ) (old places : List Occupant) → ((p : ℕ) → get_or places p nobody ≡ after_wakeup serial (get_or old p nobody)) → (ages : List ℕ) → held_of places ages ≡ map (struck serial) (held_of old ages)
held_woken serial old places h [] = refl
held_woken serial old places h (q ∷ ages) = ap₂ (λ o ss. station q o ∷ ss) (h q) (held_woken serial old places h ages)

rise_struck : (serial : ℕ) (held : List Station) → Rise held → Rise (map (struck serial) held)
rise_struck serial held r i j d lt l =
    let long = length-map held (struck serial) in
    let a = ap (λ (s : Station). s.serial) (get_or-map (struck serial) held i d d (omega arith)) in
    let b = ap (λ (s : Station). s.serial) (get_or-map (struck serial) held j d d (omega arith)) in
    let c = r i j d lt (omega arith) in
    omega (arith, a, b, c)

pub placed_woken : (serial : ℕ) (places places2 : List Occupant) (ages free : List ℕ) → Placed places ages free → length places2 ≡ length places → held_of places2 ages ≡ map (struck serial) (held_of places ages) → Placed places2 ages free
placed_woken serial places places2 ages free s long held = record {
  once = subst (λ n. IsPermutation (range_with_len 0 n) (ages ++ free)) (sym long) s.once;
  rise = subst Rise (sym held) (rise_struck serial (held_of places ages) s.rise);
}
