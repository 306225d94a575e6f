-- What is told of the places of the entries that wait.
use Rattle.std.proofs.Common.{◌≡◌, ◌≢◌, ℕ, ◌<◌, ◌≤◌, List, ◌++◌, length, get_or, Some, ap, sym, ◌∙◌, arith}
use Rattle.std.specs.Prelude.{slice_get}
use Rattle.std.specs.List.{All, AllPairs}
use Rattle.std.proofs.lemmas.List.{get_or-map, get_or_default, get_or_append_left, length-map, length-append}
use Rattle.std.proofs.lemmas.Option.{slice_get-get_or}
use Rattle.stations.specs.declared.occupant.Occupant.{Occupant}
use Rattle.stations.specs.Stations.{Station}
use Rattle.stations.specs.Places.{station, station_in, nobody, held_of, Placed}
use Rattle.stations.proofs.Numbers.{all_differ}

-- the entry at a position is the one in the place that it has
pub entry_at : (places : List Occupant) (ages : List ℕ) (i p : ℕ) (o : Occupant) → i < length ages → p ≡ get_or ages i p → p < length places → o ≡ get_or places p o → slice_get (held_of places ages) i ≡ Some (station p o)
entry_at places ages i p o lt at below here =
    let long = length-map ages (station_in places) in
    slice_get-get_or (held_of places ages) i (station_in places p) (omega (arith, long, lt))
    ∙ ap Some (get_or-map (station_in places) ages i p (station_in places p) lt ∙ ap (station_in places) (sym at) ∙ ap (station p) (get_or_default places p nobody o below ∙ sym here))

place_seen : (places : List Occupant) (ages free : List ℕ) (i : ℕ) (d : Station) → i < length ages → (get_or (held_of places ages) i d).place ≡ get_or (ages ++ free) i 0
place_seen places ages free i d lt = ap (λ (s : Station). s.place) (get_or-map (station_in places) ages i 0 d lt) ∙ sym (get_or_append_left ages free 0 i lt)

-- no two entries have the same
pub places_differ : (places : List Occupant) (ages free : List ℕ) → Placed places ages free → AllPairs (λ a b. a.place ≢ b.place) (held_of places ages)
places_differ places ages free s i j d lt l same =
    let seen = length-map ages (station_in places) in
    let all = length-append ages free in
    let p = place_seen places ages free i d (omega arith) in
    let q = place_seen places ages free j d (omega arith) in
    all_differ (length places) (ages ++ free) s.once i j 0 lt (omega arith) (sym p ∙ same ∙ q)

-- there are at most 96 places
pub places_below : (places : List Occupant) (ages : List ℕ) → All (λ p. p < length places) ages → length places ≤ 96 → All (λ s. s.place < 96) (held_of places ages)
places_below places ages below few k d lt =
    let long = length-map ages (station_in places) in
    let seen = ap (λ (s : Station). s.place) (get_or-map (station_in places) ages k 0 d (omega (arith, long, lt))) in
    let low = below k 0 (omega (arith, long, lt)) in
    omega (arith, seen, low, few)
