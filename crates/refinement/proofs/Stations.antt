-- The stations of the entries that wait.
use Rattle.std.proofs.Common.{Bool, List, None, Some, [], ap, ap₂, arith, cond, false, length, refl, slice_get, suc, sym, take, true, zero, ℕ, ◌++◌, ◌+◌, ◌<◌, ◌∙◌, ◌∷◌, ◌≡◌}
use Rattle.std.proofs.lemmas.List.{take_more}
use Rattle.std.proofs.lemmas.Option.{get_or_from_slice_get, slice_get-map, slice_get_within}
use Rattle.std.specs.List.{cons_option, count_by}
use Rattle.std.specs.Option.{option_map}
use Rattle.std.specs.Prelude.{if◌then◌else◌, slice_set}
use Rattle.window_model.proofs.Counts.{count, count_is, count_pushed}
use Rattle.window_model.specs.Order.{before_at, each_from, is_waiting}
use Rattle.window_model.specs.declared.Entry.{Entry}
use Rattle.refinement.proofs.Columns.{column_at, place}
use Rattle.refinement.proofs.Each.{each_at, each_take}
use Rattle.refinement.proofs.Lists.{take_set}
use Rattle.refinement.specs.Footprint.{Terms, column, footprint_of, look_back}
use Rattle.refinement.specs.InFlight.{InFlight, hold_in}
use Rattle.refinement.specs.Refines.{Refines, footprints, terms}
use Rattle.refinement.specs.Stations.{station_of}
use Rattle.refinement.specs.Telling.{CountsStations, StationsOlder, StationsYounger, HoldsWaiters, HasStation}
use Rattle.refinement.specs.Waiters.{awaits_of, waiter_footprint, waiter_in, waiter_of, waiters_from}

-- ---- stations

-- as many footprints have a waiter as entries wait
pub waiting_count : (t : Terms) (b es : List Entry) → length (column (λ k. k.waiter) (each_from (footprint_of t) b es)) ≡ count (λ e. is_waiting e.state) es
waiting_count t b [] = refl
waiting_count t b (e ∷ es) = by_wait (is_waiting e.state) (waiting_count t (e ∷ b) es)
  where
    by_wait : (w : Bool) → length (column (λ k. k.waiter) (each_from (footprint_of t) (e ∷ b) es)) ≡ count (λ e. is_waiting e.state) es →
        length (cons_option (if w then Some (waiter_of t.version (look_back t.hold b e).awaits e) else None) (column (λ k. k.waiter) (each_from (footprint_of t) (e ∷ b) es))) ≡ cond w 1 0 + count (λ e. is_waiting e.state) es
    by_wait true h = omega (arith, h)
    by_wait false h = omega (arith, h)

-- the place of a position's station
pub station_place : (t : Terms) (es : List Entry) (i : ℕ) → station_of i es ≡ place waiter_in (λ k. k.waiter) i (each_from (footprint_of t) [] es)
station_place t es i =
    sym (count_is (λ e. is_waiting e.state) (take i es)) ∙ sym (waiting_count t [] (take i es)) ∙ ap (λ ks. length (column (λ k. k.waiter) ks)) (sym (each_take (footprint_of t) [] es i))

-- ---- what is lent

-- the stations hold the entries that wait
waiters_are : (t : Terms) (b es : List Entry) → column (λ k. k.waiter) (each_from (footprint_of t) b es) ≡ waiters_from t.version t.hold b es
waiters_are t b [] = refl
waiters_are t b (e ∷ es) = ap (λ ws. cons_option (waiter_footprint t.version (awaits_of t.hold b e) e) ws) (waiters_are t (e ∷ b) es)

-- the stations are those of the entries that wait
pub holds_waiting : HoldsWaiters
holds_waiting p s = s.columns.waiters ∙ waiters_are (terms p) [] p.window

-- ---- stations

-- an entry that waits has its station
pub has_station : (p : InFlight) (i : ℕ) (e : Entry) → Refines p → slice_get p.window i ≡ Some e → is_waiting e.state ≡ true →
    option_map waiter_in (slice_get p.held (station_of i p.window)) ≡ Some (waiter_of p.version (awaits_of (hold_in p) (before_at p.window i) e) e)
has_station p i e s h w =
    let t = terms p in
    let k = footprint_of t (before_at p.window i) e in
    sym (slice_get-map waiter_in p.held (station_of i p.window)) ∙ ap₂ slice_get s.columns.waiters (station_place t p.window i)
    ∙ column_at waiter_in (λ k. k.waiter) (footprints p) i k (waiter_of t.version (look_back t.hold (before_at p.window i) e).awaits e) (each_at (footprint_of t) [] p.window i e h) (ap (λ b. if b then Some (waiter_of t.version (look_back t.hold (before_at p.window i) e).awaits e) else None) w)

some_within : {X Y : Type 0} (f : X → Y) (xs : List X) (i : ℕ) (y : Y) → option_map f (slice_get xs i) ≡ Some y → i < length xs
some_within f [] i y h = absurd (cc)
some_within f (x ∷ xs) zero y h = omega arith
some_within f (x ∷ xs) (suc i) y h = let k = some_within f xs i y h in omega (arith, k)

-- the station of an entry that waits is one of those that are held
pub station_within : (p : InFlight) (i : ℕ) (e : Entry) → Refines p → slice_get p.window i ≡ Some e → is_waiting e.state ≡ true → station_of i p.window < length p.held
station_within p i e s h w = some_within waiter_in p.held (station_of i p.window) _ (has_station p i e s h w)

pub station_for : HasStation
station_for p i e s h w = record { within = station_within p i e s h w; is = has_station p i e s h w }

-- a walk from the oldest entry on counts the stations
pub counts_stations : CountsStations
counts_stations window i e h =
    ap (count_by (λ e. is_waiting e.state)) (take_more window i e (slice_get_within window i e h) ∙ ap (λ d. take i window ++ d ∷ []) (get_or_from_slice_get window i e e h))
    ∙ count_pushed (λ e. is_waiting e.state) (take i window) e ∙ by_wait (is_waiting e.state) (count_by (λ e. is_waiting e.state) (take i window))
  where
    by_wait : (w : Bool) (n : ℕ) → n + cond w 1 0 ≡ (if w then n + 1 else n)
    by_wait true n = refl
    by_wait false n = omega arith

-- what becomes of an entry changes no older one's station
pub stations_older : StationsOlder
stations_older window i m e le = ap (count_by (λ e. is_waiting e.state)) (take_set window i m e le)

fewer : (window : List Entry) (i m : ℕ) (e e2 : Entry) → m < i → slice_get window m ≡ Some e → is_waiting e.state ≡ true → is_waiting e2.state ≡ false →
    count (λ e. is_waiting e.state) (take i (slice_set window m e2)) + 1 ≡ count (λ e. is_waiting e.state) (take i window)
fewer [] i m e e2 lt h w n = absurd (cc)
fewer (x ∷ window) zero m e e2 lt h w n = absurd (omega (arith, lt))
fewer (x ∷ window) (suc i) zero e e2 lt h w n =
    let a : x ≡ e = cc in
    let wx = ap (λ (e : Entry). is_waiting e.state) a ∙ w in
    let c = ap (λ b. cond b 1 0 + count (λ e. is_waiting e.state) (take i window)) wx in
    let d = ap (λ b. cond b 1 0 + count (λ e. is_waiting e.state) (take i window)) n in
    omega (arith, c, d)
fewer (x ∷ window) (suc i) (suc m) e e2 lt h w n = let k = fewer window i m e e2 (omega (arith, lt)) h w n in omega (arith, k)

pub stations_younger : StationsYounger
stations_younger window i m e e2 lt h w n =
    let a = count_is (λ e. is_waiting e.state) (take i window) in
    let b = count_is (λ e. is_waiting e.state) (take i (slice_set window m e2)) in
    let k = fewer window i m e e2 lt h w n in
    omega (arith, a, b, k)
