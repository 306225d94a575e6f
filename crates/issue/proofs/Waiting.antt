-- The entries that wait, by their stations, and a walk from one of them to the next.
use Rattle.std.proofs.Common.{◌≡◌, ◌≢◌, ℕ, zero, suc, ◌+◌, ◌-◌, ◌<◌, ◌≤◌, Bool, true, false, cond, List, [], ◌∷◌, length, take, Option, Some, None, refl, ap, sym, subst, ◌∙◌, slice_get, arith}
use Rattle.std.specs.Prelude.{if◌then◌else◌, nat_le}
use Rattle.std.specs.List.{All, count_by}
use Rattle.std.specs.Option.{option_map}
use Rattle.std.proofs.lemmas.Bool.Decides.{nat_tests}
use Rattle.std.proofs.lemmas.List.{take_all}
use Rattle.std.proofs.lemmas.Option.{slice_get_within}
use Rattle.circular_buffer.proofs.Places.{slice_get-some}
use Rattle.window_model.specs.declared.Entry.{Entry}
use Rattle.window_model.specs.Order.{is_waiting}
use Rattle.window_model.proofs.Counts.{count, count_is}
use Rattle.rob_ring.specs.Ring.{below}
use Rattle.stations.specs.Stations.{Station}
use Rattle.refinement.proofs.Room.{counts_held}
use Rattle.refinement.proofs.Stations.{counts_stations, has_station}
use Rattle.refinement.specs.InFlight.{InFlight}
use Rattle.refinement.specs.Refines.{Refines}
use Rattle.refinement.specs.Stations.{station_of}
use Rattle.refinement.specs.Waiters.{Waiter, waiter_in}
use Rattle.window_model.proofs.Serials.{all_at, place_of}

-- ---- how many wait before a position

module _ (window : List Entry) (i : ℕ) (e : Entry) (h : slice_get window i ≡ Some e) where
  station_next : (b : Bool) → is_waiting e.state ≡ b → station_of (i + 1) window ≡ (if b then station_of i window + 1 else station_of i window)
  station_next b w = counts_stations window i e h ∙ ap (λ b. if b then station_of i window + 1 else station_of i window) w

  no_fewer : (b : Bool) → is_waiting e.state ≡ b → station_of i window ≤ station_of (i + 1) window
  no_fewer true w = let n = station_next true w in omega (arith, n)
  no_fewer false w = let n = station_next false w in omega (arith, n)

rises : (window : List Entry) (n i m : ℕ) → m ≡ i + n → m ≤ length window → station_of i window ≤ station_of m window
rises window zero i m q le = let same : i ≡ m = omega (arith, q) in subst (λ m. station_of i window ≤ station_of m window) same (omega arith)
rises window (suc n) i m q le =
    let t = slice_get-some window i (omega (arith, q, le)) in
    let a = no_fewer window i t.0 t.1 (is_waiting t.0.state) refl in
    let b = rises window n (i + 1) m (omega (arith, q)) le in
    omega (arith, a, b)

-- a position with as many before it as an entry that waits has is no younger
no_younger : (window : List Entry) (i m : ℕ) (e : Entry) → slice_get window m ≡ Some e → is_waiting e.state ≡ true → i ≤ length window → station_of i window ≡ station_of m window → i ≤ m
no_younger window i m e h w le q = by_test (nat_le i m) refl
  where
    by_test : (b : Bool) → nat_le i m ≡ b → i ≤ m
    by_test true t = grind (arith, nat_tests)
    by_test false t =
        let lt : m < i = grind (arith, nat_tests) in
        let more = station_next window m e h true w in
        let less = rises window (i - (m + 1)) (m + 1) i (omega (arith, lt)) le in
        absurd (omega (arith, more, less, q))

-- ---- the entry of a station

-- at this position of the window an entry waits, with so many before it that wait
pub record WaitsAt (window : List Entry) (k i : ℕ) : Type 0 where
  pub entry : Entry
  pub is : slice_get window i ≡ Some entry
  pub waits : is_waiting entry.state ≡ true
  pub station : station_of i window ≡ k

abbrev HasWaiter : List Entry → ℕ → Type 0
HasWaiter window k = (i : ℕ) × WaitsAt window k i

-- a station finds its entry behind one more entry, counted on by one where that one waits
behind : (e : Entry) (es : List Entry) (b : Bool) (k n : ℕ) → is_waiting e.state ≡ b → n ≡ cond b 1 0 + k → HasWaiter es k → HasWaiter (e ∷ es) n
behind e es b k n w q t =
    let all = count_is (λ e. is_waiting e.state) (e ∷ take t.0 es) in
    let first : cond (is_waiting e.state) 1 0 ≡ cond b 1 0 = ap (λ (b : Bool). cond {A = ℕ} b 1 0) w in
    let rest = count_is (λ e. is_waiting e.state) (take t.0 es) in
    let older = t.1.station in
    (suc t.0, record { entry = t.1.entry; is = t.1.is; waits = t.1.waits; station = omega (arith, all, first, rest, older, q) })

counted_by : (e : Entry) (es : List Entry) (b : Bool) → is_waiting e.state ≡ b → ((k : ℕ) → k < count (λ e. is_waiting e.state) es → HasWaiter es k) →
    (k : ℕ) → k < cond b 1 0 + count (λ e. is_waiting e.state) es → HasWaiter (e ∷ es) k
counted_by e es true w rest zero lt = (0, record { entry = e; is = refl; waits = w; station = refl })
counted_by e es true w rest (suc k) lt = behind e es true k (suc k) w (omega arith) (rest k (omega (arith, lt)))
counted_by e es false w rest k lt = behind e es false k k w (omega arith) (rest k (omega (arith, lt)))

counted : (window : List Entry) (k : ℕ) → k < count (λ e. is_waiting e.state) window → HasWaiter window k
counted [] k lt = absurd (omega (arith, lt))
counted (e ∷ es) k lt = counted_by e es (is_waiting e.state) refl (counted es) k lt

module _ (p : InFlight) (s : Refines p) where
  -- there are as many stations as entries of the window that wait
  pub all_wait : station_of (length p.window) p.window ≡ length p.held
  all_wait = ap (count_by (λ e. is_waiting e.state)) (take_all (length p.window) p.window (omega arith)) ∙ sym (counts_held p s)

  -- to each station there is an entry of the window that waits there
  pub waits_at : (k : ℕ) → k < length p.held → (i : ℕ) × WaitsAt p.window k i
  waits_at k lt =
      let many = counts_held p s in
      let all = count_is (λ e. is_waiting e.state) p.window in
      counted p.window k (omega (arith, lt, many, all))

  serial_of : (o : Option Station) (w : Waiter) (serial : ℕ) → option_map waiter_in o ≡ Some w → option_map (λ s. s.serial) o ≡ Some serial → serial ≡ w.serial
  serial_of None w serial h q = absurd (cc)
  serial_of (Some st) w serial h q =
      let a : waiter_in st ≡ w = cc in
      let b : st.serial ≡ serial = cc in
      sym b ∙ ap (λ (w : Waiter). w.serial) a

  -- the entry of a station stands at the position that the station's serial tells
  pub stands_at : (k serial i : ℕ) → k < length p.held → option_map (λ s. s.serial) (slice_get p.held k) ≡ Some serial →
      i ≡ length (below serial p.window) → WaitsAt p.window k i
  stands_at k serial i lt h q =
      let w = waits_at k lt in
      let t = w.1 in
      let told = has_station p w.0 t.entry s t.is t.waits in
      let at = ap (λ k. option_map (λ s. s.serial) (slice_get p.held k)) t.station ∙ h in
      let same = serial_of (slice_get p.held (station_of w.0 p.window)) _ serial told at in
      subst (WaitsAt p.window k) (sym (q ∙ ap (λ n. length (below n p.window)) same ∙ place_of p.window w.0 t.entry s.rise t.is)) t

  -- the serial of a station is that of an entry in flight
  pub in_window : (k serial : ℕ) → k < length p.held → option_map (λ s. s.serial) (slice_get p.held k) ≡ Some serial → All (λ e. e.serial ≢ serial) p.window → ⊥
  in_window k serial lt h none =
      let w = waits_at k lt in
      let t = w.1 in
      let told = has_station p w.0 t.entry s t.is t.waits in
      let at = ap (λ k. option_map (λ s. s.serial) (slice_get p.held k)) t.station ∙ h in
      let same = serial_of (slice_get p.held (station_of w.0 p.window)) _ serial told at in
      all_at (λ e. e.serial ≢ serial) p.window w.0 t.entry none t.is (sym same)

-- ---- the walk from station to station

-- what an entry that doesn't wait leaves as it is
abbrev pub Keeps : (ℕ → Type 0) → List Entry → Type 0
Keeps P window = (i : ℕ) (e : Entry) → slice_get window i ≡ Some e → is_waiting e.state ≡ false → P i → P (i + 1)

on_by : (P : ℕ → Type 0) (window : List Entry) → Keeps P window → (i m : ℕ) (e : Entry) → slice_get window i ≡ Some e → station_of (i + 1) window ≤ station_of m window → station_of m window ≡ station_of i window → P i →
    (b : Bool) → is_waiting e.state ≡ b → P (i + 1) × (station_of m window ≡ station_of (i + 1) window)
on_by P window keeps i m e h le q p true w = let more = station_next window i e h true w in absurd (omega (arith, more, le, q))
on_by P window keeps i m e h le q p false w = (keeps i e h w p, q ∙ sym (station_next window i e h false w))

on_to : (P : ℕ → Type 0) (window : List Entry) → Keeps P window → (n i m : ℕ) → m ≡ i + n → m ≤ length window → station_of m window ≡ station_of i window → P i → P m
on_to P window keeps zero i m r le q p = let same : i ≡ m = omega (arith, r) in subst P same p
on_to P window keeps (suc n) i m r le q p =
    let t = slice_get-some window i (omega (arith, r, le)) in
    let k = on_by P window keeps i m t.0 t.1 (rises window n (i + 1) m (omega (arith, r)) le) q p (is_waiting t.0.state) refl in
    on_to P window keeps n (i + 1) m (omega (arith, r)) le k.1 k.0

-- a property holds at a position of the window before which so many entries wait
pub record Reaches (P : ℕ → Type 0) (window : List Entry) (k : ℕ) : Type 0 where
  pub position : ℕ
  pub within : position ≤ length window
  pub station : station_of position window ≡ k
  pub holds : P position

-- what holds before a station's entry, and is kept by entries that don't wait, holds at that entry
pub at_next : (P : ℕ → Type 0) (window : List Entry) (k m : ℕ) (e : Entry) → Keeps P window → Reaches P window k → slice_get window m ≡ Some e → is_waiting e.state ≡ true → station_of m window ≡ k → P m
at_next P window k m e keeps t h w q =
    let older = no_younger window t.position m e h w t.within (t.station ∙ sym q) in
    on_to P window keeps (m - t.position) t.position m (omega (arith, older)) (let lt = slice_get_within window m e h in omega (arith, lt)) (q ∙ sym t.station) t.holds

-- the walk reaches one station further, where what holds at an entry that waits leads to what is to hold behind it
pub goes_on : (P Q : ℕ → Type 0) (window : List Entry) (k m : ℕ) (e : Entry) → Keeps P window → Reaches P window k →
    slice_get window m ≡ Some e → is_waiting e.state ≡ true → station_of m window ≡ k → (P m → Q (m + 1)) → Reaches Q window (k + 1)
goes_on P Q window k m e keeps t h w q on = record {
  position = m + 1;
  within = let lt = slice_get_within window m e h in omega (arith, lt);
  station = station_next window m e h true w ∙ ap (λ n. n + 1) q;
  holds = on (at_next P window k m e keeps t h w q);
}

-- what the walk has reached holds behind the last entry, where no entry is left that waits
pub at_end : (P : ℕ → Type 0) (window : List Entry) (k : ℕ) → Keeps P window → Reaches P window k → station_of (length window) window ≡ k → P (length window)
at_end P window k keeps t q =
    let le = t.within in
    on_to P window keeps (length window - t.position) t.position (length window) (omega (arith, le)) (omega arith) (q ∙ sym t.station) t.holds
