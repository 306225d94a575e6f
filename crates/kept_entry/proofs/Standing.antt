-- The walk from station to station, and what is told of the entry at one.
use Rattle.std.proofs.Common.{◌≡◌, ◌≢◌, ℕ, zero, suc, ◌+◌, ◌-◌, ◌<◌, ◌≤◌, Bool, true, false, is_none, List, [], length, map, Option, Some, None, slice_get, refl, ap, ap₂, sym, subst, ◌∙◌, arith}
use Rattle.std.specs.Prelude.{nat_le, if◌then◌else◌}
use Rattle.std.proofs.Common.{◌∷◌, take, ⊎_elim}
use Rattle.std.proofs.lemmas.Bool.{cases_lt}
use Rattle.std.proofs.lemmas.Bool.Decides.{nat_tests}
use Rattle.std.proofs.lemmas.Option.{get_or_from_slice_get, slice_get_within}
use Rattle.std.specs.List.{All, count_by, list_all}
use Rattle.rv_types.specs.Regs.{two}
use Rattle.stations.specs.declared.wants.Wants.{Wants}
use Rattle.std.specs.Option.{option_map}
use Rattle.std.proofs.lemmas.List.{length-map, take_all}
use Rattle.std.proofs.lemmas.Option.{slice_get-map}
use Rattle.machine_desc.specs.declared.Desc.{Desc}
use Rattle.window_model.specs.declared.Entry.{Entry}
use Rattle.window_model.specs.Order.{before_at, is_waiting, sources}
use Rattle.window_model.specs.Ready.{holds, ready}
use Rattle.window_model.specs.Taint.{visible}
use Rattle.window_model.proofs.Booleans.{some_of}
use Rattle.window_model.proofs.Counts.{count, count_is}
use Rattle.window_model.proofs.Serials.{all_at, place_of}
use Rattle.rob_ring.specs.Ring.{below}
use Rattle.stations.specs.Stations.{NextAble, Station, able_as, awaits_none, is_able}
use Rattle.refinement.specs.Stations.{station_of}
use Rattle.refinement.specs.Telling.{hold_of}
use Rattle.refinement.specs.Waiters.{Hold, Waiter, awaited_serial, awaits_of, waiter_in, waiter_of}
use Rattle.issue.proofs.Waiting.{Keeps, Reaches, at_end, at_next, goes_on}
use Rattle.slot_reasons.specs.Kept.{is_asked, kept_there, oldest_kept, serial_kept, shows_as}
use Rattle.kept_entry.specs.declared.seen.Seen.{Seen}
use Rattle.kept_entry.specs.State.{KeptAt, NextAsked, PassesTo, Stands, TellsAsked, TellsWhole, WaitsAt, window_of}
use Rattle.kept_entry.proofs.Looking.{some_at}
use Rattle.kept_entry.proofs.Letting.{asked_by, kept_by, lacks_passed, ready_has, unready_kept, unready_lacks, unwaiting_passed, visible_passed}
use Rattle.kept_entry.proofs.Waiting.{many_wait, stood, wants_nothing}
use Rattle.kept_entry.proofs.Walking.{FirstFrom, all_from, first_here, first_later, first_nowhere}

-- what a station that awaits nothing wants is there
able_if : (w : Wants) (f : Option ℕ → Option ℕ) (rs : List ℕ) (b : Bool) → list_all is_none (map f (two rs)) ≡ b → able_as w (map f (two rs)) ≡ false → b ≡ false
able_if w f rs false q u = refl
able_if w f rs true q u = let a = wants_nothing w f rs q in absurd (cc)

-- no fewer entries wait before a younger position
stations_rise : (window : List Entry) (i j : ℕ) → i ≤ j → station_of i window ≤ station_of j window
stations_rise window i j le =
    let more = no_fewer window i j le in
    let a = count_is (λ (e : Entry). is_waiting e.state) (take i window) in
    let b = count_is (λ (e : Entry). is_waiting e.state) (take j window) in
    omega (arith, more, a, b)
  where
    no_fewer : (es : List Entry) (i j : ℕ) → i ≤ j → count (λ (e : Entry). is_waiting e.state) (take i es) ≤ count (λ (e : Entry). is_waiting e.state) (take j es)
    no_fewer [] zero j le = omega arith
    no_fewer [] (suc i) zero le = absurd (omega (arith, le))
    no_fewer [] (suc i) (suc j) le = omega arith
    no_fewer (e ∷ es) zero j le = omega arith
    no_fewer (e ∷ es) (suc i) zero le = absurd (omega (arith, le))
    no_fewer (e ∷ es) (suc i) (suc j) le = let more = no_fewer es i j (omega (arith, le)) in omega (arith, more)

module _ (s : Seen) (t : Stands s) where
  abbrev d : Desc
  d = s.desc.now

  abbrev window : List Entry
  window = window_of s

  abbrev held : List Station
  held = s.stations.now.held

  abbrev hold : Hold
  hold = hold_of d t.waiting.point

  -- ---- the entry at a station

  -- the entry that waits at a station, and what the station holds of it
  record At (k : ℕ) : Type 0 where
    position : ℕ
    entry : Entry
    here : WaitsAt s k position entry
    held_as : Station
    is : slice_get held k ≡ Some held_as
    waiter : waiter_in held_as ≡ waiter_of d.version (awaits_of hold (before_at window position) entry) entry

  at_station : (k : ℕ) → k < length held → At k
  at_station k lt =
      let (st, is) = some_at held k lt in
      let w = stood d.version hold [] window k (waiter_in st) (sym (ap (λ ws. slice_get ws k) t.waiting.waiting) ∙ slice_get-map waiter_in held k ∙ ap (option_map waiter_in) is) in
      let serial = ap (option_map (λ (s : Station). s.serial)) is ∙ ap (λ (w : Waiter). Some w.serial) w.is in
      record { position = w.position; entry = w.entry; here = record { at = w.at; waits = w.waits; station = w.station; serial = serial }; held_as = st; is = is; waiter = w.is }

  all_wait : station_of (length window) window ≡ length held
  all_wait =
      let many = many_wait d.version hold [] window in
      let same = ap length t.waiting.waiting in
      let held_length = length-map held waiter_in in
      let counted = count_is (λ (e : Entry). is_waiting e.state) window in
      let all = ap (λ es. count_by (λ (e : Entry). is_waiting e.state) es) (take_all (length window) window (omega arith)) in
      omega (arith, many, same, held_length, counted, all)

  -- the serial of a station is that of its entry
  serial_is : (k serial : ℕ) (a : At k) → option_map (λ s. s.serial) (slice_get held k) ≡ Some serial → serial ≡ a.entry.serial
  serial_is k serial a h = some_of serial a.entry.serial (sym h ∙ a.here.serial)

  -- one entry alone waits at a station
  position_is : (k i j : ℕ) (e f : Entry) → WaitsAt s k i e → WaitsAt s k j f → i ≡ j
  position_is k i j e f a b =
      let same : e.serial ≡ f.serial = some_of e.serial f.serial (sym a.serial ∙ b.serial) in
      sym (place_of window i e t.rise a.at) ∙ ap (λ n. length (below n window)) same ∙ place_of window j f t.rise b.at

  -- the serial of a station is that of an entry of the window
  pub in_window : (k serial : ℕ) → k < length held → option_map (λ s. s.serial) (slice_get held k) ≡ Some serial → All (λ e. e.serial ≢ serial) window → ⊥
  in_window k serial lt h none =
      let a = at_station k lt in
      all_at (λ e. e.serial ≢ serial) window a.position a.entry none a.here.at (sym (serial_is k serial a h))

  -- the entry of a station stands at the position that its serial tells
  pub waits_at : (k serial i : ℕ) (e : Entry) → k < length held → option_map (λ s. s.serial) (slice_get held k) ≡ Some serial → i ≡ length (below serial window) →
      slice_get window i ≡ Some e → WaitsAt s k i e
  waits_at k serial i e lt h q at =
      let a = at_station k lt in
      let place : i ≡ a.position = q ∙ ap (λ n. length (below n window)) (serial_is k serial a h) ∙ place_of window a.position a.entry t.rise a.here.at in
      let same : a.entry ≡ e = some_of a.entry e (sym a.here.at ∙ sym (ap (slice_get window) place) ∙ at) in
      subst (WaitsAt s k i) same (subst (λ i. WaitsAt s k i a.entry) (sym place) a.here)

  -- ---- whether the defence may keep it, and does

  -- the point tells whether the entry at a station is visible
  seen_by : (k serial : ℕ) (b : Bool) (i : ℕ) (e : Entry) → WaitsAt s k i e → option_map (λ s. s.serial) (slice_get held k) ≡ Some serial → nat_le serial s.point.now.serial ≡ b → visible d.stt_model (before_at window i) ≡ b
  seen_by k serial b i e a h v =
      let same : serial ≡ e.serial = some_of serial e.serial (sym h ∙ a.serial) in
      sym (t.visible i e a.at) ∙ ap (λ n. nat_le n s.point.now.serial) (sym same) ∙ v

  -- the entry at a station that the point has reached isn't asked
  pub visible_tells : (k serial : ℕ) → k < length held → option_map (λ s. s.serial) (slice_get held k) ≡ Some serial → nat_le serial s.point.now.serial ≡ true → TellsAsked s k false
  visible_tells k serial lt h v =
      let a = at_station k lt in
      record {
        position = a.position;
        entry = a.entry;
        here = a.here;
        tells = sym (visible_passed d (before_at window a.position) a.entry (seen_by k serial true a.position a.entry a.here h v));
      }

  -- the entry at a station that isn't visible is asked where it has all that it reads
  pub whole_tells : (k serial : ℕ) (b : Bool) → option_map (λ s. s.serial) (slice_get held k) ≡ Some serial → nat_le serial s.point.now.serial ≡ false → TellsWhole s k b → TellsAsked s k b
  whole_tells k serial b h v w = record {
    position = w.position;
    entry = w.entry;
    here = w.here;
    tells = w.tells ∙ asked_by d (before_at window w.position) w.entry w.here.waits (seen_by k serial false w.position w.entry w.here h v);
  }

  -- a station tells whether its entry is ready
  ready_is : (k i : ℕ) (e : Entry) (b : Bool) → WaitsAt s k i e → option_map awaits_none (slice_get held k) ≡ Some b → ready d (before_at window i) e ≡ b
  ready_is k i e b h q =
      some_of (ready d (before_at window i) e) b
      (sym (t.ready i e h.at h.waits) ∙ ap (λ n. option_map awaits_none (slice_get held n)) h.station ∙ q)

  -- the entry at a station that is ready has all that it reads
  pub ready_whole : (k : ℕ) → k < length held → option_map awaits_none (slice_get held k) ≡ Some true → TellsWhole s k true
  ready_whole k lt q =
      let a = at_station k lt in
      record {
        position = a.position;
        entry = a.entry;
        here = a.here;
        tells = sym (ready_has d (before_at window a.position) a.entry (ready_is k a.position a.entry true a.here q));
      }

  -- the entry at a station that isn't ready lacks something, where no result is held back
  pub unready_whole : (k : ℕ) → k < length held → option_map awaits_none (slice_get held k) ≡ Some false → holds d.stt_defence ≡ false → TellsWhole s k false
  unready_whole k lt q h =
      let a = at_station k lt in
      record {
        position = a.position;
        entry = a.entry;
        here = a.here;
        tells = sym (unready_lacks d (before_at window a.position) a.entry h (ready_is k a.position a.entry false a.here q));
      }

  -- so it isn't asked
  pub unready_tells : (k : ℕ) → k < length held → option_map awaits_none (slice_get held k) ≡ Some false → holds d.stt_defence ≡ false → TellsAsked s k false
  unready_tells k lt q h =
      let w = unready_whole k lt q h in
      record {
        position = w.position;
        entry = w.entry;
        here = w.here;
        tells = sym (lacks_passed d (before_at window w.position) w.entry (sym w.tells));
      }

  -- the defence keeps the entry at a station that isn't ready
  pub unready_at : (k i : ℕ) (e : Entry) → WaitsAt s k i e → option_map awaits_none (slice_get held k) ≡ Some false → KeptAt s k (Some e.serial)
  unready_at k i e h q = record { position = i; entry = e; here = h; tells = unready_kept d (before_at window i) e (ready_is k i e false h q) }

  -- it keeps the entry at one that is ready where that may not show what it shows
  pub ready_at : (k i : ℕ) (e : Entry) (b : Bool) → WaitsAt s k i e → option_map awaits_none (slice_get held k) ≡ Some true → b ≡ shows_as e.item.kind d (before_at window i) e → KeptAt s k (if b then None else Some e.serial)
  ready_at k i e b h q p = record {
    position = i;
    entry = e;
    here = h;
    tells = sym (kept_by d (before_at window i) e true b (ready_is k i e true h q) (sym p));
  }

  -- ---- the walk

  -- no entry before position i is asked
  abbrev pub KeptFrom : ℕ → Type 0
  KeptFrom i = FirstFrom (is_asked d) window i

  keeps : Keeps KeptFrom window
  keeps i e h w p = first_later (is_asked d) window i e h (unwaiting_passed d (before_at window i) e w) p

  -- no entry is asked that is older than the one at station k
  abbrev pub Reached : ℕ → Type 0
  Reached k = Reaches KeptFrom window k

  pub reached_first : Reached 0
  reached_first = record { position = 0; within = omega arith; station = refl; holds = all_from (is_asked d) window }

  -- the walk goes on to the next station, where the entry at this one isn't asked
  pub reached_next : (k : ℕ) → TellsAsked s k false → Reached k → Reached (k + 1)
  reached_next k a p =
      goes_on _ _ window k a.position a.entry keeps p a.here.at a.here.waits a.here.station
      (first_later (is_asked d) window a.position a.entry a.here.at (sym a.tells))

  -- a station that isn't able awaits something
  unable_waits : (k : ℕ) (a : At k) (b : Bool) → awaits_none a.held_as ≡ b → is_able a.held_as ≡ false → b ≡ false
  unable_waits k a b q u =
      let awaits = ap (λ (w : Waiter). w.awaits) a.waiter in
      able_if a.held_as.wants (awaited_serial hold (before_at window a.position)) (sources a.entry) b
      (sym (ap (λ os. list_all is_none os) awaits) ∙ q) (sym (ap (able_as a.held_as.wants) awaits) ∙ u)

  -- ---- stations that are passed

  -- entries stand in the order of their stations
  in_order : (k m : ℕ) (a : At k) (b : At m) → k < m → a.position < b.position
  in_order k m a b lt =
      ⊎_elim
      (λ (l : a.position < b.position). l)
      (λ (l : b.position ≤ a.position).
      let fewer = stations_rise window b.position a.position l in
      let at_k = a.here.station in
      let at_m = b.here.station in
      absurd (omega (arith, fewer, at_k, at_m, lt)))
      (cases_lt a.position b.position)

  -- so do their serials
  serials_rise : (k m : ℕ) (a : At k) (b : At m) → k < m → a.entry.serial < b.entry.serial
  serials_rise k m a b lt =
      let one = get_or_from_slice_get window a.position a.entry a.entry a.here.at in
      let two = get_or_from_slice_get window b.position b.entry a.entry b.here.at in
      let less = t.rise a.position b.position a.entry (in_order k m a b lt) (slice_get_within window b.position b.entry b.here.at) in
      let first = ap (λ (e : Entry). e.serial) one in
      let second = ap (λ (e : Entry). e.serial) two in
      omega (arith, less, first, second)

  -- no entry is asked at a station that the point has reached, nor at those before it
  pub reached_tell : (m serial : ℕ) → m < length held → option_map (λ s. s.serial) (slice_get held m) ≡ Some serial → nat_le serial s.point.now.serial ≡ true → PassesTo s 0 (m + 1)
  reached_tell m serial lt h v k low le =
      let b = at_station m lt in
      let a = at_station k (omega (arith, le, lt)) in
      let last = serial_is m serial b h in
      let here : a.entry.serial ≤ serial =
      ⊎_elim
      (λ (l : k < m). let less = serials_rise k m a b l in omega (arith, less, last))
      (λ (l : m ≤ k).
      let same : k ≡ m = omega (arith, l, le) in
      let is : a.entry.serial ≡ serial = some_of a.entry.serial serial (sym a.here.serial ∙ ap (λ n. option_map (λ (s : Station). s.serial) (slice_get held n)) same ∙ h) in
      omega (arith, is))
      (cases_lt k m) in
      let reached : nat_le a.entry.serial s.point.now.serial ≡ true = grind (arith, nat_tests) in
      visible_tells k a.entry.serial (omega (arith, le, lt)) a.here.serial reached

  -- the entry at a station that isn't able isn't asked, where no result is held back
  pub unable_tells : (k : ℕ) → k < length held → option_map is_able (slice_get held k) ≡ Some false → holds d.stt_defence ≡ false → TellsAsked s k false
  unable_tells k lt u h =
      let a = at_station k lt in
      let unable : is_able a.held_as ≡ false = some_of (is_able a.held_as) false (sym (ap (option_map is_able) a.is) ∙ u) in
      let waits : awaits_none a.held_as ≡ false = unable_waits k a (awaits_none a.held_as) refl unable in
      unready_tells k lt (ap (option_map awaits_none) a.is ∙ ap Some waits) h

  -- the next station that is able is the next that is looked at, where no result is held back
  pub next_tells : (from : ℕ) (o : Option ℕ) → holds d.stt_defence ≡ false → NextAble held from o → NextAsked s from o
  next_tells from None h n = λ k low lt. unable_tells k lt (n k low lt) h
  next_tells from (Some i) h n =
      let within = n.within in
      record { low = n.low; within = within; before = λ k low lt. unable_tells k (omega (arith, lt, within)) (n.before k low lt) h }

  past_some : (n k to : ℕ) → k + n ≡ to → to ≤ length held → PassesTo s k to → Reached k → Reached to
  past_some zero k to end le all p = subst Reached (omega (arith, end)) p
  past_some (suc n) k to end le all p =
      past_some n (k + 1) to (omega (arith, end)) le (λ i low lt. all i (omega (arith, low)) lt)
      (reached_next k (all k (omega arith) (omega (arith, end))) p)

  -- the walk goes past stations that are passed
  pub reached_to : (k to : ℕ) → k ≤ to → to ≤ length held → PassesTo s k to → Reached k → Reached to
  reached_to k to low le all p = past_some (to - k) k to (omega (arith, low)) le all p

  -- where the entry at a station is asked and no older one is, what is told of it is told of the window
  pub reached_kept : (k : ℕ) (told : Option ℕ) → TellsAsked s k true → KeptAt s k told → Reached k → told ≡ oldest_kept d window
  reached_kept k told a kept p =
      let same : kept.position ≡ a.position = position_is k kept.position a.position kept.entry a.entry kept.here a.here in
      let entry : kept.entry ≡ a.entry = some_of kept.entry a.entry (sym kept.here.at ∙ ap (slice_get window) same ∙ a.here.at) in
      let (q, is, before, here) =
      first_here (is_asked d) window a.position a.entry a.here.at (sym a.tells)
      (at_next KeptFrom window k a.position a.entry keeps p a.here.at a.here.waits a.here.station) in
      kept.tells
      ∙ ap₂ (serial_kept d) (ap (before_at window) same ∙ sym before) (entry ∙ sym here)
      ∙ ap (kept_there d) (sym is)

  -- none is kept, where none was asked before and all stations that are left are passed
  pub reached_rest : (k : ℕ) → k ≤ length held → PassesTo s k (length held) → Reached k → None ≡ oldest_kept d window
  reached_rest k le all p =
      ap (kept_there d)
      (first_nowhere (is_asked d) window
      (at_end KeptFrom window (length held) keeps (reached_to k (length held) le (omega arith) all p) all_wait))

  -- none is kept, where no result is held back and no station is able
  pub nobody_asked : (o : Option ℕ) → holds d.stt_defence ≡ false → NextAble held 0 o → is_none o ≡ true → None ≡ oldest_kept d window
  nobody_asked None h n q = reached_rest 0 (omega arith) (next_tells 0 None h n) reached_first
  nobody_asked (Some i) h n q = absurd (cc)
