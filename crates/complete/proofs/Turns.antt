-- Completing entry by entry: what is left to complete makes the whole.
use Rattle.std.proofs.Common.{◌≡◌, ℕ, zero, suc, ◌+◌, ◌≤◌, Bool, true, false, cond, List, [], ◌∷◌, ◌++◌, length, take, drop, Option, Some, None, refl, ap, ap₂, sym, ◌∙◌, arith, slice_get}
use Rattle.std.specs.Prelude.{if◌then◌else◌, map, slice_set}
use Rattle.std.specs.List.{filter, fold}
use Rattle.std.specs.Option.{option_map}
use Rattle.std.specs.Slice.Scan.{HoldsNowhere, holds_at}
use Rattle.std.proofs.lemmas.List.{append-nil, append_assoc, drop_all, length-append, length-map, length-set, take_all}
use Rattle.window_model.specs.declared.Entry.{Entry}
use Rattle.window_model.specs.declared.Event.{Event}
use Rattle.window_model.specs.declared.Event.TheVariants as event
use Rattle.window_model.specs.declared.Progress.{Progress}
use Rattle.window_model.specs.declared.Progress.TheVariants.{Waiting, Busy, Done}
use Rattle.window_model.specs.Fill.{complete, completes, completes_at, after_completion}
use Rattle.window_model.specs.Order.{is_busy}
use Rattle.window_model.specs.Row.{Row}
use Rattle.rob_ring.specs.Ring.{IsNext, in_execution}
use Rattle.window_model.proofs.Booleans.{some_of}
use Rattle.rob_ring.proofs.Gaps.{to_end, to_next}
use Rattle.refinement.proofs.Lists.{halves}
use Rattle.core_parts.specs.Described.{Described}

-- the entry, once it is Done
abbrev pub done : Entry → Entry
done e = record e { state = Done }

-- the entries that become Done in this cycle, oldest first
abbrev finished : ℕ → List Entry → List Entry
finished cycle entries = filter (completes cycle) entries

-- the events, once this entry is Done
abbrev with_done : List Event → Entry → List Event
with_done events e = events ++ event.Done e.serial ∷ []

-- ---- lists of entries in places

-- a map that has come to a position leaves the element there as it was
get_mapped : (f : Entry → Entry) (es : List Entry) (i : ℕ) → slice_get (map f (take i es) ++ drop i es) i ≡ slice_get es i
get_mapped f es zero = refl
get_mapped f [] (suc i) = refl
get_mapped f (e ∷ es) (suc i) = get_mapped f es i

-- a map that has come to a position goes on over the element there, once that is mapped
map_set : (f : Entry → Entry) (es : List Entry) (i : ℕ) (e : Entry) → slice_get es i ≡ Some e →
    slice_set (map f (take i es) ++ drop i es) i (f e) ≡ map f (take (suc i) es) ++ drop (suc i) es
map_set f [] i e h = absurd (cc)
map_set f (x ∷ es) zero e h = let q : x ≡ e = cc in ap (λ y. f y ∷ es) (sym q)
map_set f (x ∷ es) (suc i) e h = ap (λ ys. f x ∷ ys) (map_set f es i e h)

-- a map that has come to a position goes on over an element that it doesn't change
map_stays : (f : Entry → Entry) (es : List Entry) (i : ℕ) (e : Entry) → slice_get es i ≡ Some e → f e ≡ e →
    map f (take i es) ++ drop i es ≡ map f (take (suc i) es) ++ drop (suc i) es
map_stays f [] i e h k = absurd (cc)
map_stays f (x ∷ es) zero e h k = let q : x ≡ e = cc in ap (λ y. y ∷ es) (q ∙ sym k ∙ ap f (sym q))
map_stays f (x ∷ es) (suc i) e h k = ap (λ ys. f x ∷ ys) (map_stays f es i e h k)

by_test : {S : Type 0} (f : S → Entry → S) (s : S) (e : Entry) (es : List Entry) (b : Bool) → fold f s (cond b (e ∷ es) es) ≡ fold f (if b then f s e else s) es
by_test f s e es true = refl
by_test f s e es false = refl

-- a fold over those that pass, from a position on, takes the one there first
fold_left : {S : Type 0} (f : S → Entry → S) (s : S) (p : Entry → Bool) (es : List Entry) (i : ℕ) (e : Entry) → slice_get es i ≡ Some e →
    fold f s (filter p (drop i es)) ≡ fold f (if p e then f s e else s) (filter p (drop (suc i) es))
fold_left f s p [] i e h = absurd (cc)
fold_left f s p (x ∷ es) zero e h =
    let q : x ≡ e = cc in
    by_test f s x (filter p es) (p x) ∙ ap (λ y. fold f (if p y then f s y else s) (filter p es)) q
fold_left f s p (x ∷ es) (suc i) e h = fold_left f s p es i e h

events_all : (events : List Event) (es : List Entry) → fold with_done events es ≡ events ++ map (λ e. event.Done e.serial) es
events_all events [] = sym (append-nil events)
events_all events (e ∷ es) =
    events_all (with_done events e) es ∙ append_assoc events (event.Done e.serial ∷ []) (map (λ e. event.Done e.serial) es)

-- ---- the phase, entry by entry

-- the entries below a position are through
abbrev through : ℕ → List Entry → ℕ → List Entry
through cycle es i = map (after_completion cycle) (take i es) ++ drop i es

-- with the entries from a position on, this machine and this row come to what the first ones come to with all
pub record CompletesOn (s : Described) (row : Row) (i : ℕ) (now : Described) (row_now : Row) : Type 0 where
  pub machine : now ≡ record s { machine = record (s.machine) { window = through s.machine.cycle s.machine.window i } }
  pub events : fold with_done row_now.events (finished s.machine.cycle (drop i s.machine.window)) ≡ fold with_done row.events (finished s.machine.cycle s.machine.window)
  pub same_cycle : row_now.cycle ≡ row.cycle
  pub few : length row_now.events ≤ length row.events + i

-- the window once one entry more is completed
entries_more : (cycle : ℕ) (es now : List Entry) (i : ℕ) (e : Entry) (b : Bool) → now ≡ map (after_completion cycle) (take i es) ++ drop i es → slice_get es i ≡ Some e → completes cycle e ≡ b →
    (if b then slice_set now i (done e) else now) ≡ map (after_completion cycle) (take (suc i) es) ++ drop (suc i) es
entries_more cycle es now i e true n h c =
    ap₂ (λ ys y. slice_set ys i y) n (sym (ap (λ b. if b then done e else e) c)) ∙ map_set (after_completion cycle) es i e h
entries_more cycle es now i e false n h c = n ∙ map_stays (after_completion cycle) es i e h (ap (λ b. if b then done e else e) c)

-- a test that is told of the entry at a position is told of that entry
told_of : (p : Entry → Bool) (o : Option Entry) (e : Entry) (b : Bool) → option_map p o ≡ Some b → o ≡ Some e → b ≡ p e
told_of p o e b h g = let k : Some b ≡ Some (p e) = sym h ∙ ap (option_map p) g in cc

-- an entry that doesn't execute isn't due
not_due : (cycle : ℕ) (s : Progress) → is_busy s ≡ false → completes_at cycle s ≡ false
not_due cycle Waiting h = refl
not_due cycle (Busy due) h = absurd (cc)
not_due cycle Done h = refl

module _ (s : Described) (row : Row) (i : ℕ) (now : Described) (row_now : Row) (c : CompletesOn s row i now row_now) where
  entries_are : now.machine.window ≡ through s.machine.cycle s.machine.window i
  entries_are = ap (λ (s : Described). s.machine.window) c.machine

  as_it_was : (e : Entry) → slice_get now.machine.window i ≡ Some e → slice_get s.machine.window i ≡ Some e
  as_it_was e g = sym (get_mapped (after_completion s.machine.cycle) s.machine.window i) ∙ ap (λ ws. slice_get ws i) (sym entries_are) ∙ g

  -- the entry at the position is due, and becomes Done
  completes_more : (e : Entry) (next : Described) (row_next : Row) → option_map (completes now.machine.cycle) (slice_get now.machine.window i) ≡ Some true → slice_get now.machine.window i ≡ Some e →
      next ≡ record now { machine = record (now.machine) { window = slice_set now.machine.window i (done e) } } → row_next ≡ record row_now { events = row_now.events ++ event.Done e.serial ∷ [] } →
      CompletesOn s row (i + 1) next row_next
  completes_more e next row_next due g n r =
      let due2 = ap (λ (s : Described). option_map (completes s.machine.cycle) (slice_get now.machine.window i)) (sym c.machine) ∙ due in
      let d : completes s.machine.cycle e ≡ true = sym (told_of (completes s.machine.cycle) (slice_get now.machine.window i) e true due2 g) in
      let h = as_it_was e g in
      let next_is : suc i ≡ i + 1 = omega arith in
      let events : row_next.events ≡ with_done row_now.events e = ap (λ (r : Row). r.events) r in
      let more = length-append row_now.events (event.Done e.serial ∷ []) in
      let longer = ap length events in
      record {
        machine = n ∙ ap (λ (now : Described). record now { machine = record (now.machine) { window = slice_set now.machine.window i (done e) } }) c.machine
            ∙ ap (λ w. record s { machine = record (s.machine) { window = w } }) (entries_more s.machine.cycle s.machine.window (through s.machine.cycle s.machine.window i) i e true refl h d ∙ ap (through s.machine.cycle s.machine.window) next_is);
        events = ap₂ (λ k vs. fold with_done vs (finished s.machine.cycle (drop k s.machine.window))) (sym next_is) events
            ∙ ap (λ b. fold with_done (if b then with_done row_now.events e else row_now.events) (finished s.machine.cycle (drop (suc i) s.machine.window))) (sym d)
            ∙ sym (fold_left with_done row_now.events (completes s.machine.cycle) s.machine.window i e h) ∙ c.events;
        same_cycle = ap (λ (r : Row). r.cycle) r ∙ c.same_cycle;
        few = omega (arith, more, longer, c.few);
      }

  -- the phase goes on over an entry that is due where its serial alone is told, and what becomes of whichever entry
  -- stands there
  serial_by : (o : Option Entry) (n : ℕ) (next : Described) (row_next : Row) → slice_get now.machine.window i ≡ o → option_map (completes now.machine.cycle) o ≡ Some true → option_map (λ (e : Entry). e.serial) o ≡ Some n →
      ((e : Entry) → slice_get now.machine.window i ≡ Some e → next ≡ record now { machine = record (now.machine) { window = slice_set now.machine.window i (done e) } }) →
      row_next ≡ record row_now { events = row_now.events ++ event.Done n ∷ [] } → CompletesOn s row (i + 1) next row_next
  serial_by None n next row_next at due serial m r = absurd (cc)
  serial_by (Some e) n next row_next at due serial m r =
      let is : n ≡ e.serial = sym (some_of e.serial n serial) in
      completes_more e next row_next (ap (option_map (completes now.machine.cycle)) at ∙ due) at (m e at)
      (r ∙ ap (λ n. record row_now { events = row_now.events ++ event.Done n ∷ [] }) is)

  pub completes_serial : (n : ℕ) (next : Described) (row_next : Row) → option_map (completes now.machine.cycle) (slice_get now.machine.window i) ≡ Some true →
      option_map (λ (e : Entry). e.serial) (slice_get now.machine.window i) ≡ Some n →
      ((e : Entry) → slice_get now.machine.window i ≡ Some e → next ≡ record now { machine = record (now.machine) { window = slice_set now.machine.window i (done e) } }) →
      row_next ≡ record row_now { events = row_now.events ++ event.Done n ∷ [] } → CompletesOn s row (i + 1) next row_next
  completes_serial n next row_next due serial m r = serial_by (slice_get now.machine.window i) n next row_next refl due serial m r

  past_by : (o : Option Entry) → slice_get now.machine.window i ≡ o → option_map (completes now.machine.cycle) o ≡ Some false → CompletesOn s row (i + 1) now row_now
  past_by None g due = absurd (cc)
  past_by (Some e) g due =
      let due2 = ap (λ (s : Described). option_map (completes s.machine.cycle) (Some e)) (sym c.machine) ∙ due in
      let d : completes s.machine.cycle e ≡ false = sym (told_of (completes s.machine.cycle) (Some e) e false due2 refl) in
      let h = as_it_was e g in
      let next_is : suc i ≡ i + 1 = omega arith in
      record {
        machine = c.machine ∙ ap (λ w. record s { machine = record (s.machine) { window = w } })
            (entries_more s.machine.cycle s.machine.window (through s.machine.cycle s.machine.window i) i e false refl h d ∙ ap (through s.machine.cycle s.machine.window) next_is);
        events = ap (λ k. fold with_done row_now.events (finished s.machine.cycle (drop k s.machine.window))) (sym next_is)
            ∙ ap (λ b. fold with_done (if b then with_done row_now.events e else row_now.events) (finished s.machine.cycle (drop (suc i) s.machine.window))) (sym d)
            ∙ sym (fold_left with_done row_now.events (completes s.machine.cycle) s.machine.window i e h) ∙ c.events;
        same_cycle = c.same_cycle;
        few = omega (arith, c.few);
      }

  -- the phase goes on over an entry that isn't due, and all stays
  pub completes_past : option_map (completes now.machine.cycle) (slice_get now.machine.window i) ≡ Some false → CompletesOn s row (i + 1) now row_now
  completes_past due = past_by (slice_get now.machine.window i) refl due

  -- the phase goes on over an entry that doesn't execute, and all stays
  past_idle : (e : Entry) → slice_get now.machine.window i ≡ Some e → in_execution e ≡ false → CompletesOn s row (i + 1) now row_now
  past_idle e at idle = completes_past (ap (option_map (completes now.machine.cycle)) at ∙ ap Some (not_due now.machine.cycle e.state idle))

  -- the phase leaves as many entries as there were
  pub as_many : length now.machine.window ≡ length s.machine.window
  as_many =
      let a = ap length entries_are in
      let b = length-append (map (after_completion s.machine.cycle) (take i s.machine.window)) (drop i s.machine.window) in
      let k = length-map (take i s.machine.window) (after_completion s.machine.cycle) in
      let d = length-append (take i s.machine.window) (drop i s.machine.window) in
      let f = ap length (halves i s.machine.window) in
      omega (arith, a, b, k, d, f)

  -- ---- once all entries are through

  pub machine_over : length s.machine.window ≤ i → now ≡ record s { machine = (complete s.machine).machine }
  machine_over le =
      c.machine
      ∙ ap₂ (λ a b. record s { machine = record (s.machine) { window = map (after_completion s.machine.cycle) a ++ b } }) (take_all i s.machine.window le) (drop_all i s.machine.window le)
      ∙ ap (λ w. record s { machine = record (s.machine) { window = w } }) (append-nil (map (after_completion s.machine.cycle) s.machine.window))

  pub row_over : length s.machine.window ≤ i → row_now ≡ record row { events = row.events ++ (complete s.machine).events }
  row_over le =
      let none = ap (λ es. fold with_done row_now.events (finished s.machine.cycle es)) (sym (drop_all i s.machine.window le)) in
      ap₂ (λ n es. record { cycle = n; events = es }) c.same_cycle (none ∙ c.events ∙ events_all row.events (finished s.machine.cycle s.machine.window))

-- ---- the window has as many entries as before

many_by : (v next : Described) (i n : ℕ) (o : Option Entry) → slice_get v.machine.window i ≡ o → option_map (λ (e : Entry). e.serial) o ≡ Some n →
    ((e : Entry) → slice_get v.machine.window i ≡ Some e → next ≡ record v { machine = record (v.machine) { window = slice_set v.machine.window i (done e) } }) → length next.machine.window ≡ length v.machine.window
many_by v next i n None at serial m = absurd (cc)
many_by v next i n (Some e) at serial m = ap (λ (v : Described). length v.machine.window) (m e at) ∙ length-set v.machine.window i (done e)

pub many_then : (v next : Described) (i n : ℕ) → option_map (λ (e : Entry). e.serial) (slice_get v.machine.window i) ≡ Some n →
    ((e : Entry) → slice_get v.machine.window i ≡ Some e → next ≡ record v { machine = record (v.machine) { window = slice_set v.machine.window i (done e) } }) → length next.machine.window ≡ length v.machine.window
many_then v next i n serial m = many_by v next i n (slice_get v.machine.window i) refl serial m

-- ---- from one that executes to the next

module _ (s : Described) (row : Row) (now : Described) (row_now : Row) where
  pub completes_to : (i j : ℕ) → IsNext in_execution now.machine.window i j → CompletesOn s row i now row_now → CompletesOn s row j now row_now
  completes_to i j next c = to_next in_execution now.machine.window (λ k. CompletesOn s row k now row_now) (λ k e at idle c. past_idle s row k now row_now c e at idle) i j next c

  pub completes_end : (i : ℕ) → i ≤ length now.machine.window → HoldsNowhere (holds_at in_execution now.machine.window) i (length now.machine.window) → CompletesOn s row i now row_now →
      CompletesOn s row (length now.machine.window) now row_now
  completes_end i le none c = to_end in_execution now.machine.window (λ k. CompletesOn s row k now row_now) (λ k e at idle c. past_idle s row k now row_now c e at idle) i le none c

-- ---- what is due doesn't wait
