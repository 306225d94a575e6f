-- Parts that stand for the window go on to do so as the entries that have issued, or of which a part has, come in their
-- places, the youngest first.
use Rattle.std.proofs.Common.{◌≡◌, ℕ, zero, suc, ◌+◌, ◌-◌, ◌<◌, ◌≤◌, Bool, true, false, not, ◌&&◌, List, [], ◌∷◌, ◌++◌, length, Some, refl, ap, sym, ◌∙◌, subst, arith, take, get_or, slice_get}
use Rattle.std.specs.Prelude.{if◌then◌else◌, map, slice_set}
use Rattle.std.specs.List.{All, AllPairs}
use Rattle.std.proofs.Math.Seq.{get_or-append_seam}
use Rattle.std.proofs.lemmas.List.{get_or_append_left, length-append, take_all, take_more}
use Rattle.std.proofs.lemmas.List.Elements.{All-head}
use Rattle.std.proofs.lemmas.Option.{slice_get_within}
use Rattle.machine_desc.specs.declared.Desc.{Desc}
use Rattle.window_model.specs.declared.Entry.{Entry}
use Rattle.machine_desc.specs.Questions.{loads_pass}
use Rattle.window_model.specs.Order.{is_waiting}
use Rattle.window_model.specs.Retire.{byte_count}
use Rattle.lsq.specs.Queues.{Queues, issued_at}
use Rattle.lsq.specs.declared.load.Load.{Load}
use Rattle.refinement.specs.Noted.{access_in, has_read, queues_with_parts}
use Rattle.machine_desc.specs.declared.SttModel.TheVariants.{Futuristic}
use Rattle.rob_ring.specs.Issued.{with_issued}
use Rattle.rob_ring.specs.Ring.{Ring, is_unsafe}
use Rattle.stations.specs.Stations.{Station, Stations}
use Rattle.refinement.proofs.Moving.{permits_issued}
use Rattle.refinement.proofs.Noting.{refines_issued}
use Rattle.refinement.proofs.Stations.{station_within as held_within, stations_older}
use Rattle.refinement.specs.InFlight.{InFlight}
use Rattle.refinement.specs.Refines.{Refines}
use Rattle.refinement.specs.Stations.{left_held}
use Rattle.window_model.proofs.Serials.{all_at, all_left, all_right}
use Rattle.window_model.proofs.Lists.{set_here}
use Rattle.core_parts.specs.declared.decided.Put.{Put}
use Rattle.issue.specs.Puts.{ArePuts, IsPut, known_in, window_with_puts, width_for}
use Rattle.issue.proofs.Turning.{issues_here, placed_push}

-- ---- what the parts stand for, before and behind

-- whatever stood for the one window, with these stations and queues, does for the other with those
abbrev pub Ties : Desc → List Entry → List Station → Queues → List Entry → List Station → Queues → Type 0
Ties d entries held queues now held_now queues_now =
    (p : InFlight) → Refines (record p { version = d.version; tracked = loads_pass d; window = entries; held = held; queues = queues }) →
    Refines (record p { version = d.version; tracked = loads_pass d; window = now; held = held_now; queues = queues_now })

-- an entry comes in its place, its station is freed or waits for what is left, and what has issued of it is known
ties_more : (d : Desc) (entries : List Entry) (held : List Station) (queues : Queues) (now : List Entry) (held_now : List Station) (queues_now : Queues) (put : Put) →
    Ties d entries held queues now held_now queues_now → (k : IsPut now put) →
    Ties d entries held queues (slice_set now put.position (with_issued put.issued k.old)) (left_held d.version put.station (with_issued put.issued k.old) held_now) (known_in (loads_pass d) queues_now (with_issued put.issued k.old))
ties_more d entries held queues now held_now queues_now put t k =
    let new = with_issued put.issued k.old in
    let P : ℕ → Type 0 = λ n. Ties d entries held queues (slice_set now put.position new) (left_held d.version n new held_now) (known_in (loads_pass d) queues_now new) in
    subst P (sym k.station)
    (λ p s. refines_issued (record p { version = d.version; tracked = loads_pass d; window = now; held = held_now; queues = queues_now }) put.position k.old new (width_for (byte_count k.old)) (t p s) k.here k.waits k.issues k.stay (λ t. k.tracks))

-- ---- entries that are put in place

-- at a position of the window one entry alone stands
one_there : (es : List Entry) (i : ℕ) (a b : Entry) → slice_get es i ≡ Some a → slice_get es i ≡ Some b → a ≡ b
one_there es i a b p q = let same : Some a ≡ Some b = sym p ∙ q in cc

-- an entry in another place stays
get_other : (es : List Entry) (i m : ℕ) (e : Entry) → i < m → slice_get (slice_set es m e) i ≡ slice_get es i
get_other es i zero e lt = absurd (omega (arith, lt))
get_other [] i (suc m) e lt = refl
get_other (x ∷ es) zero (suc m) e lt = refl
get_other (x ∷ es) (suc i) (suc m) e lt = get_other es i m e (omega (arith, lt))

-- an older entry is still to be put in its place, once a younger one is in its own
still_put : (window : List Entry) (put : Put) (m : ℕ) (e : Entry) → put.position < m → IsPut window put → IsPut (slice_set window m e) put
still_put window put m e lt k = record {
  old = k.old;
  here = get_other window put.position m e lt ∙ k.here;
  waits = k.waits;
  station = k.station ∙ sym (stations_older window put.position m e (omega (arith, lt)));
  issues = k.issues;
  more = k.more;
  stay = k.stay;
  tracks = k.tracks;
}

-- the older entries are still to be put in their places, whatever comes in the youngest one's
still_left : (window : List Entry) (puts : List Put) (put : Put) (e : Entry) → ArePuts window (puts ++ put ∷ []) → ArePuts (slice_set window put.position e) puts
still_left window puts put e a =
    let each = all_left (IsPut window) puts (put ∷ []) a.each_put in
    record { each_put = λ k d within. still_put window (get_or puts k d) put.position e (older k d within) (each k d within); by_age = by_age }
  where
    many : length (puts ++ put ∷ []) ≡ length puts + 1
    many = length-append puts (put ∷ [])

    same : (k : ℕ) (d : Put) → k < length puts → (get_or (puts ++ put ∷ []) k d).position ≡ (get_or puts k d).position
    same k d within = ap (λ (p : Put). p.position) (get_or_append_left puts (put ∷ []) d k within)

    older : All (λ p. p.position < put.position) puts
    older k d within =
        let last = ap (λ (p : Put). p.position) (get_or-append_seam puts put [] d) in
        let this = same k d within in
        let lt = a.by_age k (length puts) d within (omega (arith, many)) in
        omega (arith, last, this, lt)

    by_age : AllPairs (λ p q. p.position < q.position) puts
    by_age i j d lt within =
        let this = same i d (omega (arith, lt, within)) in
        let that = same j d within in
        let less = a.by_age i j d lt (omega (arith, many, within)) in
        omega (arith, this, that, less)

-- ---- what is noted takes no room

room_by : (b : Bool) (loads : List Load) (q : Queues) → ((if b then record q { loads = loads } else q).max_loads ≡ q.max_loads) × ((if b then record q { loads = loads } else q).max_stores ≡ q.max_stores)
room_by true loads q = (refl, refl)
room_by false loads q = (refl, refl)

same_room_known : (passes : Bool) (q : Queues) (e : Entry) → ((known_in passes q e).max_loads ≡ q.max_loads) × ((known_in passes q e).max_stores ≡ q.max_stores)
same_room_known passes q e = room_by (passes && has_read e) (map (issued_at e.serial (access_in (width_for (byte_count e)) e)) q.loads) (queues_with_parts (width_for (byte_count e)) e q)

-- ---- the loop over the puts

-- the entries of the puts that are left, put into these parts, come to what all puts come to in the first parts
pub record PlacesOn (d : Desc) (puts : List Put) (rob : Ring) (stations : Stations) (queues : Queues) (left : List Put) (r : Ring) (s : Stations) (q : Queues) : Type 0 where
  pub whole : window_with_puts left r.entries ≡ window_with_puts puts rob.entries
  pub rest : ArePuts r.entries left
  pub same_room : r.room ≡ rob.room
  pub same_places : s.room ≡ stations.room
  pub same_loads : q.max_loads ≡ queues.max_loads
  pub same_stores : q.max_stores ≡ queues.max_stores
  pub ties : Ties d rob.entries stations.held queues r.entries s.held q

pub places_start : (d : Desc) (puts : List Put) (rob : Ring) (stations : Stations) (queues : Queues) → ArePuts rob.entries puts →
    PlacesOn d puts rob stations queues (take (length puts) puts) rob stations queues
places_start d puts rob stations queues a =
    subst (λ left. PlacesOn d puts rob stations queues left rob stations queues) (sym (take_all (length puts) puts (omega arith)))
    (record { whole = refl; rest = a; same_room = refl; same_places = refl; same_loads = refl; same_stores = refl; ties = λ p s. s })

-- the youngest of the first n comes in its place
module _ (d : Desc) (puts : List Put) (rob : Ring) (stations : Stations) (queues : Queues) (n : ℕ) (r : Ring) (s : Stations) (q : Queues) (put : Put)
    (t : PlacesOn d puts rob stations queues (take n puts) r s q) (some : 0 < n) (count : ℕ) (within : n ≤ count) (counted : count ≡ length puts)
    (items : List Put) (is : put ≡ get_or items (n - 1) put) (all : items ≡ puts) where
  abbrev rest : List Put
  rest = take (n - 1) puts

  split : take n puts ≡ rest ++ put ∷ []
  split =
      let e : n ≡ n - 1 + 1 = omega (arith, some) in
      let here = is ∙ ap (λ ps. get_or ps (n - 1) put) all in
      ap (λ n. take n puts) e ∙ take_more puts (n - 1) put (omega (arith, some, within, counted)) ∙ ap (λ p. rest ++ p ∷ []) (sym here)

  are : ArePuts r.entries (rest ++ put ∷ [])
  are = subst (ArePuts r.entries) split t.rest

  here : IsPut r.entries put
  here = All-head (IsPut r.entries) put [] (all_right (IsPut r.entries) rest (put ∷ []) are.each_put)

  -- the position of the entry that is put is in the window
  pub place_within : put.position < length r.entries
  place_within = slice_get_within r.entries put.position here.old here.here

  -- the stations and queues of this turn of the loop stand for the window of this turn
  now_refines : (p : InFlight) × Refines (record p { version = d.version; tracked = loads_pass d; window = rob.entries; held = stations.held; queues = queues }) →
      (p : InFlight) × Refines (record p { version = d.version; tracked = loads_pass d; window = r.entries; held = s.held; queues = q })
  now_refines k = (k.0, t.ties k.0 k.1)

  pub station_within : (p : InFlight) × Refines (record p { version = d.version; tracked = loads_pass d; window = rob.entries; held = stations.held; queues = queues }) → put.station < length s.held
  station_within k =
      let now = now_refines k in
      subst (λ n. n < length s.held) (sym here.station)
      (held_within (record now.0 { version = d.version; tracked = loads_pass d; window = r.entries; held = s.held; queues = q }) put.position here.old now.1 here.here here.waits)

  -- the entry there waits, and so is unresolved: once it or a part of it has issued it is safe as it was
  pub as_safe : (p : InFlight) × Refines (record p { version = d.version; tracked = loads_pass d; window = rob.entries; held = stations.held; queues = queues }) → (e : Entry) → slice_get r.entries put.position ≡ Some e →
      is_unsafe (with_issued put.issued e) ≡ is_unsafe e
  as_safe k e at =
      subst (λ e. is_unsafe (with_issued put.issued e) ≡ is_unsafe e) (one_there r.entries put.position here.old e here.here at)
      (ap not (permits_issued Futuristic here.old (with_issued put.issued here.old) here.waits (unresolved (now_refines k).1.point.unresolved) here.issues))
    where
      unresolved : All (λ e. is_waiting e.state ≡ true → e.resolved ≡ false) r.entries → here.old.resolved ≡ false
      unresolved all = all_at (λ e. is_waiting e.state ≡ true → e.resolved ≡ false) r.entries put.position here.old all here.here here.waits

  -- the entry once it has issued, and below the window with it
  abbrev new : Entry
  new = with_issued put.issued here.old

  abbrev with_new : List Entry
  with_new = slice_set r.entries put.position new

  module _ (r2 : Ring) (h : (e : Entry) → slice_get r.entries put.position ≡ Some e → r2 ≡ record r { entries = slice_set r.entries put.position (with_issued put.issued e) }) where
    ring_is : r2 ≡ record r { entries = with_new }
    ring_is = h here.old here.here

    new_there : slice_get r2.entries put.position ≡ Some new
    new_there = ap (λ (r : Ring). slice_get r.entries put.position) ring_is ∙ set_here r.entries put.position here.old new here.here

    -- the position of the entry that was put is in the window that has it
    pub still_within : put.position < length r2.entries
    still_within = slice_get_within r2.entries put.position new new_there

    pub places_more : (e2 : Entry) (s2 : Stations) (q2 : Queues) → slice_get r2.entries put.position ≡ Some e2 → s2 ≡ record s { held = left_held d.version put.station e2 s.held } →
        q2 ≡ known_in (loads_pass d) q e2 → PlacesOn d puts rob stations queues rest r2 s2 q2
    places_more e2 s2 q2 at k n =
        let is : e2 ≡ new = one_there r2.entries put.position e2 new at new_there in
        subst (λ r2. PlacesOn d puts rob stations queues rest r2 s2 q2) (sym ring_is)
        (subst (λ s2. PlacesOn d puts rob stations queues rest (record r { entries = with_new }) s2 q2) (sym (k ∙ ap (λ e. record s { held = left_held d.version put.station e s.held }) is))
        (subst (λ q2. PlacesOn d puts rob stations queues rest (record r { entries = with_new }) (record s { held = left_held d.version put.station new s.held }) q2) (sym (n ∙ ap (known_in (loads_pass d) q) is))
        (record {
          whole = ap (window_with_puts rest) (sym (issues_here put r.entries here.old here.here)) ∙ sym (placed_push rest put r.entries) ∙ ap (λ ps. window_with_puts ps r.entries) (sym split) ∙ t.whole;
          rest = still_left r.entries rest put new are;
          same_room = t.same_room;
          same_places = t.same_places;
          same_loads = (same_room_known (loads_pass d) q new).0 ∙ t.same_loads;
          same_stores = (same_room_known (loads_pass d) q new).1 ∙ t.same_stores;
          ties = ties_more d rob.entries stations.held queues r.entries s.held q put t.ties here;
        })))
