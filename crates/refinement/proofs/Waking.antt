-- What stations await, as older entries come to give their values: one law for an entry that becomes Done and for a
-- point that moves on.
use Rattle.std.proofs.Common.{Bool, List, None, Option, Some, [], ap, ap₂, arith, cond, false, not, refl, slice_get, subst, suc, sym, true, zero, ℕ, ◌&&◌, ◌<◌, ◌||◌, ◌∙◌, ◌∷◌, ◌≡◌, ◌≤◌}
use Rattle.std.proofs.lemmas.Bool.Decides.{nat_tests}
use Rattle.std.proofs.lemmas.List.Elements.{All-head, All-tail}
use Rattle.std.specs.List.{All, AllByRecursion as Each, AllZip, filter, list_any}
use Rattle.std.specs.Prelude.{if◌then◌else◌, map, nat_le, slice_set, ◌==◌}
use Rattle.rv_types.specs.Regs.{writes_of}
use Rattle.stations.specs.Stations.{Station, strike, struck}
use Rattle.window_model.proofs.Booleans.{or_true}
use Rattle.window_model.proofs.Serials.{all_at, rise_head, rise_tail}
use Rattle.window_model.specs.Order.{is_done, is_load, is_register, is_waiting, writer, writes}
use Rattle.window_model.specs.Serials.{Rise}
use Rattle.window_model.specs.declared.Entry.{Entry}
use Rattle.window_model.specs.declared.Item.{Item}
use Rattle.window_model.specs.declared.Progress.TheVariants.{Done}
use Rattle.refinement.proofs.Lists.{map_same, map_twice, map_id}
use Rattle.refinement.proofs.Serials.{goes_same}
use Rattle.refinement.specs.Footprint.{Found, Terms, footprint_by}
use Rattle.refinement.specs.Stations.{GoesOn, MovesOn, serials_let_go, struck_each, struck_if_given}
use Rattle.refinement.specs.Waiters.{Hold, Waiter, awaited_serial, awaited_of, gives_at, waiter_in, waiter_of}

-- ---- serials that are struck

-- the serial is one of these
abbrev pub among : ℕ → List ℕ → Bool
among n serials = list_any (λ s. n == s) serials

-- what is awaited, but for these
abbrev pub strike_each : List ℕ → Option ℕ → Option ℕ
strike_each [] o = o
strike_each (s ∷ ss) o = strike_each ss (strike s o)

strike_none : (ss : List ℕ) → strike_each ss None ≡ None
strike_none [] = refl
strike_none (s ∷ ss) = strike_none ss

strike_some : (ss : List ℕ) (n : ℕ) → strike_each ss (Some n) ≡ (if among n ss then None else Some n)
strike_some [] n = refl
strike_some (s ∷ ss) n = by_test (n == s) (strike_some ss n)
  where
    by_test : (b : Bool) → strike_each ss (Some n) ≡ (if among n ss then None else Some n) →
        strike_each ss (if b then None else Some n) ≡ (if b || among n ss then None else Some n)
    by_test true h = strike_none ss
    by_test false h = h

-- a writer that gave its value, or now gives it
own : (g : Bool) (n : ℕ) (ss : List ℕ) → (if g || among n ss then None else Some n) ≡ strike_each ss (if g then None else Some n)
own true n ss = sym (strike_none ss)
own false n ss = sym (strike_some ss n)

-- ---- entries that then give their values

-- an entry goes on, and gives its value where it did, or has one of these serials
pub record Gives (h h2 : Hold) (ss : List ℕ) (e e2 : Entry) : Type 0 where
  pub on : GoesOn e e2
  pub gives : gives_at h2 e2 ≡ (gives_at h e || among e.serial ss)

-- an entry goes on so, and its footprint stays, but for what it finds among the older ones
pub record Wakes (h h2 : Hold) (ss : List ℕ) (e e2 : Entry) : Type 0 where
  pub gives : Gives h h2 ss e e2
  pub same : (t : Terms) (l : Found) → footprint_by t l e2 ≡ footprint_by t l e

-- entries that come to give their values go on
pub gives_go : (h h2 : Hold) (ss : List ℕ) (es es2 : List Entry) → AllZip (Gives h h2 ss) es es2 → AllZip GoesOn es es2
gives_go h h2 ss [] [] v = v
gives_go h h2 ss [] (e2 ∷ es2) v = absurd v
gives_go h h2 ss (e ∷ es) [] v = absurd v
gives_go h h2 ss (e ∷ es) (e2 ∷ es2) v = (v.0.on, gives_go h h2 ss es es2 v.1)

-- what a source awaits is struck where its writer comes to give its value
pub awaited_woken : (h h2 : Hold) (ss : List ℕ) (b b2 : List Entry) → AllZip (Gives h h2 ss) b b2 → (o : Option ℕ) → awaited_serial h2 b2 o ≡ strike_each ss (awaited_serial h b o)
awaited_woken h h2 ss b b2 v None = sym (strike_none ss)
awaited_woken h h2 ss [] [] v (Some r) = sym (strike_none ss)
awaited_woken h h2 ss [] (e2 ∷ b2) v (Some r) = absurd v
awaited_woken h h2 ss (e ∷ b) [] v (Some r) = absurd v
awaited_woken h h2 ss (e ∷ b) (e2 ∷ b2) v (Some r) =
    ap (λ (i : Item). awaited_of h2 (cond (is_register r (writes_of i.instr)) (Some e2) (writer b2 r))) v.0.on.item ∙ by_writes (writes r e) (awaited_woken h h2 ss b b2 v.1 (Some r))
  where
    by_writes : (w : Bool) → awaited_of h2 (writer b2 r) ≡ strike_each ss (awaited_of h (writer b r)) →
        awaited_of h2 (cond w (Some e2) (writer b2 r)) ≡ strike_each ss (awaited_of h (cond w (Some e) (writer b r)))
    by_writes true k = ap₂ (λ (d : Bool) (s : ℕ). if d then None else Some s) v.0.gives v.0.on.serial ∙ own (gives_at h e) e.serial ss
    by_writes false k = k

-- a station that awaits none of these serials any more
abbrev pub woken : List ℕ → Waiter → Waiter
woken ss w = record w { awaits = map (strike_each ss) w.awaits }

-- ---- the stations, told of it

-- where none is struck all is awaited as it was
pub strike_nothing : (os : List (Option ℕ)) → map (strike_each []) os ≡ os
strike_nothing os = map_id (strike_each []) (λ o. refl) os

-- stations that are told of serials await none of them any more
pub held_woken : (ss : List ℕ) (held : List Station) → map waiter_in (struck_each ss held) ≡ map (woken ss) (map waiter_in held)
held_woken [] held = sym (map_id (woken []) (λ (w : Waiter). ap (λ os. record w { awaits = os }) (strike_nothing w.awaits)) (map waiter_in held))
held_woken (s ∷ ss) held =
    held_woken ss (map (struck s) held)
    ∙ map_twice (woken ss) waiter_in (map (struck s) held) ∙ map_twice (λ x. woken ss (waiter_in x)) (struck s) held
    ∙ map_same (λ x. woken ss (waiter_in (struck s x))) (λ x. woken (s ∷ ss) (waiter_in x)) held
    (λ (x : Station). ap (λ os. record { serial = x.serial; awaits = os; wants = x.wants }) (map_twice (strike_each ss) (strike s) x.awaits))
    ∙ sym (map_twice (woken (s ∷ ss)) waiter_in held)

-- ---- an entry becomes Done

-- one entry wakes, in its place, and the others stay
pub wakes_at : (h h2 : Hold) (ss : List ℕ) (es : List Entry) (i : ℕ) (e e2 : Entry) → Rise es → slice_get es i ≡ Some e → Wakes h h2 ss e e2 →
    ((d : Entry) → (d.serial == e.serial) ≡ false → Wakes h h2 ss d d) → AllZip (Wakes h h2 ss) es (slice_set es i e2)
wakes_at h h2 ss [] i e e2 r k g others = absurd (cc)
wakes_at h h2 ss (x ∷ es) zero e e2 r k g others =
    let a : x ≡ e = cc in
    (subst (λ x. Wakes h h2 ss x e2) (sym a) g, younger es (subst (λ (x : Entry). All (λ d. x.serial < d.serial) es) a (rise_head x es r)))
  where
    younger : (es : List Entry) → All (λ d. e.serial < d.serial) es → AllZip (Wakes h h2 ss) es es
    younger [] a = tt
    younger (d ∷ es) a =
        let lt = All-head (λ d. e.serial < d.serial) d es a in
        let f : (d.serial == e.serial) ≡ false = grind (arith, nat_tests) in
        (others d f, younger es (All-tail (λ d. e.serial < d.serial) d es a))
wakes_at h h2 ss (x ∷ es) (suc i) e e2 r k g others =
    let lt : x.serial < e.serial = all_at (λ d. x.serial < d.serial) es i e (rise_head x es r) k in
    let f : (x.serial == e.serial) ≡ false = grind (arith, nat_tests) in
    (others x f, wakes_at h h2 ss es i e e2 (rise_tail x es r) k g others)

-- the serial of an entry that gives its value, if it does
abbrev pub given : Bool → ℕ → List ℕ
given g serial = if g then serial ∷ [] else []

done_gives : (g d : Bool) (n : ℕ) → (g && true) ≡ ((g && d) || among n (given (g && true) n))
done_gives true d n = let t : (n == n) ≡ true = grind (arith, nat_tests) in sym (or_true d (among n (n ∷ [])) (ap (λ b. b || false) t))
done_gives false d n = refl

other_gives : (g b : Bool) (m n : ℕ) → (m == n) ≡ false → b ≡ (b || among m (given g n))
other_gives true b m n f = sym (ap (λ c. b || (c || false)) f ∙ no_more b)
  where
    no_more : (b : Bool) → (b || (false || false)) ≡ b
    no_more true = refl
    no_more false = refl
other_gives false b m n f = no_more b
  where
    no_more : (b : Bool) → b ≡ (b || false)
    no_more true = refl
    no_more false = refl

-- an entry that becomes Done wakes with its serial, if it then gives its value
pub wakes_done : (h : Hold) (es : List Entry) (i : ℕ) (e : Entry) → Rise es → slice_get es i ≡ Some e → is_waiting e.state ≡ false →
    AllZip (Wakes h h (given (gives_at h (record e { state = Done })) e.serial)) es (slice_set es i (record e { state = Done }))
wakes_done h es i e r k w =
    let e2 : Entry = record e { state = Done } in
    wakes_at h h (given (gives_at h e2) e.serial) es i e e2 r k
    (record {
      gives = record {
        on = record { serial = refl; item = refl };
        gives = done_gives (not (h.holds && is_load e.item.kind && not (nat_le e.serial h.point))) (is_done e.state) e.serial;
      };
      same = λ t l. ap (λ b. record (footprint_by t l e) { waiter = if b then Some (waiter_of t.version l.awaits e) else None }) (sym w);
    })
    (λ d f. record {
      gives = record { on = goes_same d; gives = other_gives (gives_at h e2) (gives_at h d) d.serial e.serial f };
      same = λ t l. refl;
    })

-- stations are told of one serial where an entry gives its value
pub struck_given : (h : Hold) (e : Entry) (held : List Station) → struck_if_given h e held ≡ struck_each (given (gives_at h e) e.serial) held
struck_given h e held = by_test (gives_at h e)
  where
    by_test : (b : Bool) → (if b then map (struck e.serial) held else held) ≡ struck_each (given b e.serial) held
    by_test true = refl
    by_test false = refl

-- ---- the point moves on

-- an entry gives its value by the second, and not by the first
abbrev pub is_new : Hold → Hold → Entry → Bool
is_new h h2 e = not (gives_at h e) && gives_at h2 e

-- none of these has the serial
none_among : (h h2 : Hold) (n : ℕ) (es : List Entry) → All (λ d. n < d.serial) es → among n (serials_let_go h h2 es) ≡ false
none_among h h2 n [] a = refl
none_among h h2 n (e ∷ es) a =
    let lt = All-head (λ d. n < d.serial) e es a in
    let f : (n == e.serial) ≡ false = grind (arith, nat_tests) in
    by_new (is_new h h2 e) (none_among h h2 n es (All-tail (λ d. n < d.serial) e es a)) f
  where
    by_new : (b : Bool) → among n (serials_let_go h h2 es) ≡ false → (n == e.serial) ≡ false →
        among n (map (λ e. e.serial) (cond b (e ∷ filter (is_new h h2) es) (filter (is_new h h2) es))) ≡ false
    by_new true k f = ap₂ (λ a b. a || b) f k
    by_new false k f = k

-- the oldest's serial is one of those that are released exactly where the oldest is new
among_head : (h h2 : Hold) (e : Entry) (es : List Entry) → Rise (e ∷ es) → among e.serial (serials_let_go h h2 (e ∷ es)) ≡ is_new h h2 e
among_head h h2 e es r = by_new (is_new h h2 e) (none_among h h2 e.serial es (rise_head e es r))
  where
    by_new : (b : Bool) → among e.serial (serials_let_go h h2 es) ≡ false →
        among e.serial (map (λ e. e.serial) (cond b (e ∷ filter (is_new h h2) es) (filter (is_new h h2) es))) ≡ b
    by_new true k = let t : (e.serial == e.serial) ≡ true = grind (arith, nat_tests) in ap (λ c. c || among e.serial (serials_let_go h h2 es)) t
    by_new false k = k

-- an entry's serial is one of these exactly where the entry is new
abbrev Tells : Hold → Hold → List ℕ → Entry → Type 0
Tells h h2 ss e = among e.serial ss ≡ is_new h h2 e

past_each : (h h2 : Hold) (x : Entry) (rest es : List Entry) → All (λ d. x.serial < d.serial) es → Each (Tells h h2 (map (λ e. e.serial) rest)) es →
    (b : Bool) → Each (Tells h h2 (map (λ e. e.serial) (cond b (x ∷ rest) rest))) es
past_each h h2 x rest [] a k b = tt
past_each h h2 x rest (e ∷ es) a k b =
    let lt = All-head (λ d. x.serial < d.serial) e es a in
    let f : (e.serial == x.serial) ≡ false = grind (arith, nat_tests) in
    (by_new b f ∙ k.0, past_each h h2 x rest es (All-tail (λ d. x.serial < d.serial) e es a) k.1 b)
  where
    by_new : (b : Bool) → (e.serial == x.serial) ≡ false → among e.serial (map (λ e. e.serial) (cond b (x ∷ rest) rest)) ≡ among e.serial (map (λ e. e.serial) rest)
    by_new true f = ap (λ c. c || among e.serial (map (λ (e : Entry). e.serial) rest)) f
    by_new false f = refl

released_tell : (h h2 : Hold) (es : List Entry) → Rise es → Each (Tells h h2 (serials_let_go h h2 es)) es
released_tell h h2 [] r = tt
released_tell h h2 (e ∷ es) r =
    (among_head h h2 e es r, past_each h h2 e (filter (is_new h h2) es) es (rise_head e es r) (released_tell h h2 es (rise_tail e es r)) (is_new h h2 e))

-- what gave its value still does
still_gives : (l d v v2 : Bool) → (v ≡ true → v2 ≡ true) → (not (l && not v) && d) ≡ true → (not (l && not v2) && d) ≡ true
still_gives false d v v2 up g = g
still_gives true d true v2 up g = let q = up refl in ap (λ b. not (true && not b) && d) q ∙ g
still_gives true d false v2 up g = absurd (cc)

gives_on : (h h2 : Hold) (e : Entry) → MovesOn h h2 → gives_at h e ≡ true → gives_at h2 e ≡ true
gives_on h h2 e m g =
    let le = m.on in
    let up : nat_le e.serial h.point ≡ true → nat_le e.serial h2.point ≡ true = λ q. below_too e.serial h.point h2.point le q in
    ap (λ b. not (b && is_load e.item.kind && not (nat_le e.serial h2.point)) && is_done e.state) m.holds
    ∙ by_holds h.holds up g
  where
    below_too : (n p p2 : ℕ) → p ≤ p2 → nat_le n p ≡ true → nat_le n p2 ≡ true
    below_too n p p2 le q = grind (arith, nat_tests)

    by_holds : (b : Bool) → (nat_le e.serial h.point ≡ true → nat_le e.serial h2.point ≡ true) → (not (b && is_load e.item.kind && not (nat_le e.serial h.point)) && is_done e.state) ≡ true →
        (not (b && is_load e.item.kind && not (nat_le e.serial h2.point)) && is_done e.state) ≡ true
    by_holds b up g = still_gives (b && is_load e.item.kind) (is_done e.state) (nat_le e.serial h.point) (nat_le e.serial h2.point) up g

either : (g g2 : Bool) → (g ≡ true → g2 ≡ true) → g2 ≡ (g || (not g && g2))
either true g2 on = on refl
either false g2 on = refl

to_wakes : (h h2 : Hold) (ss : List ℕ) (es : List Entry) → MovesOn h h2 → Each (Tells h h2 ss) es → AllZip (Wakes h h2 ss) es es
to_wakes h h2 ss [] m k = tt
to_wakes h h2 ss (e ∷ es) m k = (
  record {
    gives = record { on = goes_same e; gives = either (gives_at h e) (gives_at h2 e) (gives_on h h2 e m) ∙ ap (λ b. gives_at h e || b) (sym k.0) };
    same = λ t l. refl;
  },
  to_wakes h h2 ss es m k.1,
)

-- as the point moves on, entries wake with the serials that are released
pub wakes_moved : (h h2 : Hold) (es : List Entry) → MovesOn h h2 → Rise es → AllZip (Wakes h h2 (serials_let_go h h2 es)) es es
wakes_moved h h2 es m r = to_wakes h h2 (serials_let_go h h2 es) es m (released_tell h h2 es r)
