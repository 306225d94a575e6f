-- No port is granted more often than it is there, so Issue has few events.
use Rattle.std.proofs.Common.{◌≡◌, ℕ, ◌+◌, ◌-◌, ◌*◌, ◌≤◌, ◌<◌, Bool, true, false, ◌&&◌, cond, List, [], ◌∷◌, length, refl, sym, subst, arith, length-append}
use Rattle.std.proofs.lemmas.List.{length-map}
use Rattle.std.specs.Prelude.{if◌then◌else◌, nat_lt, map}
use Rattle.std.specs.List.{flat_map}
use Rattle.std.specs.Option.{option_to_list}
use Rattle.rv_types.specs.Value.{one_if}
use Rattle.rv_types.specs.Isa.{Effect}
use Rattle.rv_types.specs.declared.Kind.{Kind}
use Rattle.rv_types.specs.declared.Kind.TheVariants.{Load}
use Rattle.machine_desc.specs.declared.Desc.{Desc}
use Rattle.window_model.specs.declared.Divider.{Divider}
use Rattle.window_model.specs.declared.Entry.{Entry}
use Rattle.window_model.specs.declared.Event.{Event}
use Rattle.window_model.specs.declared.Event.TheVariants as event
use Rattle.window_model.specs.State.{Machine}
use Rattle.window_model.specs.Order.{first, each_from, is_store}
use Rattle.window_model.specs.Around.{Around, around}
use Rattle.window_model.specs.MayIssue.{effect_of}
use Rattle.window_model.specs.Ports.{Port, AluPort, MulPort, DivPort, AddressPort, DataPort, LoadPort, port_of, ports, asking, is_granted, may_at}
use Rattle.window_model.specs.Issue.{Begun, issue, issue_entry, issue_whole, if_granted, with_address, with_data, begin_as, load_as, access_of, waits}
use Rattle.window_model.specs.inner.Issue.{data_events}
use Rattle.window_model.proofs.Together.{data_few, entry_parts, issue_parts}
use Rattle.window_model.specs.declared.lookup.Line.{Line}
use Rattle.window_model.specs.declared.lookup.Request.{Request}
use Rattle.window_model.specs.Access.{in_order, line_at, look_at, look_events, looked_up, prefetch_request, source_of}
use Rattle.window_model.proofs.Issuing.{as_many, by_after_load, by_load, one_at_most}
use Rattle.window_model.proofs.Telling.{lines_few}
use Rattle.window_model.proofs.Booleans.{below}
use Rattle.machine_facts.proofs.Adds.{Adds}

-- how many of these entries, behind older ones, are granted a port
abbrev taken : Desc → Around → Port → List Entry → List Entry → ℕ
taken d now p before [] = 0
taken d now p before (e ∷ es) = cond (is_granted d now p before e) 1 0 + taken d now p (e ∷ before) es

-- a port that an entry is granted was left by those that asked for it before
one_taken : (m l : Bool) (t a n : ℕ) → t ≤ n - (one_if m + a) → (l ≡ true → a < n) → cond (m && l) 1 0 + t ≤ n - a
one_taken true true t a n h k = let b = k refl in omega arith
one_taken true false t a n h k = omega arith
one_taken false l t a n h k = omega arith

taken_few : (d : Desc) (now : Around) (p : Port) (before es : List Entry) → taken d now p before es ≤ ports d p - asking d now p before
taken_few d now p before [] = omega arith
taken_few d now p before (e ∷ es) =
    one_taken (may_at d now p before e) (nat_lt (asking d now p before) (ports d p)) (taken d now p (e ∷ before) es) (asking d now p before) (ports d p) (taken_few d now p (e ∷ before) es)
    (λ l. below _ _ l)

-- ---- an entry that begins has one event, and a load at most three

-- the most events of an entry that is granted a port
abbrev told_at : Port → ℕ
told_at LoadPort = 3
told_at _ = 1

-- a load that looks up lines has at most three events: its lines, and the one that is prefetched
looks_few : (d : Desc) (now : Around) (a n serial : ℕ) → let found = looked_up d now a n in length (look_events serial found (prefetch_request d now found)) ≤ 3
looks_few d now a n serial =
    let found = looked_up d now a n in
    let ahead = prefetch_request d now found in
    let told : Line → Event = λ l. event.Ld serial (line_at l) (look_at l) in
    let told_ahead : Request → Event = λ r. event.Pf r.line (source_of r) in
    let sum = length-append (map told (in_order found)) (map told_ahead (option_to_list ahead)) in
    let own_many = length-map (in_order found) told in
    let more_many = length-map (option_to_list ahead) told_ahead in
    let looked_many = as_many d now a n in
    let two = lines_few d a n in
    let one = one_at_most ahead in
    omega (arith, sum, own_many, more_many, looked_many, two, one)

-- a load has at most three events
pub load_few : (d : Desc) (now : Around) (b : List Entry) (e : Entry) (f : Effect) (v : ℕ) → length (load_as (access_of d now b e) d now e f v).events ≤ 3
load_few d now b e f v = by_load d now (λ a. length (load_as a d now e f v).events ≤ 3) (omega arith) (λ a n some room. looks_few d now a n e.serial) (λ a n some r. omega arith) (λ c. omega arith) b e

begin_few : (k : Kind) (d : Desc) (now : Around) (before : List Entry) (e : Entry) → length (begin_as k d now before e).events ≤ told_at (port_of k)
begin_few Load d now before e = load_few d now before e _ _
begin_few _ d now before e = omega arith

granted_few : (b : Bool) (most : ℕ) (s t : Begun) → length s.events ≤ most → length t.events ≤ 0 → length (if b then s else t).events ≤ cond b most 0
granted_few true most s t p q = p
granted_few false most s t p q = q

-- ---- an entry in one piece has one port, and each part of a store its own

-- the most events of an entry by the ports that it is granted
abbrev somewhere : Desc → Around → List Entry → Entry → ℕ
somewhere d now b e =
    cond (is_granted d now AluPort b e) 1 0
    + (cond (is_granted d now MulPort b e) 1 0 + (cond (is_granted d now DivPort b e) 1 0 + (cond (is_granted d now LoadPort b e) 3 0 + (cond (is_granted d now AddressPort b e) 1 0 + cond (is_granted d now DataPort b e) 1 0))))

one_port : (d : Desc) (now : Around) (b : List Entry) (e : Entry) (p : Port) → cond (is_granted d now p b e) (told_at p) 0 ≤ somewhere d now b e
one_port d now b e AluPort = omega arith
one_port d now b e MulPort = omega arith
one_port d now b e DivPort = omega arith
one_port d now b e AddressPort = omega arith
one_port d now b e DataPort = omega arith
one_port d now b e LoadPort = omega arith

whole_few : (d : Desc) (now : Around) (b : List Entry) (e : Entry) → length (issue_whole d now b e).events ≤ somewhere d now b e
whole_few d now b e =
    let here = granted_few (is_granted d now (port_of e.item.kind) b e) (told_at (port_of e.item.kind)) (begin_as e.item.kind d now b e) (waits e) (begin_few e.item.kind d now b e) (omega arith) in
    let once = one_port d now b e (port_of e.item.kind) in
    omega (arith, here, once)

part_few : (g : Bool) (part : Entry → Entry) (es : List Event) (e : Entry) → length es ≤ 1 → length (if_granted g part es e).events ≤ cond g 1 0
part_few true part es e h = h
part_few false part es e h = omega arith

parts_few : (d : Desc) (now : Around) (b : List Entry) (e : Entry) → length (issue_parts d now b e).events ≤ somewhere d now b e
parts_few d now b e =
    let f = effect_of now.regs b e in
    let a = if_granted (is_granted d now AddressPort b e) (with_address now f) (event.Agu e.serial ∷ []) e in
    let p = part_few (is_granted d now AddressPort b e) (with_address now f) (event.Agu e.serial ∷ []) e (omega arith) in
    let q = part_few (is_granted d now DataPort b e) (with_data now f) (data_events d e) a.entry (data_few d e) in
    let l = length-append a.events (if_granted (is_granted d now DataPort b e) (with_data now f) (data_events d e) a.entry).events in
    omega (arith, p, q, l)

entry_few : (d : Desc) (now : Around) (b : List Entry) (e : Entry) → length (issue_entry d now b e).events ≤ somewhere d now b e
entry_few d now b e = subst (λ (t : Begun). length t.events ≤ somewhere d now b e) (sym (entry_parts d now b e)) (by_kind (is_store e.item.kind))
  where
    by_kind : (s : Bool) → length (if s then issue_parts d now b e else issue_whole d now b e).events ≤ somewhere d now b e
    by_kind true = parts_few d now b e
    by_kind false = whole_few d now b e

-- three for each load and thrice the rest are thrice all loads
thrice : (b : Bool) (t : ℕ) → cond b 3 0 + 3 * t ≡ 3 * (cond b 1 0 + t)
thrice true t = omega arith
thrice false t = omega arith

abbrev all_taken : Desc → Around → List Entry → List Entry → ℕ
all_taken d now b es = taken d now AluPort b es + (taken d now MulPort b es + (taken d now DivPort b es + (3 * taken d now LoadPort b es + (taken d now AddressPort b es + taken d now DataPort b es))))

issued_few : (d : Desc) (now : Around) (before es : List Entry) → length (flat_map (λ (b : Begun). b.events) (each_from (issue_entry d now) before es)) ≤ all_taken d now before es
issued_few d now before [] = omega arith
issued_few d now before (e ∷ es) =
    let here = entry_few d now before e in
    let more = issued_few d now (e ∷ before) es in
    let t = thrice (is_granted d now LoadPort before e) (taken d now LoadPort (e ∷ before) es) in
    let l = length-append (issue_entry d now before e).events (flat_map (λ (b : Begun). b.events) (each_from (issue_entry d now) (e ∷ before) es)) in
    omega arith

-- ---- the events of Issue

issue_few : (d : Desc) (x : Machine) → length (issue d x).events ≤ d.units_alus + 7
issue_few d x =
    let now = around x in
    let a = taken_few d now AluPort [] x.window in
    let m = taken_few d now MulPort [] x.window in
    let v = taken_few d now DivPort [] x.window in
    let s = taken_few d now AddressPort [] x.window in
    let t = taken_few d now DataPort [] x.window in
    let l = taken_few d now LoadPort [] x.window in
    let i = issued_few d now [] x.window in
    omega arith

-- Issue leaves cycle, next serial and count, and has at most seven events more than there are ALUs
pub issue_adds : (d : Desc) (x : Machine) → Adds (d.units_alus + 7) x (issue d x)
issue_adds d x =
    let few = issue_few d x in
    by_after_load d x (λ y. (w : List Entry) (v : Divider) → Adds (d.units_alus + 7) x (record { machine = record y { window = w; divider = v }; events = (issue d x).events }))
    (λ c s m w v. record { events = few; cycle = refl; serials = refl; retired = refl }) (first (may_at d (around x) LoadPort) x.window) _ _
