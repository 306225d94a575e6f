-- What the parts tell of an entry at its position is what the machine's definitions find there.
use Rattle.std.proofs.Common.{◌≡◌, ℕ, zero, suc, ◌+◌, ◌-◌, ◌*◌, ◌≤◌, Bool, true, false, not, ◌&&◌, List, ◌∷◌, Option, Some, refl, ap, ap₂, sym, subst, ◌∙◌, slice_get, arith}
use Rattle.std.specs.Prelude.{nat_lt}
use Rattle.std.specs.Option.{option_map}
use Rattle.std.proofs.lemmas.Bool.Decides.{nat_tests}
use Rattle.std.proofs.Math.Bool.{and-false, and-true}
use Rattle.rv_types.specs.Value.{one_if}
use Rattle.rv_types.specs.declared.Kind.{Kind}
use Rattle.rv_types.specs.declared.Kind.TheVariants.{Div, Load, Mul, Store}
use Rattle.machine_desc.specs.declared.Desc.{Desc}
use Rattle.window_model.specs.declared.Divider.{Divider}
use Rattle.window_model.specs.declared.Entry.{Entry}
use Rattle.window_model.specs.Around.{Around, is_free}
use Rattle.window_model.specs.Delay.{may_show}
use Rattle.window_model.specs.MayIssue.{goes_behind, may_issue, may_issue_as}
use Rattle.window_model.specs.Ports.{Port, AddressPort, AluPort, DataPort, is_granted, may_at}
use Rattle.window_model.proofs.Booleans.{both}
use Rattle.window_model.specs.Order.{before_at, is_store, is_waiting, sources}
use Rattle.window_model.specs.Ready.{all_known, ready}
use Rattle.window_model.specs.Taint.{address_tainted, any_tainted}
use Rattle.stations.specs.Stations.{ready_part}
use Rattle.stations.specs.declared.wants.Part.{Part}
use Rattle.rob_ring.specs.declared.beside.Sources.{Sources}
use Rattle.visibility.specs.Gate.{may_show_by, may_transmit}
use Rattle.unit_ports.specs.Ports.{Ports, left_at, port_for, taken_at}
use Rattle.unit_ports.specs.Laws.{LeftAfter, ports_after_request, if_asked}
use Rattle.unit_ports.proofs.Granting.{granted_is, left_more}
use Rattle.visibility.specs.Point.{HasAdvanced, Point}
use Rattle.visibility.proofs.Showing.{shown_by_point}
use Rattle.refinement.proofs.Ready.{tells_part}
use Rattle.refinement.proofs.Visible.{tells_operands, tells_visible}
use Rattle.refinement.specs.InFlight.{InFlight}
use Rattle.refinement.specs.Stations.{station_of}
use Rattle.refinement.specs.Telling.{MovedBy, OperandsTold, own_of}
use Rattle.issue.specs.declared.seen.Seen.{Seen}
use Rattle.issue.specs.Ports.{OnlyPorts, events_left, left_in_all, most_events_of}
use Rattle.issue.specs.State.{IssueInvariant, StandsAt, around_of, flight_of}
use Rattle.issue.specs.Telling.{TellsIssue, asks_besides}
use Rattle.issue.proofs.Asking.{AsksNone, asks_own}

-- ---- what the parts tell

issue_by : (d : Desc) (point : Point) (before : List Entry) (e : Entry) (roots : List (Option ℕ)) (now : Around) → point.model ≡ d.stt_model → OperandsTold point before e roots →
    may_show_by d point.serial e.serial ≡ may_show d before → (k : Kind) →
    may_issue_as k d now before e ≡ (may_transmit k d point.serial e.serial roots && asks_besides k d now before e)
issue_by d point before e roots now q t s Load =
    ap₂ (λ b s. (not b && s) && goes_behind d now before e) (ap (λ m. address_tainted m before e) (sym q) ∙ sym t.base) (sym s)
issue_by d point before e roots now q t s Div = ap₂ (λ b s. (not b && s) && is_free now) (ap (λ m. any_tainted m before e) (sym q) ∙ sym t.any) (sym s)
issue_by d point before e roots now q t s _ = refl

-- a point that has moved tells of an entry whether it may show its operands
shows_at : (d : Desc) (p : InFlight) (i : ℕ) (e : Entry) → HasAdvanced p.point p.window → p.point.model ≡ d.stt_model → slice_get p.window i ≡ Some e →
    may_show_by d p.point.serial e.serial ≡ may_show d (before_at p.window i)
shows_at d p i e m q h = shown_by_point d p.point (before_at p.window i) e q (tells_visible p.point p.window i e m h)

-- by an entry's serial and roots it is told whether it may issue
pub tells_issue : TellsIssue
tells_issue d p i e x now s m q h k = issue_by d p.point (before_at p.window i) e x.roots now q (tells_operands p i e x s m h k) (shows_at d p i e m q h) e.item.kind

-- ---- what an entry is asked for

-- results are held back by the point that has moved
pub moved : (s : Seen) (t : IssueInvariant s) → MovedBy s.desc.now (flight_of t.next t.writes s)
moved s t = record { advanced = t.advanced; model = t.model; holds = refl }

module _ (s : Seen) (i : ℕ) (e : Entry) (t : IssueInvariant s) (h : StandsAt s i e) where
  abbrev before : List Entry
  before = before_at s.rob.now.entries i

  abbrev flight : InFlight
  flight = flight_of t.next t.writes s

  -- a station tells whether the source that this part of its store needs is known
  pub part_is : (part : Part) (n : ℕ) (b : Bool) → is_waiting e.state ≡ true → n ≡ station_of i s.rob.now.entries → option_map (ready_part part) (slice_get s.stations.now.held n) ≡ Some b → b ≡ all_known s.desc.now before (own_of part (sources e))
  part_is part n b w q k =
      let told = tells_part part s.desc.now flight i e t.refines (moved s t) h w in
      let here : option_map (ready_part part) (slice_get s.stations.now.held (station_of i s.rob.now.entries)) ≡ Some b = subst (λ n. option_map (ready_part part) (slice_get s.stations.now.held n) ≡ Some b) q k in
      let both : Some b ≡ Some (all_known s.desc.now before (own_of part (sources e))) = sym here ∙ told in
      cc

  -- the point tells whether the entry may show its operands
  pub shows_is : may_show_by s.desc.now s.point.now.serial e.serial ≡ may_show s.desc.now before
  shows_is = shows_at s.desc.now flight i e t.advanced t.model h

  -- an entry that waits and is ready may issue by its untainted operands, and by what is asked for besides
  pub issue_is : (m b : Bool) (x : Sources) → slice_get s.sources.now.items i ≡ Some x →
      m ≡ may_transmit e.item.kind s.desc.now s.point.now.serial e.serial x.roots → b ≡ asks_besides e.item.kind s.desc.now (around_of s) before e →
      is_waiting e.state ≡ true → ready s.desc.now before e ≡ true → (m && b) ≡ may_issue s.desc.now (around_of s) before e
  issue_is m b x k p q w r =
      ap₂ (λ m b. m && b) p q ∙ sym (tells_issue s.desc.now flight i e x (around_of s) t.refines t.advanced t.model h k)
      ∙ sym (ap₂ (λ a b. a && b && may_issue_as e.item.kind s.desc.now (around_of s) before e) w r)

-- ---- ports that are left

some_less : (a : ℕ) → (a - 1) + one_if (nat_lt 0 a) ≡ a
some_less zero = refl
some_less (suc a) = let t : nat_lt 0 (suc a) ≡ true = grind (arith, nat_tests) in let n = ap one_if t in omega (arith, n)

one_less : (q : Port) (p : Ports) → left_in_all (taken_at q p) + one_if (nat_lt 0 (left_at q p)) ≡ left_in_all p
one_less AluPort p = let k = some_less p.alu in omega (arith, k)
one_less q p = let k = some_less (left_at q p) in omega (arith, k)

only_ports : (q : Port) (p : Ports) → OnlyPorts p (taken_at q p)
only_ports AluPort p = record { alus = refl; cycle = refl }
only_ports _ p = record { alus = refl; cycle = refl }

-- an entry in one piece takes one where it may issue there
left_asked : (b : Bool) (d : Desc) (now : Around) (before : List Entry) (e : Entry) (p : Ports) → is_store e.item.kind ≡ false → may_at d now (port_for e.item.kind) before e ≡ b → LeftAfter d now before p →
    LeftAfter d now (e ∷ before) (ports_after_request b e p)
left_asked b d now before e p s h l = subst (λ b. LeftAfter d now (e ∷ before) (ports_after_request b e p)) h (left_more d now before e p s l)

-- an entry that asks for no port takes none
pub left_none : (d : Desc) (now : Around) (before : List Entry) (e : Entry) (p : Ports) → AsksNone d now before e → LeftAfter d now before p → LeftAfter d now (e ∷ before) p
left_none d now before e p none l = record { each_port = λ q. let a = l.each_port q in let b = ap one_if (none q) in omega (arith, a, b) }

-- where no port is left none is taken
none_less : (a : ℕ) → nat_lt 0 a ≡ false → a - 1 ≡ a
none_less a h = let k = some_less a in let n = ap one_if h in omega (arith, k, n)

taken_none : (q : Port) (p : Ports) → nat_lt 0 (left_at q p) ≡ false → taken_at q p ≡ p
taken_none AluPort p h = let k = none_less p.alu h in let same : p ≡ record p { alus = p.alus } = refl in cc
taken_none q p h = let k = none_less (left_at q p) h in let same : p ≡ record p { alus = p.alus } = refl in cc

-- ports and the divider have nothing to do with each other
with_divider : (q : Port) (p : Ports) (v : Divider) → left_at q (record p { divider = v }) ≡ left_at q p
with_divider AluPort p v = refl
with_divider _ p v = refl

divider_stays : (q : Port) (p : Ports) → (taken_at q p).divider ≡ p.divider
divider_stays AluPort p = refl
divider_stays _ p = refl

left_with : (d : Desc) (now : Around) (es : List Entry) (p : Ports) (v : Divider) → LeftAfter d now es p → LeftAfter d now es (record p { divider = v })
left_with d now es p v l = record { each_port = λ q. with_divider q p v ∙ l.each_port q }

-- the ports that are left and the one that is taken, if one is, are those that were left
pub asked_less : (may : Bool) (q : Port) (p : Ports) → left_in_all (if_asked may q p) + one_if (may && nat_lt 0 (left_at q p)) ≡ left_in_all p
asked_less true q p = one_less q p
asked_less false q p = omega arith

pub asked_only : (may : Bool) (q : Port) (p : Ports) → OnlyPorts p (if_asked may q p)
asked_only true q p = only_ports q p
asked_only false q p = record { alus = refl; cycle = refl }

pub asked_divider : (may : Bool) (q : Port) (p : Ports) → (if_asked may q p).divider ≡ p.divider
asked_divider true q p = divider_stays q p
asked_divider false q p = refl

-- the data part's port is left whatever the address part asks for
pub data_left : (may : Bool) (p : Ports) → left_at DataPort (if_asked may AddressPort p) ≡ left_at DataPort p
data_left true p = refl
data_left false p = refl

-- neither part of a store takes the port of loads
pub asked_address_load : (may : Bool) (p : Ports) → (if_asked may AddressPort p).load ≡ p.load
asked_address_load true p = refl
asked_address_load false p = refl

pub asked_data_load : (may : Bool) (p : Ports) → (if_asked may DataPort p).load ≡ p.load
asked_data_load true p = refl
asked_data_load false p = refl

-- a load that is served takes the two events more that its port allows
two_more : (k : Kind) (p : Ports) → nat_lt 0 (left_at (port_for k) p) ≡ true → 2 * (taken_at (port_for k) p).load + most_events_of k ≡ 2 * p.load + 1
two_more Load p h = let some = some_less p.load in let one = ap one_if h in omega (arith, some, one)
two_more Mul p h = refl
two_more Div p h = refl
two_more Store p h = refl
two_more _ p h = refl

-- what one that is served leaves
pub record Served (d : Desc) (now : Around) (before : List Entry) (e : Entry) (old new : Ports) (v : Divider) : Type 0 where
  pub left : LeftAfter d now (e ∷ before) new
  pub fewer : left_in_all new + 1 ≡ left_in_all old
  pub events : events_left new + most_events_of e.item.kind ≡ events_left old
  pub only : OnlyPorts old new
  pub divider : new.divider ≡ v

-- an entry in one piece is granted its own where one is left and it may issue
module _ (d : Desc) (now : Around) (before : List Entry) (e : Entry) (p : Ports) (s : is_store e.item.kind ≡ false) (l : LeftAfter d now before p) where
  abbrev own : Port
  own = port_for e.item.kind

  granted_own : (may_at d now own before e && nat_lt 0 (left_at own p)) ≡ is_granted d now own before e
  granted_own = granted_is d now own before e p l

  grants_left : (b : Bool) → nat_lt 0 (left_at own p) ≡ b → is_granted d now own before e ≡ (may_issue d now before e && b)
  grants_left b n = sym granted_own ∙ ap₂ (λ a b. a && b) (asks_own d now before e s) n

  pub served_where_left : nat_lt 0 (left_at own p) ≡ true → is_granted d now own before e ≡ may_issue d now before e
  served_where_left n = grants_left true n ∙ and-true (may_issue d now before e)

  pub refused_where_none : nat_lt 0 (left_at own p) ≡ false → is_granted d now own before e ≡ false
  refused_where_none n = grants_left false n ∙ and-false (may_issue d now before e)

  -- an entry that is refused its port takes none
  pub left_refused : is_granted d now own before e ≡ false → LeftAfter d now (e ∷ before) p
  left_refused h = by_may (may_at d now own before e) refl
    where
      by_may : (m : Bool) → may_at d now own before e ≡ m → LeftAfter d now (e ∷ before) p
      by_may true m =
          let refused : nat_lt 0 (left_at own p) ≡ false = sym (ap (λ m. m && nat_lt 0 (left_at own p)) m) ∙ granted_own ∙ h in
          subst (LeftAfter d now (e ∷ before)) (taken_none own p refused) (left_asked true d now before e p s m l)
      by_may false m = left_asked false d now before e p s m l

  -- an entry that is served takes one port
  module _ (h : is_granted d now own before e ≡ true) where
    is_left : nat_lt 0 (left_at own p) ≡ true
    is_left = (both (may_at d now own before e) _ (granted_own ∙ h)).1

    pub some_left : 1 ≤ left_in_all p
    some_left = let n = one_less own p in let one = ap one_if is_left in omega (arith, n, one)

    -- the events of an entry that is granted its port are among those that the ports still allow
    pub events_served : most_events_of e.item.kind ≤ events_left p
    events_served =
        let all = one_less own p in
        let one = ap one_if is_left in
        let two = two_more e.item.kind p is_left in
        omega (arith, all, one, two)

    pub served : (v : Divider) (begun new : Ports) → begun ≡ record p { divider = v } → new ≡ taken_at own begun → Served d now before e p new v
    served v begun new b n =
        let is : new ≡ taken_at own (record p { divider = v }) = n ∙ ap (taken_at own) b in
        let m = (both (may_at d now own before e) _ h).0 in
        let less = one_less own (record p { divider = v }) in
        let one : one_if (nat_lt 0 (left_at own (record p { divider = v }))) ≡ 1 = ap (λ n. one_if (nat_lt 0 n)) (with_divider own p v) ∙ ap one_if is_left in
        let all = ap left_in_all is in
        let loads = ap (λ (p : Ports). p.load) is in
        let two = two_more e.item.kind (record p { divider = v }) (ap (nat_lt 0) (with_divider own p v) ∙ is_left) in
        let only = only_ports own (record p { divider = v }) in
        record {
          left = subst (LeftAfter d now (e ∷ before)) (sym is) (left_asked true d now before e (record p { divider = v }) s m (left_with d now before p v l));
          fewer = omega (arith, all, less, one);
          events = omega (arith, all, less, one, loads, two);
          only = subst (OnlyPorts p) (sym is) (record { alus = only.alus; cycle = only.cycle });
          divider = ap (λ (p : Ports). p.divider) is ∙ divider_stays own (record p { divider = v });
        }
