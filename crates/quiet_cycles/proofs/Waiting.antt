-- Issue where nothing happens in it: no entry begins, and the load that is tried, if there is one, finds no miss
-- register.
use Rattle.std.proofs.Common.{◌≡◌, ℕ, ◌+◌, Bool, true, false, List, [], ◌∷◌, ◌++◌, Option, Some, None, refl, ap, sym, ◌∙◌, subst, arith, eqb-true}
use Rattle.std.specs.Prelude.{if◌then◌else◌, nat_lt, ◌==◌, map}
use Rattle.std.specs.Cmp.Derive.{both_true}
use Rattle.std.specs.List.{flat_map}
use Rattle.rv_types.specs.Isa.{Effect}
use Rattle.rv_types.specs.Value.{one_if}
use Rattle.rv_types.specs.declared.Kind.{Kind}
use Rattle.rv_types.specs.declared.Kind.TheVariants.{Div, Load}
use Rattle.machine_desc.specs.declared.Desc.{Desc}
use Rattle.window_model.specs.declared.Entry.{Entry}
use Rattle.window_model.specs.declared.Event.{Event}
use Rattle.window_model.specs.declared.Event.TheVariants as event
use Rattle.window_model.specs.Along.{Along, Fact}
use Rattle.window_model.specs.State.{Machine, After, nothing}
use Rattle.window_model.specs.Around.{Around, around}
use Rattle.window_model.specs.Order.{Place, each_from, first, first_from, is_store}
use Rattle.window_model.specs.declared.lookup.Lines.{Lines}
use Rattle.window_model.specs.declared.lookup.Request.{Request}
use Rattle.window_model.specs.declared.lookup.Access.{Access}
use Rattle.window_model.specs.declared.lookup.Access.TheVariants.{Waits}
use Rattle.window_model.specs.Access.{cache_after, look_events, looked_up, misses_after, prefetch_request, second_after}
use Rattle.window_model.specs.MayIssue.{effect_of}
use Rattle.window_model.specs.Ports.{AddressPort, DataPort, DivPort, LoadPort, port_of, ports, asking, is_granted, may_at}
use Rattle.window_model.specs.Issue.{Begun, issue, issue_entry, issue_store, issue_whole, begin_as, if_granted, with_address, with_data, load_as, access_of, value_loaded, waits, after_load, divider_after}
use Rattle.window_model.proofs.Issuing.{asks_division, asks_load, by_load}
use Rattle.window_model.proofs.Together.{entry_parts, granted_together, issue_parts}
use Rattle.quiet_cycles.proofs.Nothing.{both_empty}

-- the entry does not begin, nor does a part of it: it has no event in Issue
abbrev pub DoesNotBegin : Desc → Around → Fact
DoesNotBegin d now before e = (issue_entry d now before e).events ≡ []

-- no entry in the list begins, given oldest first behind older ones
abbrev pub NoneBegins : Desc → Around → List Entry → List Entry → Type 0
NoneBegins d now before es = Along (DoesNotBegin d now) before es

-- the events of these entries in Issue, behind older ones
abbrev events_of : Desc → Around → List Entry → List Entry → List Event
events_of d now before es = flat_map (λ (b : Begun). b.events) (each_from (issue_entry d now) before es)

none_begin : (d : Desc) (now : Around) (before es : List Entry) → events_of d now before es ≡ [] → NoneBegins d now before es
none_begin d now before [] h = tt
none_begin d now before (e ∷ es) h =
    let s = both_empty (issue_entry d now before e).events (events_of d now (e ∷ before) es) h in
    (s.0, none_begin d now (e ∷ before) es s.1)

-- where Issue has no event, no entry begins
pub none_begins : (d : Desc) (x : Machine) → (issue d x).events ≡ [] → NoneBegins d (around x) [] x.window
none_begins d x h = none_begin d (around x) [] x.window h

no_events : (d : Desc) (now : Around) (before es : List Entry) → NoneBegins d now before es → events_of d now before es ≡ []
no_events d now before [] h = refl
no_events d now before (e ∷ es) h = ap (λ v. v ++ events_of d now (e ∷ before) es) h.0 ∙ no_events d now (e ∷ before) es h.1

-- ---- an entry that does not begin

-- a load that looks up its lines has an event
lines_tell : (serial : ℕ) (found : Lines) (ahead : Option Request) → look_events serial found ahead ≡ [] → ⊥
lines_tell serial found ahead h = cc

module _ (d : Desc) (now : Around) (before : List Entry) (e : Entry) where
  -- a load that is granted its port and has no event waits for a miss register
  load_waits : (f : Effect) (v : ℕ) → (load_as (access_of d now before e) d now e f v).events ≡ [] → access_of d now before e ≡ Waits
  load_waits f v = by_load d now (λ a. (load_as a d now e f v).events ≡ [] → a ≡ Waits) (λ h. absurd (cc)) (λ a n some room h. absurd (lines_tell e.serial (looked_up d now a n) (prefetch_request d now (looked_up d now a n)) h))
      (λ a n some full h. refl) (λ c h. absurd (cc)) before e

  -- an entry that begins nothing stays as it is
  begin_stays : (k : Kind) → (begin_as k d now before e).events ≡ [] → (begin_as k d now before e).entry ≡ e
  begin_stays Load h =
      let f = effect_of now.regs before e in
      let v = value_loaded now.ram before e f.addr in
      ap (λ a. (load_as a d now e f v).entry) (load_waits f v h)
  begin_stays _ h = absurd (cc)

  if_stays : (b : Bool) → let r = (if b then begin_as e.item.kind d now before e else waits e) in r.events ≡ [] → r.entry ≡ e
  if_stays true h = begin_stays e.item.kind h
  if_stays false h = refl

  -- no part of a store issues that has no event: the address part has one, and the data part has one or issues with it
  parts_stay : (a c : Bool) (v : ℕ) (f : Effect) → (v ≡ 1 → c ≡ a) →
      let x = if_granted a (with_address now f) (event.Agu e.serial ∷ []) e in
      let y = if_granted c (with_data now f) (if v == 1 then [] else event.Std e.serial ∷ []) x.entry in
      x.events ++ y.events ≡ [] → y.entry ≡ e
  parts_stay true c v f p h = absurd (cc)
  parts_stay false false v f p h = refl
  parts_stay false true v f p h = by_version (v == 1) refl h
    where
      by_version : (b : Bool) → (v == 1) ≡ b → (if b then [] else event.Std e.serial ∷ []) ≡ [] → with_data now f e ≡ e
      by_version true q n = absurd (let w = p (eqb-true _ _ q) in cc)
      by_version false q n = absurd (cc)

  entry_stays : DoesNotBegin d now before e → (issue_entry d now before e).entry ≡ e
  entry_stays = subst (λ (t : Begun). t.events ≡ [] → t.entry ≡ e) (sym (entry_parts d now before e)) (by_kind (is_store e.item.kind))
    where
      by_kind : (s : Bool) → let r = (if s then issue_parts d now before e else issue_whole d now before e) in r.events ≡ [] → r.entry ≡ e
      by_kind true h =
          parts_stay (is_granted d now AddressPort before e) (is_granted d now DataPort before e) d.version (effect_of now.regs before e)
          (λ first. granted_together d now first before e) h
      by_kind false h = if_stays (is_granted d now (port_of e.item.kind) before e) h

window_stays : (d : Desc) (now : Around) (before es : List Entry) → NoneBegins d now before es → map (λ (b : Begun). b.entry) (each_from (issue_entry d now) before es) ≡ es
window_stays d now before [] h = refl
window_stays d now before (e ∷ es) h =
    ap (λ e2. e2 ∷ map (λ (b : Begun). b.entry) (each_from (issue_entry d now) (e ∷ before) es)) (entry_stays d now before e h.0)
    ∙ ap (λ w. e ∷ w) (window_stays d now (e ∷ before) es h.1)

-- ---- the load that is tried, and the division

-- the first entry that may issue at a port of which there is one is granted it, so what it begins as has no event
begun : (d : Desc) (now : Around) (before : List Entry) (e : Entry) (k : Kind) → e.item.kind ≡ k → is_store k ≡ false → may_at d now (port_of k) before e ≡ true → ports d (port_of k) ≡ 1 → asking d now (port_of k) before ≡ 0 → DoesNotBegin d now before e →
    (begin_as k d now before e).events ≡ []
begun d now before e k q s m o a h =
    let g : is_granted d now (port_of k) before e ≡ true = both_true m (ap (nat_lt (asking d now (port_of k) before)) o ∙ ap (λ n. nat_lt n 1) a) in
    let own : is_granted d now (port_of e.item.kind) before e ≡ true = ap (λ k. is_granted d now (port_of k) before e) q ∙ g in
    let whole : is_store e.item.kind ≡ false = ap is_store q ∙ s in
    let piece : (issue_whole d now before e).events ≡ [] = subst (λ b. (if b then issue_store d now before e else issue_whole d now before e).events ≡ []) whole h in
    subst (λ k. (begin_as k d now before e).events ≡ []) q (subst (λ b. (if b then begin_as e.item.kind d now before e else waits e).events ≡ []) own piece)

-- an entry that does not ask for a port leaves it
none_more : (s : Bool) (n : ℕ) → s ≡ false → n ≡ 0 → one_if s + n ≡ 0
none_more false n h k = omega arith
none_more true n h k = absurd (cc)

module _ (d : Desc) (x : Machine) where
  abbrev now : Around
  now = around x

  -- the machine with both levels of the cache and the miss registers as a load leaves them that was tried
  abbrev loaded : Access → Machine
  loaded a = record x { cache = cache_after a d x.cache; second = second_after a d x.second; misses = misses_after a d x.cycle x.misses }

  tried_waits : (b : Bool) (before : List Entry) (e : Entry) (es : List Entry) (o : Option Place) → may_at d now LoadPort before e ≡ b → asking d now LoadPort before ≡ 0 → DoesNotBegin d now before e →
      (b ≡ false → after_load d o x ≡ x) → after_load d (if b then Some (record { before = before; entry = e; younger = es }) else o) x ≡ x
  tried_waits true before e es o t a h more =
      let k = (asks_load d now before e t).1 in
      let f = effect_of x.regs before e in
      ap loaded (load_waits d now before e f (value_loaded x.ram before e f.addr) (begun d now before e Load k refl t refl a h))
  tried_waits false before e es o t a h more = more refl

  load_waiting : (before es : List Entry) → asking d now LoadPort before ≡ 0 → NoneBegins d now before es → after_load d (first_from (may_at d now LoadPort) before es) x ≡ x
  load_waiting before [] a h = refl
  load_waiting before (e ∷ es) a h =
      tried_waits (may_at d now LoadPort before e) before e es (first_from (may_at d now LoadPort) (e ∷ before) es) refl a h.0
      (λ n. load_waiting (e ∷ before) es (none_more (may_at d now LoadPort before e) _ n a) h.1)

  division_absent : (b : Bool) (before : List Entry) (e : Entry) (es : List Entry) (o : Option Place) → may_at d now DivPort before e ≡ b → asking d now DivPort before ≡ 0 → DoesNotBegin d now before e →
      (b ≡ false → o ≡ None) → (if b then Some (record { before = before; entry = e; younger = es }) else o) ≡ None
  division_absent true before e es o t a h more =
      let k = (asks_division d now before e t).1 in
      let none = begun d now before e Div k refl t refl a h in
      absurd (cc)
  division_absent false before e es o t a h more = more refl

  none_divides : (before es : List Entry) → asking d now DivPort before ≡ 0 → NoneBegins d now before es → first_from (may_at d now DivPort) before es ≡ None
  none_divides before [] a h = refl
  none_divides before (e ∷ es) a h =
      division_absent (may_at d now DivPort before e) before e es (first_from (may_at d now DivPort) (e ∷ before) es) refl a h.0
      (λ n. none_divides (e ∷ before) es (none_more (may_at d now DivPort before e) _ n a) h.1)

  -- ---- Issue as a whole

  abbrev left : Machine → List Entry → Option Place → List Event → After
  left y window division events = record { machine = record y { window = window; divider = divider_after x division }; events = events }

  -- where no entry begins, Issue does nothing
  pub issue_nothing : NoneBegins d now [] x.window → issue d x ≡ nothing x
  issue_nothing h =
      let y = after_load d (first (may_at d now LoadPort) x.window) x in
      let window = map (λ (b : Begun). b.entry) (each_from (issue_entry d now) [] x.window) in
      let division = first (may_at d now DivPort) x.window in
      let events = events_of d now [] x.window in
      ap (λ y. left y window division events) (load_waiting [] x.window refl h)
      ∙ ap (λ w. left x w division events) (window_stays d now [] x.window h)
      ∙ ap (λ o. left x x.window o events) (none_divides [] x.window refl h)
      ∙ ap (left x x.window None) (no_events d now [] x.window h)
