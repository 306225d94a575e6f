-- Issue in a later cycle, while the divider is free or not as before: no entry begins that didn't before.
use Rattle.std.proofs.Common.{◌≡◌, ℕ, ◌+◌, ◌<◌, Bool, true, false, not, ◌&&◌, List, [], ◌∷◌, ◌++◌, Option, Some, None, refl, ap, ap₂, sym, ◌∙◌, arith}
use Rattle.std.proofs.lemmas.Bool.Decides.{nat_tests}
use Rattle.std.specs.Prelude.{if◌then◌else◌, nat_le, nat_lt}
use Rattle.rv_types.specs.Isa.{Effect}
use Rattle.rv_types.specs.Memory.{load_fault}
use Rattle.rv_types.specs.Value.{one_if}
use Rattle.rv_types.specs.declared.Cause.{Cause}
use Rattle.rv_types.specs.declared.Kind.{Kind}
use Rattle.rv_types.specs.declared.Kind.TheVariants.{Div, Load}
use Rattle.machine_desc.specs.declared.Desc.{Desc}
use Rattle.window_model.specs.Delay.{may_show}
use Rattle.window_model.specs.declared.Entry.{Entry}
use Rattle.window_model.specs.declared.Event.{Event}
use Rattle.window_model.specs.declared.Event.TheVariants as event
use Rattle.window_model.specs.Around.{Around, around, is_free}
use Rattle.window_model.specs.State.{Machine}
use Rattle.window_model.specs.Order.{is_store, is_waiting}
use Rattle.window_model.specs.Taint.{any_tainted}
use Rattle.window_model.specs.Ready.{ready}
use Rattle.window_model.specs.Retire.{byte_count}
use Rattle.window_model.specs.declared.lookup.Access.{Access}
use Rattle.window_model.specs.declared.lookup.Access.TheVariants.{Faults}
use Rattle.window_model.specs.Access.{access_at}
use Rattle.window_model.specs.MayIssue.{may_issue_as, effect_of}
use Rattle.window_model.specs.Ports.{Port, AddressPort, DataPort, port_of, ports, part_may, same_port, asking, is_granted, may_at}
use Rattle.window_model.specs.Issue.{Begun, issue_entry, issue_whole, begin_as, load_as, access_of, value_loaded, waits}
use Rattle.window_model.specs.inner.Issue.{data_events, parts_as}
use Rattle.window_model.proofs.Together.{entry_parts, issue_parts}
use Rattle.quiet_cycles.specs.Still.{NotDueBefore, at_cycle}
use Rattle.quiet_cycles.proofs.Waiting.{NoneBegins}

-- ---- when the divider is free

pub free_as_before : (n before cycle free_from : ℕ) → NotDueBefore n before free_from → before < cycle → cycle < n → nat_le free_from cycle ≡ nat_le free_from before
free_as_before n before cycle free_from h l m = grind (arith, nat_tests)

module _ (d : Desc) (x : Machine) (c : ℕ) where
  abbrev now : Around
  now = around x

  abbrev later : Around
  later = around (at_cycle c x)

  -- ---- an access does not ask for the cycle

  same_access : (before : List Entry) (a n : ℕ) (o : Option Cause) → access_at d later before a n o ≡ access_at d now before a n o
  same_access before a n (Some cause) = refl
  same_access before a n None = refl

  -- ---- what begins does not ask for the cycle, but for when it is done

  load_as_before : (a : Access) (e : Entry) (f : Effect) (v : ℕ) → (load_as a d later e f v).events ≡ (load_as a d now e f v).events
  load_as_before (Faults cause) e f v = refl
  load_as_before _ e f v = refl

  begins_as_before : (k : Kind) (before : List Entry) (e : Entry) → (begin_as k d later before e).events ≡ (begin_as k d now before e).events
  begins_as_before Load before e =
      let f = effect_of x.regs before e in
      let v = value_loaded x.ram before e f.addr in
      ap (λ a. (load_as a d later e f v).events) (same_access before f.addr (byte_count e) (load_fault x.ram f.addr (byte_count e)))
      ∙ load_as_before (access_of d now before e) e f v
  begins_as_before _ before e = refl

  if_as_before : (b : Bool) (before : List Entry) (e : Entry) → (if b then begin_as e.item.kind d later before e else waits e).events ≡ (if b then begin_as e.item.kind d now before e else waits e).events
  if_as_before true before e = begins_as_before e.item.kind before e
  if_as_before false before e = refl

  -- the events of a store, by which of its parts issue
  abbrev events_by : Bool → Bool → Entry → List Event
  events_by a c e = (if a then event.Agu e.serial ∷ [] else []) ++ (if c then data_events d e else [])

  parts_have : (i : Around) (f : Effect) (a c : Bool) (e : Entry) → (parts_as a c d i f e).events ≡ events_by a c e
  parts_have i f true true e = refl
  parts_have i f true false e = refl
  parts_have i f false true e = refl
  parts_have i f false false e = refl

  -- ---- who is granted a port asks for the cycle only where the divider is free or not

  module _ (q : is_free later ≡ is_free now) where
    same_kind_may : (k : Kind) (before : List Entry) (e : Entry) → may_issue_as k d later before e ≡ may_issue_as k d now before e
    same_kind_may Div before e = ap (λ b. (not (any_tainted d.stt_model before e) && may_show d before) && b) q
    same_kind_may Load before e = refl
    same_kind_may _ before e = refl

    same_may : (port : Port) (before : List Entry) (e : Entry) → may_at d later port before e ≡ may_at d now port before e
    same_may port before e = ap (λ m. if is_store e.item.kind then part_may port d before e else (is_waiting e.state && ready d before e && m) && same_port (port_of e.item.kind) port) (same_kind_may e.item.kind before e)

    same_asking : (port : Port) (before : List Entry) → asking d later port before ≡ asking d now port before
    same_asking port [] = refl
    same_asking port (e ∷ before) = ap₂ (λ b n. one_if b + n) (same_may port before e) (same_asking port before)

    same_grant : (port : Port) (before : List Entry) (e : Entry) → is_granted d later port before e ≡ is_granted d now port before e
    same_grant port before e = ap₂ (λ b n. b && nat_lt n (ports d port)) (same_may port before e) (same_asking port before)

    parts_as_before : (before : List Entry) (e : Entry) → (issue_parts d later before e).events ≡ (issue_parts d now before e).events
    parts_as_before before e =
        parts_have later (effect_of x.regs before e) (is_granted d later AddressPort before e) (is_granted d later DataPort before e) e
        ∙ ap₂ (λ a c. events_by a c e) (same_grant AddressPort before e) (same_grant DataPort before e)
        ∙ sym (parts_have now (effect_of x.regs before e) (is_granted d now AddressPort before e) (is_granted d now DataPort before e) e)

    entry_as_before : (before : List Entry) (e : Entry) → (issue_entry d later before e).events ≡ (issue_entry d now before e).events
    entry_as_before before e =
        ap (λ (t : Begun). t.events) (entry_parts d later before e)
        ∙ by_kind (is_store e.item.kind)
        ∙ sym (ap (λ (t : Begun). t.events) (entry_parts d now before e))
      where
        whole : (issue_whole d later before e).events ≡ (issue_whole d now before e).events
        whole =
            ap (λ b. (if b then begin_as e.item.kind d later before e else waits e).events) (same_grant (port_of e.item.kind) before e)
            ∙ if_as_before (is_granted d now (port_of e.item.kind) before e) before e

        by_kind : (s : Bool) → (if s then issue_parts d later before e else issue_whole d later before e).events ≡ (if s then issue_parts d now before e else issue_whole d now before e).events
        by_kind true = parts_as_before before e
        by_kind false = whole

    none_begin_later : (before es : List Entry) → NoneBegins d now before es → NoneBegins d later before es
    none_begin_later before [] h = tt
    none_begin_later before (e ∷ es) h = (entry_as_before before e ∙ h.0, none_begin_later (e ∷ before) es h.1)

  pub none_begins_later : is_free later ≡ is_free now → NoneBegins d now [] x.window → NoneBegins d later [] x.window
  none_begins_later q h = none_begin_later q [] x.window h
