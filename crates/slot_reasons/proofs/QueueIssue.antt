-- Issue leaves the queue, and no event of it tells of the queue.
use Rattle.std.proofs.Common.{◌≡◌, ℕ, Bool, true, false, List, [], ◌∷◌, refl, sym, subst}
use Rattle.std.specs.Prelude.{if◌then◌else◌, map}
use Rattle.std.specs.List.{flat_map}
use Rattle.std.specs.Option.{option_to_list}
use Rattle.rv_types.specs.Isa.{Effect}
use Rattle.rv_types.specs.declared.Kind.{Kind}
use Rattle.rv_types.specs.declared.Kind.TheVariants.{Load}
use Rattle.machine_desc.specs.declared.Desc.{Desc}
use Rattle.machine_desc.specs.Questions.{stores_in_one}
use Rattle.window_model.specs.declared.Entry.{Entry}
use Rattle.window_model.specs.declared.Event.{Event}
use Rattle.window_model.specs.declared.Event.TheVariants as event
use Rattle.window_model.specs.declared.lookup.Access.{Access}
use Rattle.window_model.specs.declared.lookup.Access.TheVariants.{Faults, Forwards, Looks, Waits}
use Rattle.window_model.specs.declared.lookup.Line.{Line}
use Rattle.window_model.specs.declared.lookup.Request.{Request}
use Rattle.window_model.specs.State.{Machine}
use Rattle.window_model.specs.Around.{Around, around}
use Rattle.window_model.specs.Order.{each_from, first, is_store}
use Rattle.window_model.specs.MayIssue.{effect_of}
use Rattle.window_model.specs.Ports.{AddressPort, DataPort, LoadPort, is_granted, may_at, port_of}
use Rattle.window_model.specs.Access.{in_order, line_at, look_at, source_of}
use Rattle.window_model.specs.Issue.{Begun, access_of, begin_as, if_granted, issue, issue_entry, issue_whole, load_as, waits, with_address, with_data}
use Rattle.window_model.specs.inner.Issue.{data_events}
use Rattle.window_model.proofs.Issuing.{by_after_load}
use Rattle.window_model.proofs.Lists.{each_join}
use Rattle.window_model.proofs.Together.{entry_parts, issue_parts}
use Rattle.slot_reasons.proofs.QueueEvents.{Aside, all_aside}
use Rattle.slot_reasons.proofs.QueuePhases.{Tells, kept}

begun_if : (g : Bool) (s t : Begun) → Aside s.events → Aside t.events → Aside (if g then s else t).events
begun_if true s t p q = p
begun_if false s t p q = q

-- ---- An entry in one piece

load_aside : (a : Access) (d : Desc) (now : Around) (e : Entry) (f : Effect) (v : ℕ) → Aside (load_as a d now e f v).events
load_aside (Faults cause) d now e f v = (refl, tt)
load_aside Forwards d now e f v = (refl, tt)
load_aside (Looks found ahead) d now e f v =
    let told : Line → Event = λ l. event.Ld e.serial (line_at l) (look_at l) in
    let told_ahead : Request → Event = λ r. event.Pf r.line (source_of r) in
    each_join _ (map told (in_order found)) (map told_ahead (option_to_list ahead)) (all_aside told (λ l. refl) (in_order found)) (all_aside told_ahead (λ r. refl) (option_to_list ahead))
load_aside Waits d now e f v = tt

begin_aside : (k : Kind) (d : Desc) (now : Around) (b : List Entry) (e : Entry) → Aside (begin_as k d now b e).events
begin_aside Load d now b e = load_aside (access_of d now b e) d now e _ _
begin_aside _ d now b e = (refl, tt)

whole_aside : (d : Desc) (now : Around) (b : List Entry) (e : Entry) → Aside (issue_whole d now b e).events
whole_aside d now b e = begun_if (is_granted d now (port_of e.item.kind) b e) (begin_as e.item.kind d now b e) (waits e) (begin_aside e.item.kind d now b e) tt

-- ---- A store, by its parts

part_aside : (g : Bool) (part : Entry → Entry) (es : List Event) (e : Entry) → Aside es → Aside (if_granted g part es e).events
part_aside g part es e a = begun_if g _ _ a tt

datum_aside : (d : Desc) (e : Entry) → Aside (data_events d e)
datum_aside d e = by_version (stores_in_one d)
  where
    by_version : (v : Bool) → Aside (if v then [] else event.Std e.serial ∷ [])
    by_version true = tt
    by_version false = (refl, tt)

parts_aside : (d : Desc) (now : Around) (b : List Entry) (e : Entry) → Aside (issue_parts d now b e).events
parts_aside d now b e =
    let f = effect_of now.regs b e in
    let address = is_granted d now AddressPort b e in
    let datum = is_granted d now DataPort b e in
    let a = if_granted address (with_address now f) (event.Agu e.serial ∷ []) e in
    each_join _ a.events (if_granted datum (with_data now f) (data_events d e) a.entry).events
    (part_aside address (with_address now f) (event.Agu e.serial ∷ []) e (refl, tt)) (part_aside datum (with_data now f) (data_events d e) a.entry (datum_aside d e))

-- ---- The window

entry_aside : (d : Desc) (now : Around) (b : List Entry) (e : Entry) → Aside (issue_entry d now b e).events
entry_aside d now b e =
    subst (λ (t : Begun). Aside t.events) (sym (entry_parts d now b e))
    (begun_if (is_store e.item.kind) (issue_parts d now b e) (issue_whole d now b e) (parts_aside d now b e) (whole_aside d now b e))

issued_aside : (d : Desc) (now : Around) (b es : List Entry) → Aside (flat_map (λ (t : Begun). t.events) (each_from (issue_entry d now) b es))
issued_aside d now b [] = tt
issued_aside d now b (e ∷ es) = each_join _ (issue_entry d now b e).events _ (entry_aside d now b e) (issued_aside d now (e ∷ b) es)

-- Issue leaves the queue, and tells nothing of it
pub issue_tells : (d : Desc) (x : Machine) → Tells x (issue d x).events (issue d x).machine
issue_tells d x =
    kept x (issue d x).machine (issue d x).events
    (by_after_load d x (λ y. y.queue ≡ x.queue) (λ cache second misses. refl) (first (may_at d (around x) LoadPort) x.window))
    (issued_aside d (around x) [] x.window)
