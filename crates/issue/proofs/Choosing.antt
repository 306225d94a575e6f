-- What an entry's turn comes to, by its kind and by whether it is granted a port.
use Rattle.std.proofs.Common.{◌≡◌, Bool, true, false, ◌&&◌, List, ap, sym, ◌∙◌}
use Rattle.std.specs.Prelude.{if◌then◌else◌, nat_lt}
use Rattle.std.proofs.Math.Bool.{and-false, and-true}
use Rattle.rv_types.specs.declared.Kind.{Kind}
use Rattle.rv_types.specs.declared.Kind.TheVariants.{Load, Div, Store}
use Rattle.machine_desc.specs.declared.Desc.{Desc}
use Rattle.window_model.specs.declared.Entry.{Entry}
use Rattle.window_model.specs.Around.{Around}
use Rattle.window_model.specs.Order.{is_load, is_store}
use Rattle.window_model.specs.MayIssue.{goes_behind, may_issue}
use Rattle.window_model.specs.Ports.{Port, DivPort, LoadPort, asking, is_granted, part_may, port_of, ports, same_port}
use Rattle.window_model.specs.Issue.{is_division}
use Rattle.window_model.proofs.Issuing.{load_behind, may_parts}
use Rattle.unit_ports.specs.Ports.{port_for}
use Rattle.issue.proofs.Asking.{granted_may, part_asks}

pub the_other : {A : Type 0} (b : Bool) (x y : A) → b ≡ false → y ≡ (if b then x else y)
the_other b x y h = ap (λ b. if b then x else y) (sym h)

-- ---- by the port that is asked

-- an entry is granted no port that its kind doesn't ask for
none : (m l own : Bool) → ((m && false) && l) ≡ (own && false)
none m l own = ap (λ b. b && l) (and-false m) ∙ sym (and-false own)

-- an entry is granted the port of loads where it is a load that is granted its own port, and that of divisions where it
-- is such a division
at_load : (k : Kind) (m p : Bool) (left : Port → Bool) →
    ((if is_store k then false else m && same_port (port_of k) LoadPort) && left LoadPort)
    ≡ (((if is_store k then p else m && same_port (port_of k) (port_for k)) && left (port_for k)) && is_load k)
at_load Load m p left = sym (and-true _)
at_load Store m p left = sym (and-false _)
at_load _ m p left = none m _ _

at_division : (k : Kind) (m p : Bool) (left : Port → Bool) →
    ((if is_store k then false else m && same_port (port_of k) DivPort) && left DivPort)
    ≡ (((if is_store k then p else m && same_port (port_of k) (port_for k)) && left (port_for k)) && is_division k)
at_division Div m p left = sym (and-true _)
at_division Store m p left = sym (and-false _)
at_division _ m p left = none m _ _

module _ (d : Desc) (now : Around) (before : List Entry) (e : Entry) (b : Bool) (h : is_granted d now (port_for e.item.kind) before e ≡ b) where
  abbrev left : Port → Bool
  left q = nat_lt (asking d now q before) (ports d q)

  abbrev part : Bool
  part = part_may (port_for e.item.kind) d before e

  pub load_where : is_granted d now LoadPort before e ≡ (b && is_load e.item.kind)
  load_where = at_load e.item.kind (may_issue d now before e) part left ∙ ap (λ b. b && is_load e.item.kind) h

  pub division_where : is_granted d now DivPort before e ≡ (b && is_division e.item.kind)
  division_where = at_division e.item.kind (may_issue d now before e) part left ∙ ap (λ b. b && is_division e.item.kind) h

-- ---- a load that is granted a port goes behind the older stores

pub granted_goes : (d : Desc) (now : Around) (before : List Entry) (e : Entry) → is_store e.item.kind ≡ false → is_granted d now (port_for e.item.kind) before e ≡ true → is_load e.item.kind ≡ true → goes_behind d now before e ≡ true
granted_goes d now before e s h l = load_behind e.item.kind d now before e (may_parts d now before e (granted_may d now before e s h)).kind l

-- ---- a store is granted neither the load's port nor the divider's

pub no_load : (d : Desc) (now : Around) (before : List Entry) (e : Entry) → is_store e.item.kind ≡ true → is_granted d now LoadPort before e ≡ false
no_load d now before e s = ap (λ m. m && nat_lt (asking d now LoadPort before) (ports d LoadPort)) (part_asks d now before e LoadPort s)

pub no_division : (d : Desc) (now : Around) (before : List Entry) (e : Entry) → is_store e.item.kind ≡ true → is_granted d now DivPort before e ≡ false
no_division d now before e s = ap (λ m. m && nat_lt (asking d now DivPort before) (ports d DivPort)) (part_asks d now before e DivPort s)
