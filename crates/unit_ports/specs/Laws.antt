-- The ports that entries have asked for, oldest first, are those that the machine's definition counts (docs/machine.md,
-- "Issue").
use Rattle.std.specs.Prelude.{◌≡◌, ℕ, ◌-◌, Bool, true, false, ◌&&◌, nat_lt, if◌then◌else◌, List, [], ◌∷◌}
use Rattle.machine_desc.specs.declared.Desc.{Desc}
use Rattle.window_model.specs.declared.Entry.{Entry}
use Rattle.window_model.specs.Around.{Around}
use Rattle.window_model.specs.Order.{is_store}
use Rattle.window_model.specs.Ports.{Port, AddressPort, DataPort, asking, is_granted, may_at, ports}
use Rattle.unit_ports.specs.Ports.{Ports, begun_at, left_at, port_for, taken_at}

-- what is left are the ports that none of these entries may issue at
pub record LeftAfter (d : Desc) (now : Around) (before : List Entry) (p : Ports) : Type 0 where
  pub each_port : (port : Port) → left_at port p ≡ ports d port - asking d now port before

-- the ports once one was asked for, where the entry may issue at it
abbrev pub if_asked : Bool → Port → Ports → Ports
if_asked may port p = if may then taken_at port p else p

-- the ports once an entry has asked for that of its kind, where it may issue
abbrev pub ports_after_request : Bool → Entry → Ports → Ports
ports_after_request may e p = if_asked may (port_for e.item.kind) p

-- every port is left as a cycle begins, since no entry has asked yet
abbrev pub OpensWithAll : Type 0
OpensWithAll = (d : Desc) (now : Around) (cycle : ℕ) (p : Ports) → p.alus ≡ d.units_alus → LeftAfter d now [] (begun_at cycle p)

-- an entry that is no store asks for the port of its kind where it may issue, and what is then left is left to those
-- after it
abbrev pub LeavesAsCounted : Type 0
LeavesAsCounted = (d : Desc) (now : Around) (before : List Entry) (e : Entry) (p : Ports) → is_store e.item.kind ≡ false →
    LeftAfter d now before p → LeftAfter d now (e ∷ before) (ports_after_request (may_at d now (port_for e.item.kind) before e) e p)

-- a store asks at two ports, for each of its parts where that may issue
abbrev pub StoresAskAtBoth : Type 0
StoresAskAtBoth = (d : Desc) (now : Around) (before : List Entry) (e : Entry) (p : Ports) → is_store e.item.kind ≡ true →
    LeftAfter d now before p → LeftAfter d now (e ∷ before)
    (if_asked (may_at d now DataPort before e) DataPort (if_asked (may_at d now AddressPort before e) AddressPort p))

-- an entry that may issue at a port gets one exactly where the definition grants it
abbrev pub GrantsAsCounted : Type 0
GrantsAsCounted = (d : Desc) (now : Around) (port : Port) (before : List Entry) (e : Entry) (p : Ports) →
    LeftAfter d now before p → (may_at d now port before e && nat_lt 0 (left_at port p)) ≡ is_granted d now port before e
