-- The ports of a cycle, who asks for which, and who is granted one (docs/machine.md, "Issue").
use Rattle.std.specs.Prelude.{ℕ, ◌+◌, Bool, true, false, ◌&&◌, nat_lt, List, [], ◌∷◌, if◌then◌else◌}
use Rattle.rv_types.specs.Value.{one_if}
use Rattle.rv_types.specs.declared.Kind.{Kind}
use Rattle.rv_types.specs.declared.Kind.TheVariants.{Mul, Div, Load}
use Rattle.machine_desc.specs.declared.Desc.{Desc}
use Rattle.window_model.specs.declared.Entry.{Entry}
use Rattle.window_model.specs.Around.{Around}
use Rattle.window_model.specs.MayIssue.{may_issue, store_asks}
use Rattle.window_model.specs.Order.{is_store}

-- the ports of a cycle
pub data Port : Type 0 where
  AluPort : Port
  MulPort : Port
  DivPort : Port
  AddressPort : Port
  DataPort : Port
  LoadPort : Port

-- the port that a kind asks for in one piece
abbrev pub port_of : Kind → Port
port_of Mul = MulPort
port_of Div = DivPort
port_of Load = LoadPort
port_of _ = AluPort

-- the two ports are the same
abbrev pub same_port : Port → Port → Bool
same_port AluPort AluPort = true
same_port MulPort MulPort = true
same_port DivPort DivPort = true
same_port AddressPort AddressPort = true
same_port DataPort DataPort = true
same_port LoadPort LoadPort = true
same_port _ _ = false

-- how many of each port a cycle has
abbrev pub ports : Desc → Port → ℕ
ports d AluPort = d.units_alus
ports d _ = 1

-- ---- who asks for a port, and who is granted it

-- a store, or the part of it that asks for this port, may issue
abbrev pub part_may : Port → Desc → List Entry → Entry → Bool
part_may AddressPort d before e = (store_asks d before e).address
part_may DataPort d before e = (store_asks d before e).stored
part_may _ d before e = false

-- the entry, or a part of it, may issue at this port
abbrev pub may_at : Desc → Around → Port → List Entry → Entry → Bool
may_at d now port before e =
    if is_store e.item.kind then part_may port d before e else may_issue d now before e && same_port (port_of e.item.kind) port

-- how many of these entries may issue at a port
abbrev pub asking : Desc → Around → Port → List Entry → ℕ
asking d now port [] = 0
asking d now port (e ∷ before) = one_if (may_at d now port before e) + asking d now port before

-- the entry may issue at a port, and older ones leave it one
abbrev pub is_granted : Desc → Around → Port → List Entry → Entry → Bool
is_granted d now port before e = may_at d now port before e && nat_lt (asking d now port before) (ports d port)
