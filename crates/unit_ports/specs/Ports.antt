-- The ports as contracts see them (docs/machine.md, "Issue").
use Rattle.std.specs.Prelude.{ℕ, ◌-◌, None}
use Rattle.machine_desc.specs.declared.Desc.{Desc}
use Rattle.window_model.specs.declared.Divider.{Divider}
use Rattle.rv_types.specs.declared.Kind.{Kind}
use Rattle.rv_types.specs.declared.Kind.TheVariants.{Store}
use Rattle.window_model.specs.Ports.{Port, AluPort, MulPort, DivPort, AddressPort, DataPort, LoadPort, port_of}

-- how many arithmetic units there are, the cycle, how many ports of each kind are left in it (a store's address part
-- and its data part have each their own), and the divider
pub record Ports : Type 0 where
  pub alus : ℕ
  pub cycle : ℕ
  pub alu : ℕ
  pub mul : ℕ
  pub div : ℕ
  pub address_part : ℕ
  pub data_part : ℕ
  pub load : ℕ
  pub divider : Divider

-- a divider that is free, with no user
abbrev pub free_divider : Divider
free_divider = record { free_from = 0; user = None }

-- the ports of a cycle as it begins: as many for arithmetic as there are units, and one of each other kind
abbrev pub begun_at : ℕ → Ports → Ports
begun_at cycle p = record p { cycle = cycle; alu = p.alus; mul = 1; div = 1; address_part = 1; data_part = 1; load = 1 }

-- the ports of cycle 0, and a divider that is free
abbrev pub opening : Desc → Ports
opening d = record {
  alus = d.units_alus;
  cycle = 0;
  alu = d.units_alus;
  mul = 1;
  div = 1;
  address_part = 1;
  data_part = 1;
  load = 1;
  divider = free_divider;
}

-- the port that an entry of this kind asks for: a store for its address part's. Its data part asks for a port of its
-- own
abbrev pub port_for : Kind → Port
port_for Store = AddressPort
port_for k = port_of k

-- how many are left of a port
abbrev pub left_at : Port → Ports → ℕ
left_at AluPort p = p.alu
left_at MulPort p = p.mul
left_at DivPort p = p.div
left_at AddressPort p = p.address_part
left_at DataPort p = p.data_part
left_at LoadPort p = p.load

-- one fewer of a port, where one is left
abbrev pub taken_at : Port → Ports → Ports
taken_at AluPort p = record p { alu = p.alu - 1 }
taken_at MulPort p = record p { mul = p.mul - 1 }
taken_at DivPort p = record p { div = p.div - 1 }
taken_at AddressPort p = record p { address_part = p.address_part - 1 }
taken_at DataPort p = record p { data_part = p.data_part - 1 }
taken_at LoadPort p = record p { load = p.load - 1 }
