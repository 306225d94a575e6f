-- Ports, as entries are granted them (docs/machine.md, "Issue").
use Rattle.std.specs.Prelude.{◌≡◌, ℕ, ◌+◌, ◌*◌, Bool, true, ◌∷◌}
use Rattle.rv_types.specs.declared.Kind.{Kind}
use Rattle.rv_types.specs.declared.Kind.TheVariants.{Load}
use Rattle.window_model.specs.declared.Entry.{Entry}
use Rattle.window_model.specs.Order.{has_address, has_data}
use Rattle.window_model.specs.Ports.{AddressPort, DataPort, Port, is_granted, may_at}
use Rattle.stations.specs.declared.wants.Part.{Part}
use Rattle.stations.specs.declared.wants.Part.TheVariants as part
use Rattle.unit_ports.specs.Laws.{LeftAfter}
use Rattle.unit_ports.specs.Ports.{Ports, port_for}
use Rattle.issue.specs.declared.candidate.Candidate.{Candidate}
use Rattle.issue.specs.declared.seen.Seen.{Seen}
use Rattle.issue.specs.State.{around_of, before_of}
use Rattle.issue.specs.Telling.{asks_besides}

-- ---- of an entry in its place

-- the entry in its place has what it asks for besides untainted operands that it may show
abbrev pub besides : Seen → Candidate → Bool
besides s p = asks_besides p.entry.now.item.kind s.desc.now (around_of s) (before_of s p) p.entry.now

-- the entry in its place may issue at this port
abbrev pub may_here : Port → Seen → Candidate → Bool
may_here port s p = may_at s.desc.now (around_of s) port (before_of s p) p.entry.now

-- a part of a store has issued
abbrev pub has_issued : Part → Entry → Bool
has_issued part.Address e = has_address e
has_issued part.Data e = has_data e

-- a part of a store may show its operand, where its entry may or not: the data part shows nothing as it issues
abbrev pub part_shows : Part → Bool → Bool
part_shows part.Address shows = shows
part_shows part.Data shows = true

-- the port of a part of a store
abbrev pub part_port : Part → Port
part_port part.Address = AddressPort
part_port part.Data = DataPort

-- the entry in its place is granted this port
abbrev pub granted_at : Port → Seen → Candidate → Bool
granted_at port s p = is_granted s.desc.now (around_of s) port (before_of s p) p.entry.now

-- the entry in its place is granted the port of its kind
abbrev pub is_served : Seen → Candidate → Bool
is_served s p = granted_at (port_for p.entry.now.item.kind) s p

-- the ports that are left to the entry in its place, and below those that are left to the entries behind it
abbrev pub LeftFor : Seen → Candidate → Ports → Type 0
LeftFor s p ports = LeftAfter s.desc.now (around_of s) (before_of s p) ports

abbrev pub LeftBehind : Seen → Candidate → Ports → Type 0
LeftBehind s p ports = LeftAfter s.desc.now (around_of s) (p.entry.now ∷ before_of s p) ports

-- ---- the ports of all entries

-- how many ports are left in all, of every kind
abbrev pub left_in_all : Ports → ℕ
left_in_all p = p.alu + p.mul + p.div + p.address_part + p.data_part + p.load

-- how many events the ports that are left allow: a load's two more than any other, since it may have two lines and one
-- that is prefetched
abbrev pub events_left : Ports → ℕ
events_left p = left_in_all p + 2 * p.load

-- the most events of an entry in one piece
abbrev pub most_events_of : Kind → ℕ
most_events_of Load = 3
most_events_of _ = 1

-- nothing of the ports changes but how many are left, and the divider
pub record OnlyPorts (old new : Ports) : Type 0 where
  pub alus : new.alus ≡ old.alus
  pub cycle : new.cycle ≡ old.cycle
