-- What the parts of a core hold, of which machine they are, and what holds of them in every state (docs/machine.md,
-- "State", docs/architecture.md, "How the parts refine the window").
use Rattle.std.specs.Prelude.{◌≡◌, ℕ, Bool, List, length, Option}
use Rattle.circular_buffer.specs.Buffer.{Buffer}
use Rattle.rv_types.specs.Memory.{Ram}
use Rattle.rv_types.specs.declared.End.{End}
use Rattle.elf_loader.specs.inner.Code.{CodeText}
use Rattle.machine_desc.specs.declared.Desc.{Desc}
use Rattle.machine_desc.specs.declared.SttModel.{SttModel}
use Rattle.machine_desc.specs.Questions.{loads_pass}
use Rattle.window_model.specs.Ready.{holds}
use Rattle.window_model.specs.State.{Machine}
use Rattle.machine_facts.specs.Sized.{Sized}
use Rattle.rob_ring.specs.Ring.{Ring}
use Rattle.rob_ring.specs.declared.beside.Sources.{Sources}
use Rattle.rename_taint.specs.declared.Write.{Write}
use Rattle.stations.specs.Stations.{Stations}
use Rattle.lsq.specs.Queues.{Queues}
use Rattle.cache_tags.specs.Sets.{Cache}
use Rattle.mshr_file.specs.Registers.{Registers}
use Rattle.unit_ports.specs.Ports.{Ports}
use Rattle.predictor.specs.Tables.{Tables}
use Rattle.history_pred.specs.Past.{Past}
use Rattle.fetch_unit.specs.Unit.{FetchUnit}
use Rattle.visibility.specs.Point.{Point}
use Rattle.core_parts.specs.Described.{Described}
use Rattle.refinement.specs.InFlight.{InFlight}
use Rattle.refinement.specs.Refines.{Refines}

-- what all parts of a core hold
pub record Held : Type 0 where
  pub desc : Desc
  pub code : CodeText
  pub cycle : ℕ
  pub regs : List ℕ
  pub pc : ℕ
  pub ram : Ram
  pub rob : Ring
  -- at each entry's position the youngest roots of its sources, and their writers
  pub sources : Buffer Sources
  -- the rename table's writes, and for how many it has room
  pub writes : List Write
  pub table_room : ℕ
  pub stations : Stations
  pub queues : Queues
  pub tags : Cache
  pub second : Cache
  pub mshrs : Registers
  pub ports : Ports
  pub tables : Tables
  pub past : Past
  pub dependence : List Bool
  pub fetch_unit : FetchUnit
  pub point : Point
  pub retired : ℕ
  pub next_serial : ℕ
  pub end : Option End

-- the machine that they hold
abbrev pub machine_of : Held → Machine
machine_of h = record {
  cycle = h.cycle;
  regs = h.regs;
  pc = h.pc;
  ram = h.ram;
  window = h.rob.entries;
  queue = h.fetch_unit.queue;
  fetch_pc = h.fetch_unit.fetch_pc;
  counters = h.tables.counters;
  targets = h.tables.targets;
  dependence = h.dependence;
  checkpoint = h.past.checkpoint;
  cache = h.tags.sets;
  second = h.second.sets;
  misses = h.mshrs.misses;
  divider = h.ports.divider;
  retired = h.retired;
  next_serial = h.next_serial;
  end = h.end;
}

-- the machine that the parts hold, with its description, its code and its point
abbrev pub described_of : Held → Described
described_of h = record { desc = h.desc; code = h.code; machine = machine_of h; point = h.point }

-- what the parts hold of the entries in flight
abbrev pub in_flight : Held → InFlight
in_flight h = record {
  version = h.desc.version;
  holds = holds h.desc.stt_defence;
  tracked = loads_pass h.desc;
  next = h.next_serial;
  window = h.rob.entries;
  sources = h.sources.items;
  writes = h.writes;
  held = h.stations.held;
  queues = h.queues;
  point = h.point;
}

-- how large each part is, and for which description both levels of the cache were made
pub record Sizes : Type 0 where
  pub entries : ℕ
  pub sources : ℕ
  pub writes : ℕ
  pub places : ℕ
  pub loads : ℕ
  pub stores : ℕ
  pub registers : ℕ
  pub tags : Desc
  pub second : Desc
  pub counters : ℕ
  pub directions : ℕ
  pub returns : ℕ
  pub bits : ℕ
  pub width : ℕ
  pub items : ℕ
  pub alus : ℕ
  pub model : SttModel

-- the sizes of what the parts hold
abbrev pub sizes : Held → Sizes
sizes h = record {
  entries = h.rob.room;
  sources = h.sources.capacity;
  writes = h.table_room;
  places = h.stations.room;
  loads = h.queues.max_loads;
  stores = h.queues.max_stores;
  registers = h.mshrs.room;
  tags = h.tags.desc;
  second = h.second.desc;
  counters = h.past.counters;
  directions = h.past.directions;
  returns = h.past.returns;
  bits = length h.dependence;
  width = h.fetch_unit.width;
  items = h.fetch_unit.room;
  alus = h.ports.alus;
  model = h.point.model;
}

-- how large the parts are to be by a description
abbrev pub sizes_for : Desc → Sizes
sizes_for d = record {
  entries = d.core_rob;
  sources = d.core_rob;
  writes = d.core_rob;
  places = d.core_stations;
  loads = d.core_loads;
  stores = d.core_stores;
  registers = d.cache_mshrs;
  tags = d;
  second = d;
  counters = d.predictor_counters;
  directions = d.predictor_history;
  returns = d.predictor_returns;
  bits = d.predictor_depend;
  width = d.core_fetch_width;
  items = d.core_queue;
  alus = d.units_alus;
  model = d.stt_model;
}

-- the invariant of the parts of a core, in every state
pub record Whole (h : Held) : Type 0 where
  -- what each part holds is within the sizes of the description
  pub sized : Sized h.desc (machine_of h)
  -- what stands beside the window so that it needn't be searched stands for it
  pub refines : Refines (in_flight h)
  -- the parts are made for the description, with its sizes
  pub made : sizes h ≡ sizes_for h.desc
