-- The parts once the youngest entries are gone.
use Rattle.std.proofs.Common.{◌≡◌, ℕ, List, [], ◌++◌, length, take, Option, ap, sym, subst, arith}
use Rattle.std.specs.Prelude.{nat_lt}
use Rattle.std.specs.List.{AllByRecursion as Each, filter}
use Rattle.circular_buffer.specs.Buffer.{Buffer, buffer}
use Rattle.machine_desc.specs.declared.Desc.{Desc}
use Rattle.window_model.specs.declared.Entry.{Entry}
use Rattle.window_model.specs.Resolve.{freed_from}
use Rattle.window_model.specs.declared.Divider.{Divider}
use Rattle.window_model.specs.State.{Machine}
use Rattle.window_model.proofs.Counts.{evolves_thins}
use Rattle.window_model.proofs.Lists.{each_left}
use Rattle.machine_facts.specs.Sized.{Sized}
use Rattle.machine_facts.proofs.Parts.{IsEntry, WindowFits, parts, whole}
use Rattle.machine_facts.proofs.SizedWindow.{thinner}
use Rattle.machine_facts.proofs.ClearPhases.{evolves_front}
use Rattle.rob_ring.specs.Ring.{Ring, below}
use Rattle.rob_ring.specs.declared.beside.Sources.{Sources}
use Rattle.rename_taint.specs.declared.Write.{Write}
use Rattle.rename_taint.specs.Writes.{before_serial}
use Rattle.stations.specs.Stations.{Stations}
use Rattle.lsq.specs.Queues.{Queues, cut_at}
use Rattle.unit_ports.specs.Ports.{Ports}
use Rattle.fetch_unit.specs.Unit.{FetchUnit}
use Rattle.window_model.proofs.Serials.{splits}
use Rattle.core_parts.specs.Described.{Described}
use Rattle.core_parts.specs.Held.{Held, Whole, described_of, in_flight, machine_of}
use Rattle.core_parts.specs.Dropped.{StopsBelow}
use Rattle.refinement.proofs.Steps.{refines_dropped}

-- ---- a window that is cut has no more of anything

pub sized_dropped : (d : Desc) (x : Machine) (a b : List Entry) (pc : Option ℕ) (v : Divider) → x.window ≡ a ++ b → Sized d x → Sized d (record x { window = a; queue = []; fetch_pc = pc; divider = v })
sized_dropped d x a b pc v e s =
    let f = parts d x s in
    whole d (record x { window = a; queue = []; fetch_pc = pc; divider = v }) (record {
      window = thinner d (a ++ b) a (evolves_thins (a ++ b) a (evolves_front a b)) (subst (WindowFits d) e f.window);
      entries = each_left (IsEntry d x.ram) a b (subst (Each (IsEntry d x.ram)) e f.entries);
      queue = record { queue = omega arith; item_kinds = tt };
      predictor = f.predictor;
      cache = f.cache;
      second = f.second;
      misses = f.misses;
      dependence = f.dependence;
      registers = f.registers;
    })

-- ---- what each part is left with

pub record Dropped (h : Held) (first : ℕ) (next : Option ℕ) (rob : Ring) (sources : Buffer Sources) (writes : List Write) (room : ℕ) (stations : Stations) (q : Queues) (ports : Ports) (fetch_unit : FetchUnit) : Type 0 where
  pub window : rob ≡ record (h.rob) { entries = below first h.rob.entries }
  pub beside : sources ≡ buffer (take (length rob.entries) h.sources.items) h.sources.capacity
  pub table : writes ≡ before_serial first h.writes
  pub same_room : room ≡ h.table_room
  pub places : stations ≡ record (h.stations) { held = filter (λ s. nat_lt s.serial first) h.stations.held }
  pub loads_and_stores : q ≡ cut_at first h.queues
  pub divider : ports ≡ record (h.ports) { divider = freed_from first h.ports.divider }
  pub fetches : fetch_unit ≡ record (h.fetch_unit) { queue = []; fetch_pc = next }

-- the parts once the entries from a serial on are dropped, and fetching goes on elsewhere
abbrev pub dropped : Held → ℕ → Option ℕ → Held
dropped h first next = record h {
  rob = record (h.rob) { entries = below first h.rob.entries };
  sources = buffer (take (length (below first h.rob.entries)) h.sources.items) h.sources.capacity;
  writes = before_serial first h.writes;
  stations = record (h.stations) { held = filter (λ s. nat_lt s.serial first) h.stations.held };
  queues = cut_at first h.queues;
  ports = record (h.ports) { divider = freed_from first h.ports.divider };
  fetch_unit = record (h.fetch_unit) { queue = []; fetch_pc = next };
}

dropped_whole : (h : Held) (first : ℕ) (next : Option ℕ) → Whole h → StopsBelow first h.point h.rob.entries → Whole (dropped h first next)
dropped_whole h first next w s =
    let t = splits first h.rob.entries w.refines.rise in
    record {
      sized = sized_dropped h.desc (machine_of h) (below first h.rob.entries) t.gone next (freed_from first h.ports.divider) t.whole w.sized;
      refines = refines_dropped (in_flight h) first s.position s.entry w.refines s.here s.older s.not_past;
      made = w.made;
    }

module _ (h : Held) (first : ℕ) (next : Option ℕ) (rob : Ring) (sources : Buffer Sources) (writes : List Write) (room : ℕ) (stations : Stations) (q : Queues) (ports : Ports) (fetch_unit : FetchUnit)
    (w : Whole h) (l : Dropped h first next rob sources writes room stations q ports fetch_unit) where
  are : record h { rob = rob; sources = sources; writes = writes; table_room = room; stations = stations; queues = q; ports = ports; fetch_unit = fetch_unit } ≡ dropped h first next
  are =
      let e1 = l.window in
      let e2 = l.beside in
      let e4 = l.table in
      let e5 = l.same_room in
      let e6 = l.places in
      let e7 = l.loads_and_stores in
      let e8 = l.divider in
      let e9 = l.fetches in
      let n = ap (λ (r : Ring). length r.entries) l.window in
      cc

  pub drop_whole : StopsBelow first h.point h.rob.entries → Whole (record h { rob = rob; sources = sources; writes = writes; table_room = room; stations = stations; queues = q; ports = ports; fetch_unit = fetch_unit })
  drop_whole s = subst Whole (sym are) (dropped_whole h first next w s)

-- ---- what a caller is asked

pub stops_here : (h : Held) (v : Described) (first : ℕ) → Whole h → described_of h ≡ v → StopsBelow first v.point v.machine.window → StopsBelow first h.point h.rob.entries
stops_here h v first w s t = subst (λ (v : Described). StopsBelow first v.point v.machine.window) (sym s) t
