-- The phase leaves parts that hold what the machine then holds, and stand for it.
use Rattle.std.proofs.Common.{◌≡◌, ℕ, ◌+◌, ◌≤◌, length, [], ap, sym, ◌∙◌, subst, arith}
use Rattle.std.specs.List.{AllByRecursion as Each, flat_map}
use Rattle.machine_desc.proofs.EveryDesc.{every_desc}
use Rattle.window_model.specs.declared.Divider.{Divider}
use Rattle.window_model.specs.Around.{Around, around}
use Rattle.window_model.specs.Issue.{issue, issue_entry}
use Rattle.window_model.specs.Order.{each}
use Rattle.window_model.specs.State.{Machine}
use Rattle.window_model.specs.Row.{Row}
use Rattle.window_model.specs.inner.Row.{most_issued, with_events}
use Rattle.machine_facts.specs.Sized.{Sized}
use Rattle.machine_facts.specs.Timely.{WaitsOrDone}
use Rattle.machine_facts.proofs.SizedPhases.{sized_issue}
use Rattle.rob_ring.specs.Ring.{Ring}
use Rattle.stations.specs.Stations.{Stations}
use Rattle.lsq.specs.Queues.{Queues}
use Rattle.cache_tags.specs.Sets.{Cache}
use Rattle.mshr_file.specs.Registers.{Registers}
use Rattle.unit_ports.specs.Ports.{Ports, begun_at}
use Rattle.unit_ports.specs.Laws.{LeftAfter}
use Rattle.unit_ports.proofs.Granting.{left_first}
use Rattle.visibility.specs.Point.{HasAdvanced}
use Rattle.core_parts.specs.Described.{Described}
use Rattle.core_parts.specs.Held.{Held, Sizes, Whole, described_of, in_flight, machine_of, sizes}
use Rattle.refinement.specs.InFlight.{InFlight}
use Rattle.refinement.specs.Refines.{Refines}
use Rattle.core_parts.proofs.Whole.{shown_by, told_by}
use Rattle.core_parts.specs.declared.decided.Decided.{Decided}
use Rattle.issue.specs.Decisions.{Decides, most_begun}
use Rattle.issue.specs.Parts.{holding}
use Rattle.issue.specs.Ports.{events_left, left_in_all}
use Rattle.issue.specs.Puts.{window_with_puts}
use Rattle.issue.specs.Shared.{cache_left, misses_left, requests_of_load, second_left}
use Rattle.issue.proofs.Advanced.{issue_advanced}
use Rattle.issue.proofs.Leaving.{has_room, leaves}

-- ---- what holds before the phase

-- the point said which entries are visible
pub advanced : (h : Held) (v : Described) → Whole h → described_of h ≡ v → HasAdvanced v.point v.machine.window → HasAdvanced h.point h.rob.entries
advanced h v w s a = subst (λ (v : Described). HasAdvanced v.point v.machine.window) (sym s) a

-- no store executed before the phase: each store waits or is done
pub settled : (h : Held) (v : Described) → Whole h → described_of h ≡ v → Each WaitsOrDone v.machine.window → Each WaitsOrDone h.rob.entries
settled h v w s a = subst (λ (v : Described). Each WaitsOrDone v.machine.window) (sym s) a

-- at most so many ports are left, as their cycle begins, as entries may begin in a cycle
pub few_left : (h : Held) (cycle : ℕ) (ports : Ports) → Whole h → ports ≡ begun_at cycle h.ports → left_in_all ports ≤ most_begun
few_left h cycle ports w b =
    let n = ap left_in_all b in
    let alus = ap (λ (s : Sizes). s.alus) w.made in
    let few = (every_desc h.desc).alus.1 in
    omega (arith, n, alus, few)

-- the ports that are left as their cycle begins allow at most so many events as a cycle may issue
pub events_few : (h : Held) (cycle : ℕ) (ports : Ports) → Whole h → ports ≡ begun_at cycle h.ports → events_left ports ≤ most_issued
events_few h cycle ports w b =
    let left = few_left h cycle ports w b in
    let one = ap (λ (p : Ports). p.load) b in
    omega (arith, left, one)

-- where no entry has had its turn, every port is left as its cycle begins
pub all_left : (h : Held) (cycle : ℕ) (now : Around) (ports : Ports) → Whole h → ports ≡ begun_at cycle h.ports → LeftAfter h.desc now [] ports
all_left h cycle now ports w b = subst (LeftAfter h.desc now []) (sym b) (left_first h.desc now cycle h.ports (ap (λ (s : Sizes). s.alus) w.made))

-- the parts refine the window
pub refining : (h : Held) → Whole h → (p : InFlight) × Refines (holding h.desc h.rob h.stations h.queues p)
refining h w = (in_flight h, w.refines)

-- what an entry looks at, with this divider
abbrev pub now_with : Held → Divider → Around
now_with h v = record { cycle = h.cycle; regs = h.regs; ram = h.ram; dependence = h.dependence; cache = h.tags.sets; second = h.second.sets; misses = h.mshrs.misses; free_from = v.free_from }

-- what is decided for the state that the phase looks at is decided for the machine
pub decides : (h : Held) (v : Divider) (cycle : ℕ) (begun : Ports) (new : Divider) (decided : Decided) → Whole h → v ≡ h.ports.divider →
    begun ≡ begun_at cycle h.ports → Decides h.desc (now_with h v) h.rob.entries decided begun.divider new →
    Decides h.desc (around (machine_of h)) h.rob.entries decided h.ports.divider new
decides h v cycle begun new decided w q b k =
    subst (λ (v : Divider). Decides h.desc (now_with h v) h.rob.entries decided h.ports.divider new) q
    (subst (λ (p : Ports). Decides h.desc (now_with h v) h.rob.entries decided p.divider new) b k)

-- no more registers are taken than there are
pub registers_fit : (h : Held) → Whole h → length h.mshrs.misses ≤ h.mshrs.room
registers_fit h w = subst (λ n. length h.mshrs.misses ≤ n) (sym (ap (λ (s : Sizes). s.registers) w.made)) w.sized.misses

-- lines take registers where as many are left
pub registers_left : (h : Held) (decided : Decided) (new : Divider) → Whole h → Decides h.desc (around (machine_of h)) h.rob.entries decided h.ports.divider new →
    length h.mshrs.misses + length (requests_of_load decided.load) ≤ h.mshrs.room
registers_left h decided new w k =
    subst (λ n. length h.mshrs.misses + length (requests_of_load decided.load) ≤ n) (sym (ap (λ (s : Sizes). s.registers) w.made))
    (has_room h.desc (machine_of h) w.sized.misses decided.load k.load)

-- the events of the entries' turns are those of the definition of the phase
pub issued_row : (h : Held) (divider : Divider) (v : Described) (old new : Row) → Whole h → divider ≡ h.ports.divider →
    new ≡ with_events old (flat_map (λ b. b.events) (each (issue_entry h.desc (now_with h divider)) h.rob.entries)) → described_of h ≡ v → new ≡ with_events old (issue v.desc v.machine).events
issued_row h divider v old new w q e s =
    told_by (λ d x. issue d x) h v old new
    (subst (λ (v : Divider). new ≡ with_events old (issue h.desc (record (machine_of h) { divider = v })).events) q e) s

-- ---- what the phase leaves

-- the parts that are written, by what is decided
module _ (h : Held) (decided : Decided) (rob : Ring) (stations : Stations) (queues : Queues) (tags : Cache) (second : Cache) (mshrs : Registers) (ports : Ports) (w : Whole h)
    (k : Decides h.desc (around (machine_of h)) h.rob.entries decided h.ports.divider ports.divider)
    (r : rob ≡ record (h.rob) { entries = window_with_puts decided.puts.items h.rob.entries })
    (t : tags ≡ record (h.tags) { sets = cache_left h.tags.desc decided.load h.tags.sets })
    (t2 : second ≡ record (h.second) { sets = second_left h.second.desc decided.load h.second.sets })
    (m : mshrs ≡ record (h.mshrs) { misses = misses_left h.desc h.cycle decided.load h.mshrs.misses }) where
  abbrev new : Held
  new = record h { rob = rob; stations = stations; queues = queues; tags = tags; second = second; mshrs = mshrs; ports = ports }

  -- the parts that the phase leaves hold the machine that the definition leaves
  issued_machine : machine_of new ≡ (issue h.desc (machine_of h)).machine
  issued_machine =
      leaves h.desc (machine_of h) rob.entries decided.load tags.sets second.sets mshrs.misses ports.divider
      (ap (λ (r : Ring). r.entries) r ∙ k.window) k.load
      (ap (λ (t : Cache). t.sets) t ∙ ap (λ (s : Sizes). cache_left s.tags decided.load h.tags.sets) w.made)
      (ap (λ (t : Cache). t.sets) t2 ∙ ap (λ (s : Sizes). second_left s.second decided.load h.second.sets) w.made)
      (ap (λ (m : Registers). m.misses) m) k.divider

  issued_sizes : stations.room ≡ h.stations.room → queues.max_loads ≡ h.queues.max_loads → queues.max_stores ≡ h.queues.max_stores → ports.alus ≡ h.ports.alus → sizes new ≡ sizes h
  issued_sizes s a b p =
      let entries = ap (λ (r : Ring). r.room) r in
      let lines = ap (λ (t : Cache). t.desc) t in
      let more_lines = ap (λ (t : Cache). t.desc) t2 in
      let registers = ap (λ (m : Registers). m.room) m in
      cc

  pub issued_whole : ((p : InFlight) → Refines (holding h.desc h.rob h.stations h.queues p) → Refines (holding h.desc rob stations queues p)) → stations.room ≡ h.stations.room →
      queues.max_loads ≡ h.queues.max_loads → queues.max_stores ≡ h.queues.max_stores → ports.alus ≡ h.ports.alus → Whole new
  issued_whole refines s a b p = record {
    sized = subst (Sized h.desc) (sym issued_machine) (sized_issue h.desc (machine_of h) (every_desc h.desc) w.sized);
    refines = refines (in_flight h) w.refines;
    made = issued_sizes s a b p ∙ w.made;
  }

  pub issued_shown : (v : Described) → described_of h ≡ v → described_of new ≡ record v { machine = (issue v.desc v.machine).machine }
  issued_shown v s = shown_by (λ d x. (issue d x).machine) h (machine_of new) v issued_machine s

  -- the visibility point still says which entries are visible, once they have issued
  pub issued_advanced : (v : Described) → described_of h ≡ v → HasAdvanced v.point v.machine.window → HasAdvanced h.point rob.entries
  issued_advanced v s a =
      subst (HasAdvanced h.point) (sym (ap (λ (x : Machine). x.window) issued_machine))
      (issue_advanced h.desc h.point (machine_of h) w.sized.parts w.refines.point.unresolved (advanced h v w s a))
