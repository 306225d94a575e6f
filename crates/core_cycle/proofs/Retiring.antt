-- Phase Retire leaves parts that hold what the machine then holds, and stand for it.
use Rattle.std.proofs.Common.{◌≡◌, ℕ, ◌+◌, ◌-◌, ◌≤◌, List, [], ◌∷◌, ◌++◌, length, take, drop, Option, None, refl, ap, sym, ◌∙◌, subst, arith}
use Rattle.std.specs.List.{AllByRecursion as Each}
use Rattle.circular_buffer.specs.Buffer.{Buffer, buffer, keep_last}
use Rattle.rv_types.specs.Memory.{Ram}
use Rattle.rv_types.specs.declared.End.{End}
use Rattle.machine_desc.proofs.EveryDesc.{every_desc}
use Rattle.window_model.specs.declared.Entry.{Entry}
use Rattle.window_model.specs.Retire.{retire, byte_count}
use Rattle.window_model.specs.Rename.{CallAlone}
use Rattle.window_model.specs.Row.{Row}
use Rattle.window_model.specs.State.{Machine}
use Rattle.machine_facts.specs.Sized.{Sized, FitsMemory, HasOutcome, HasParts}
use Rattle.machine_facts.proofs.SizedRetire.{no_fault, sized_retire, stored_at}
use Rattle.rob_ring.specs.Ring.{Ring}
use Rattle.rob_ring.specs.declared.beside.Sources.{Sources}
use Rattle.rename_taint.specs.declared.Write.{Write}
use Rattle.lsq.specs.Queues.{Queues, without}
use Rattle.visibility.specs.Point.{HasAdvanced}
use Rattle.cache_tags.specs.Sets.{Cache}
use Rattle.refinement.proofs.Lists.{take_length}
use Rattle.retire.specs.Parts as retiring
use Rattle.retire.specs.Parts.{TakesStore}
use Rattle.retire.specs.Gone.{MayRetire, leaving_entries, queues_without, without_each}
use Rattle.core_parts.specs.Described.{Described}
use Rattle.core_parts.specs.Held.{Held, Whole, described_of, in_flight, machine_of, sizes}
use Rattle.core_cycle.proofs.Tied.{Tied}
use Rattle.core_cycle.proofs.Leaving.{all_gone}
use Rattle.core_cycle.proofs.Moving.{advanced_here}
use Rattle.core_parts.proofs.Lending.{each_has_sources}
use Rattle.core_parts.proofs.Whole.{shown_by}

-- ---- memory takes what a Done store writes

-- memory takes what each entry writes, where each fits memory and has its parts and outcome
pub each_takes : (ram : Ram) (es : List Entry) → Each (FitsMemory ram) es → Each HasOutcome es → Each HasParts es → Each (TakesStore ram) es
each_takes ram [] m o p = tt
each_takes ram (e ∷ es) m o p =
    (λ s d n. (let a = stored_at e p.0 s d in no_fault ram (byte_count e) e.outcome (m.0 s a) (o.0 s a) n), each_takes ram es m.1 o.1 p.1)

-- ---- the queues' room stays

popped_loads : (es : List Entry) (q : Queues) → (queues_without es q).max_loads ≡ q.max_loads
popped_loads [] q = refl
popped_loads (e ∷ es) q = popped_loads es (without e.serial q)

popped_stores : (es : List Entry) (q : Queues) → (queues_without es q).max_stores ≡ q.max_stores
popped_stores [] q = refl
popped_stores (e ∷ es) q = popped_stores es (without e.serial q)

-- ---- the sources of those that stay

stays : (old new : List Entry) (sources : List Sources) → length sources ≡ length old → drop (length (take (length old - length new) old)) sources ≡ keep_last (length new) sources
stays old new sources e =
    let less : length old - length new ≤ length old = omega arith in
    ap (λ n. drop n sources) (take_length (length old - length new) old less ∙ ap (λ n. n - length new) (sym e))

-- what Retire left of the parts
pub record Left (h : Held) (rob : Ring) (sources : Buffer Sources) (writes : List Write) (table_room : ℕ) (queues : Queues) (tags : Cache) (retired : ℕ) : Type 0 where
  pub entries : h.rob.entries ≡ leaving_entries h.rob rob ++ rob.entries
  pub may_retire : Each MayRetire (leaving_entries h.rob rob)
  pub same_room : rob.room ≡ h.rob.room
  pub beside : sources ≡ buffer (keep_last (length rob.entries) h.sources.items) h.sources.capacity
  pub table : writes ≡ without_each (leaving_entries h.rob rob) h.writes
  pub same_table_room : table_room ≡ h.table_room
  pub lsq : queues ≡ queues_without (leaving_entries h.rob rob) h.queues
  pub cache : tags.desc ≡ h.tags.desc
  pub count : retired ≡ h.retired + (length h.rob.entries - length rob.entries)

-- what stands beside the window stands for what is left of it
left_tied : (h : Held) (rob : Ring) (sources : Buffer Sources) (writes : List Write) (room : ℕ) (queues : Queues) (tags : Cache) (retired : ℕ) → Whole h →
    HasAdvanced h.point h.rob.entries → Left h rob sources writes room queues tags retired → Tied (in_flight h) rob.entries sources.items writes queues
left_tied h rob sources writes room queues tags retired w a l =
    let p = in_flight h in
    let left = leaving_entries h.rob rob in
    let here : Tied p (left ++ rob.entries) h.sources.items h.writes h.queues = subst (λ es. Tied p es h.sources.items h.writes h.queues) l.entries w.refines in
    let all =
    all_gone p left rob.entries h.sources.items h.writes h.queues l.may_retire (subst CallAlone l.entries w.sized.call_alone)
    (subst (HasAdvanced h.point) l.entries a) here in
    let sources_are = stays h.rob.entries rob.entries h.sources.items (each_has_sources h w) ∙ sym (ap (λ (b : Buffer Sources). b.items) l.beside) in
    subst (λ ss. Tied p rob.entries ss writes queues) sources_are
    (subst (λ ns. Tied p rob.entries (drop (length left) h.sources.items) ns queues) (sym l.table)
    (subst (λ q. Tied p rob.entries (drop (length left) h.sources.items) (without_each left h.writes) q) (sym l.lsq) all))

-- the machine that they then hold
left_machine : (h : Held) (rob : Ring) (tags : Cache) (ram : Ram) (regs : List ℕ) (pc : ℕ) (end : Option End) (retired : ℕ) → h.end ≡ None →
    ((x : Machine) → retiring.with_more_retired (length h.rob.entries - length rob.entries) (retiring.with_parts rob tags ram regs pc end x) ≡ (retiring.retires h.desc h.rob h.tags h.ram h.regs h.pc x).machine) →
    retired ≡ h.retired + (length h.rob.entries - length rob.entries) →
    machine_of (record h { rob = rob; tags = tags; ram = ram; regs = regs; pc = pc; end = end; retired = retired }) ≡ (retire h.desc (machine_of h)).machine
left_machine h rob tags ram regs pc end retired n f e =
    ap (λ r. machine_of (record h { rob = rob; tags = tags; ram = ram; regs = regs; pc = pc; end = end; retired = r })) e
    ∙ f (machine_of h)
    ∙ ap (λ e. (retire h.desc (record (machine_of h) { end = e })).machine) (sym n)

left_sizes : (h : Held) (rob : Ring) (sources : Buffer Sources) (writes : List Write) (room : ℕ) (queues : Queues) (tags : Cache) (retired : ℕ) → Left h rob sources writes room queues tags retired →
    sizes (record h { rob = rob; sources = sources; writes = writes; table_room = room; queues = queues; tags = tags }) ≡ sizes h
left_sizes h rob sources writes room queues tags retired l =
    let e1 = l.same_room in
    let e2 = l.beside in
    let e4 = l.same_table_room in
    let e5 = ap (λ (q : Queues). q.max_loads) l.lsq ∙ popped_loads (leaving_entries h.rob rob) h.queues in
    let e6 = ap (λ (q : Queues). q.max_stores) l.lsq ∙ popped_stores (leaving_entries h.rob rob) h.queues in
    let e7 = l.cache in
    cc

pub retire_whole : (h : Held) (rob : Ring) (sources : Buffer Sources) (writes : List Write) (room : ℕ) (queues : Queues) (tags : Cache) (ram : Ram) (regs : List ℕ) (pc : ℕ) (end : Option End) (retired : ℕ) →
    Whole h → (v : Described) → described_of h ≡ v → HasAdvanced v.point v.machine.window → h.end ≡ None →
    ((x : Machine) → retiring.with_more_retired (length h.rob.entries - length rob.entries) (retiring.with_parts rob tags ram regs pc end x) ≡ (retiring.retires h.desc h.rob h.tags h.ram h.regs h.pc x).machine) →
    Left h rob sources writes room queues tags retired →
    Whole (record h { rob = rob; sources = sources; writes = writes; table_room = room; queues = queues; tags = tags; ram = ram; regs = regs; pc = pc; end = end; retired = retired })
retire_whole h rob sources writes room queues tags ram regs pc end retired w v s a n f l = record {
  sized = subst (Sized h.desc) (sym (left_machine h rob tags ram regs pc end retired n f l.count)) (sized_retire h.desc (machine_of h) (every_desc h.desc) w.sized);
  refines = left_tied h rob sources writes room queues tags retired w (advanced_here h v s a) l;
  made = left_sizes h rob sources writes room queues tags retired l ∙ w.made;
}

pub retire_shown : (h : Held) (rob : Ring) (tags : Cache) (ram : Ram) (regs : List ℕ) (pc : ℕ) (end : Option End) (retired : ℕ) (v : Described) → Whole h → h.end ≡ None →
    ((x : Machine) → retiring.with_more_retired (length h.rob.entries - length rob.entries) (retiring.with_parts rob tags ram regs pc end x) ≡ (retiring.retires h.desc h.rob h.tags h.ram h.regs h.pc x).machine) →
    retired ≡ h.retired + (length h.rob.entries - length rob.entries) → described_of h ≡ v →
    described_of (record h { rob = rob; tags = tags; ram = ram; regs = regs; pc = pc; end = end; retired = retired }) ≡ record v { machine = (retire v.desc v.machine).machine }
retire_shown h rob tags ram regs pc end retired v w n f e s =
    shown_by (λ d x. (retire d x).machine) h (machine_of (record h { rob = rob; tags = tags; ram = ram; regs = regs; pc = pc; end = end; retired = retired })) v (left_machine h rob tags ram regs pc end retired n f e) s

pub retire_row : (h : Held) (v : Described) (old new : Row) → Whole h → h.end ≡ None →
    ((x : Machine) → new ≡ record old { events = old.events ++ (retiring.retires h.desc h.rob h.tags h.ram h.regs h.pc x).events }) → described_of h ≡ v →
    new ≡ record old { events = old.events ++ (retire v.desc v.machine).events }
retire_row h v old new w n f s =
    let by_end : Option End → Row = λ e. record old { events = old.events ++ (retire h.desc (record (machine_of h) { end = e })).events } in
    let by_state : Described → Row = λ v. record old { events = old.events ++ (retire v.desc v.machine).events } in
    f (machine_of h) ∙ ap by_end (sym n) ∙ ap by_state s

pub retire_piece : (h : Held) (v : Described) (new : List ℕ) → Whole h → h.end ≡ None →
    ((x : Machine) → new ≡ (retiring.retires h.desc h.rob h.tags h.ram h.regs h.pc x).piece) → described_of h ≡ v → new ≡ (retire v.desc v.machine).piece
retire_piece h v new w n f s =
    f (machine_of h) ∙ ap (λ e. (retire h.desc (record (machine_of h) { end = e })).piece) (sym n) ∙ ap (λ (v : Described). (retire v.desc v.machine).piece) s
