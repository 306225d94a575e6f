-- The fifth phase: entries whose operands are there begin to execute (docs/machine.md, "Issue"). Who may issue stands
-- in `MayIssue.antt`, who is granted a port in `Ports.antt`; what it comes to stands here.
use Rattle.std.specs.Prelude.{ℕ, ◌+◌, Bool, true, false, ◌&&◌, max, List, [], ◌∷◌, ◌++◌, map, Option, Some, None, if◌then◌else◌}
use Rattle.std.specs.List.{flat_map}
use Rattle.rv_types.specs.Word.{from_le}
use Rattle.rv_types.specs.Value.{extend, div_time}
use Rattle.rv_types.specs.Causes.{jump_misaligned}
use Rattle.rv_types.specs.Isa.{Effect}
use Rattle.rv_types.specs.Memory.{Ram, store_fault}
use Rattle.rv_types.specs.declared.Cause.{Cause}
use Rattle.rv_types.specs.declared.Kind.{Kind}
use Rattle.rv_types.specs.declared.Kind.TheVariants.{Mul, Div, Load}
use Rattle.machine_desc.specs.declared.Desc.{Desc}
use Rattle.machine_desc.specs.Questions.{stores_in_one}
use Rattle.window_model.specs.declared.Entry.{Entry}
use Rattle.window_model.specs.declared.Event.{Event}
use Rattle.window_model.specs.declared.Event.TheVariants as event
use Rattle.window_model.specs.declared.Outcome.{Outcome}
use Rattle.window_model.specs.declared.Progress.{Progress}
use Rattle.window_model.specs.declared.Progress.TheVariants.{Busy}
use Rattle.window_model.specs.State.{Machine, After, Divider}
use Rattle.window_model.specs.Around.{Around, around}
use Rattle.window_model.specs.Order.{Place, first, each, is_store, sources}
use Rattle.window_model.specs.MayIssue.{effect_of, first_operand}
use Rattle.window_model.specs.Ports.{Port, AddressPort, DataPort, DivPort, LoadPort, is_granted, may_at, port_of}
use Rattle.window_model.specs.Retire.{op_of, byte_count}
use Rattle.window_model.specs.declared.lookup.Access.{Access}
use Rattle.window_model.specs.declared.lookup.Access.TheVariants.{Faults, Forwards, Looks, Waits}
use Rattle.window_model.specs.Access.{access, cache_after, due_by, load_bytes, look_events, misses_after, second_after}

-- ---- what an entry does that is no store

-- the fault of a jump to an address that is no multiple of 4
abbrev pub fault_if : Bool → Option Cause
fault_if misaligned = if misaligned then Some jump_misaligned else None

-- an outcome of this effect, value and fault
abbrev pub outcome : Effect → ℕ → Option Cause → Outcome
outcome f v fault = record { value = v; next = f.next; addr = f.addr; stored = f.stored; fault = fault }

-- the entry executes from this cycle until another
abbrev pub executing_until : ℕ → Entry → ℕ → Outcome → Entry
executing_until cycle e due o = record e { state = Busy due; outcome = Some o; issued = Some cycle }

-- what an entry becomes in Issue, and the events of that
pub record Begun : Type 0 where
  pub entry : Entry
  pub events : List Event

-- what an entry that issues becomes: it executes until the cycle `due` and has this outcome; with the events of that
abbrev pub begins : Around → Entry → ℕ → Outcome → List Event → Begun
begins now e due o events = record { entry = executing_until now.cycle e due o; events = events }

-- what an entry that doesn't issue becomes: it stays as it is, with no event
abbrev pub waits : Entry → Begun
waits e = record { entry = e; events = [] }

-- a load's value without fault
abbrev pub value_loaded : Ram → List Entry → Entry → ℕ → ℕ
value_loaded ram before e a = extend (op_of e.item.instr) (from_le (load_bytes ram before a (byte_count e)))

-- a load by what its access comes to: when it is done, and its events
abbrev pub load_as : Access → Desc → Around → Entry → Effect → ℕ → Begun
load_as (Faults cause) d now e f v = begins now e (now.cycle + 1) (outcome f 0 (Some cause)) (event.LdFault e.serial ∷ [])
load_as Forwards d now e f v = begins now e (now.cycle + 1) (outcome f v None) (event.LdForward e.serial ∷ [])
load_as (Looks found ahead) d now e f v = begins now e (due_by d now found) (outcome f v None) (look_events e.serial found ahead)
load_as Waits d now e f v = waits e

-- the access of a load
abbrev pub access_of : Desc → Around → List Entry → Entry → Access
access_of d now before e = access d now before (effect_of now.regs before e).addr (byte_count e)

-- the time of a division
abbrev pub time_of : List ℕ → List Entry → Entry → ℕ
time_of regs before e = div_time (op_of e.item.instr) (first_operand regs before (sources e))

-- a division of this effect begins, and takes this time
abbrev pub divides : Around → Entry → Effect → ℕ → Begun
divides now e f time = begins now e (now.cycle + time) (outcome f f.value None) (event.Div e.serial time ∷ [])

-- what a granted entry of this effect does by its kind: when it is done, its outcome and its events
abbrev pub begin_by : Kind → Desc → Around → List Entry → Entry → Effect → Begun
begin_by Load d now before e f = load_as (access_of d now before e) d now e f (value_loaded now.ram before e f.addr)
begin_by Mul d now before e f = begins now e (now.cycle + d.units_mul_latency) (outcome f f.value None) (event.Mul e.serial ∷ [])
begin_by Div d now before e f = divides now e f (time_of now.regs before e)
begin_by _ d now before e f = begins now e (now.cycle + 1) (outcome f f.value (fault_if f.misaligned)) (event.Alu e.serial ∷ [])

-- what a granted entry does by its kind, with the effect that it has on its operands
abbrev pub begin_as : Kind → Desc → Around → List Entry → Entry → Begun
begin_as k d now before e = begin_by k d now before e (effect_of now.regs before e)

-- what is no store issues at the port of its kind: an entry that is granted it begins, any other waits
abbrev pub issue_whole : Desc → Around → List Entry → Entry → Begun
issue_whole d now before e =
    if is_granted d now (port_of e.item.kind) before e then begin_as e.item.kind d now before e else waits e

-- ---- what a store does, in one piece or by parts

-- a store's outcome so far
abbrev pub so_far : Option Outcome → ℕ → Outcome
so_far None next = record { value = 0; next = next; addr = 0; stored = 0; fault = None }
so_far (Some o) next = o

-- a store executes once both parts have issued, until the later one is known
abbrev pub busy_until_both : Option ℕ → Option ℕ → Progress → Progress
busy_until_both (Some a) (Some b) s = Busy (max a b)
busy_until_both _ _ s = s

-- the entry, which executes once it has both parts
abbrev pub if_both : Entry → Entry
if_both e = record e { state = busy_until_both e.addr_due e.data_due e.state }

-- the address part has issued: address and fault are known in the next cycle
abbrev pub with_address : Around → Effect → Entry → Entry
with_address now f e = if_both (record e {
  outcome = Some (record (so_far e.outcome f.next) { addr = f.addr; fault = store_fault now.ram f.addr (byte_count e) });
  addr_due = Some (now.cycle + 1);
})

-- the data part has issued: what is stored is known in the next cycle
abbrev pub with_data : Around → Effect → Entry → Entry
with_data now f e = if_both (record e {
  outcome = Some (record (so_far e.outcome f.next) { stored = f.stored });
  data_due = Some (now.cycle + 1);
})

-- the entry goes on, with these events, where it is granted what it asks for
abbrev pub if_granted : Bool → (Entry → Entry) → List Event → Entry → Begun
if_granted granted part events e = if granted then record { entry = part e; events = events } else waits e

-- a store of version 1 issues in one piece, with one event, where it is granted both its ports: every store asks for
-- both, so both are left to it or neither is
abbrev pub store_in_one : Desc → Around → List Entry → Entry → Begun
store_in_one d now before e =
    let f = effect_of now.regs before e in
    let both = is_granted d now AddressPort before e && is_granted d now DataPort before e in
    if_granted both (λ e. with_data now f (with_address now f e)) (event.Agu e.serial ∷ []) e

-- a store of this effect by whether each part is granted its port, the address first, with these events of its data
abbrev pub parts_with : Bool → Bool → List Event → Around → Effect → Entry → Begun
parts_with address datum events now f e =
    let a = if_granted address (with_address now f) (event.Agu e.serial ∷ []) e in
    let b = if_granted datum (with_data now f) events a.entry in
    record { entry = b.entry; events = a.events ++ b.events }

-- a store of version 2 issues by parts, each with its event: those that are granted their ports
abbrev pub store_by_parts : Desc → Around → List Entry → Entry → Begun
store_by_parts d now before e =
    parts_with (is_granted d now AddressPort before e) (is_granted d now DataPort before e) (event.Std e.serial ∷ []) now (effect_of now.regs before e) e

-- what a store becomes in its version
abbrev pub issue_store : Desc → Around → List Entry → Entry → Begun
issue_store d now before e = if stores_in_one d then store_in_one d now before e else store_by_parts d now before e

-- what an entry becomes in Issue, a store or any other
abbrev pub issue_entry : Desc → Around → List Entry → Entry → Begun
issue_entry d now before e = if is_store e.item.kind then issue_store d now before e else issue_whole d now before e

-- ---- what all entries that issue share

-- what the one load that is tried leaves
abbrev pub after_load : Desc → Option Place → Machine → Machine
after_load d None x = x
after_load d (Some p) x =
    let a = access_of d (around x) p.before p.entry in
    record x { cache = cache_after a d x.cache; second = second_after a d x.second; misses = misses_after a d x.cycle x.misses }

-- the kind is a division's
abbrev pub is_division : Kind → Bool
is_division Div = true
is_division _ = false

-- the divider, taken for a division's time
abbrev pub taken_for : Around → List Entry → Entry → Divider
taken_for now before e = record { free_from = now.cycle + time_of now.regs before e; user = Some (e.serial) }

-- the divider after the one division that issues
abbrev pub divider_after : Machine → Option Place → Divider
divider_after x None = x.divider
divider_after x (Some p) = taken_for (around x) p.before p.entry

-- the oldest entry that may issue at this port
abbrev pub oldest_at : Desc → Port → Machine → Option Place
oldest_at d port x = first (may_at d (around x) port) x.window

-- every test is made on the state before the phase: the oldest load that may issue is tried, and the oldest such
-- division takes the divider
abbrev pub issue : Desc → Machine → After
issue d x =
    let begun_all = each (issue_entry d (around x)) x.window in
    let y = after_load d (oldest_at d LoadPort x) x in
    record {
      machine = record y { window = map (λ b. b.entry) begun_all; divider = divider_after x (oldest_at d DivPort x) };
      events = flat_map (λ b. b.events) begun_all;
    }
