-- Why slots of retirement stay empty in a cycle (docs/formats.md, "The slots of a run").
use Rattle.std.specs.Prelude.{ℕ, ◌+◌, ◌-◌, Bool, true, false, not, ◌&&◌, nat_le, nat_lt, List, [], ◌∷◌, Option, Some, None, if◌then◌else◌}
use Rattle.rv_types.specs.declared.End.{End}
use Rattle.rv_types.specs.declared.Kind.{Kind}
use Rattle.rv_types.specs.declared.Kind.TheVariants as kind
use Rattle.machine_desc.specs.declared.Desc.{Desc}
use Rattle.window_model.specs.declared.Entry.{Entry}
use Rattle.window_model.specs.declared.Event.{Event}
use Rattle.window_model.specs.declared.Event.TheVariants.{Sq, Dp, Call, Ren, Fet}
use Rattle.window_model.specs.declared.Progress.{Progress}
use Rattle.window_model.specs.declared.Progress.TheVariants.{Waiting, Busy, Done}
use Rattle.window_model.specs.Order.{is_waiting}
use Rattle.window_model.specs.Rename.{is_call}
use Rattle.run_counts.specs.Counted.{as_told}
use Rattle.slot_reasons.specs.declared.Reason.{Reason}
use Rattle.slot_reasons.specs.declared.Reason.TheVariants as reason
use Rattle.slot_reasons.specs.declared.Past.{Past}
use Rattle.slot_reasons.specs.declared.Kept.{Kept}
use Rattle.slot_reasons.specs.declared.Known.{Known}
use Rattle.slot_reasons.specs.declared.Walked.{Walked}
use Rattle.slot_reasons.specs.Kept.{first_kept, note, times_kept}

-- ---- What comes late

-- the event tells of a bit of dependence
abbrev pub is_bit : Event → Bool
is_bit (Dp index value) = true
is_bit _ = false

-- why all that is fetched behind a squash comes late: right behind a bit of dependence a load had passed a store
-- wrongly, and else a branch or JALR was wrongly predicted
abbrev pub squash_reason : Bool → Reason
squash_reason behind_bit = if behind_bit then reason.Violation else reason.Misprediction

-- why what is renamed next comes late, behind an event that comes right behind a bit of dependence or doesn't: for a
-- squash, for a call, or for what it did before
abbrev pub late_behind : Bool → Event → Reason → Reason
late_behind behind_bit (Sq count) late = squash_reason behind_bit
late_behind behind_bit (Call serial count) late = reason.Call
late_behind behind_bit _ late = late

-- the serial of the first entry that is renamed, if one is, behind an event
abbrev pub renamed_behind : Event → Option ℕ → Option ℕ
renamed_behind (Ren serial pc) None = Some serial
renamed_behind _ renamed = renamed

-- how many of the items that had been fetched before are left to be renamed, behind an event: a squash drops all
abbrev pub left_behind : Event → ℕ → ℕ
left_behind (Sq count) left = 0
left_behind (Ren serial pc) left = left - 1
left_behind _ left = left

-- how many items are fetched, behind an event
abbrev pub fetched_behind : Event → ℕ → ℕ
fetched_behind (Fet pc) fetched = as_told (fetched + 1)
fetched_behind _ fetched = fetched

-- what is known of a cycle behind an event, which comes right behind a bit of dependence or doesn't
abbrev pub walk_on : Bool → Event → Walked → Walked
walk_on behind_bit event w = record {
  late = late_behind behind_bit event w.late;
  renamed = renamed_behind event w.renamed;
  left = left_behind event w.left;
  fetched = fetched_behind event w.fetched;
}

-- what is known behind events that come one after the other
abbrev pub walk : Bool → List Event → Walked → Walked
walk behind_bit [] w = w
walk behind_bit (event ∷ rest) w = walk (is_bit event) rest (walk_on behind_bit event w)

-- what is known of a cycle before its first event
abbrev pub first_walked : Past → Walked
first_walked past = record { late = past.next; renamed = None; left = past.queued; fetched = 0 }

-- Rename stopped short: of so many items so many are left, and fewer than may be were renamed
abbrev pub stops_short : Desc → ℕ → ℕ → Bool
stops_short d queued left = nat_lt 0 left && nat_lt (queued - left) d.core_fetch_width

-- why what is renamed next comes late: for want of room, where Rename stopped short; as what was renamed in this cycle
-- did, if nothing was; else as any does
abbrev pub late_next : Bool → Option ℕ → Reason → Reason
late_next true renamed late = reason.Room
late_next false None late = late
late_next false (Some serial) late = reason.FrontEnd

-- what is known of a cycle once it is over, from the cycle before and what its events tell. A call that keeps items
-- back is told by its own entry, and what comes behind it by its event, so neither comes late for want of room
abbrev pub past_by : Desc → Past → Walked → Past
past_by d past w = record {
  renamed = w.renamed;
  late = w.late;
  next = late_next (stops_short d past.queued w.left) w.renamed w.late;
  queued = as_told (w.left + w.fetched);
}

-- what is known of a cycle once it is over, from the cycle before and its events
abbrev pub past_after : Desc → Past → List Event → Past
past_after d past events = past_by d past (walk false events (first_walked past))

-- before the first cycle nothing is renamed and nothing fetched, and what is comes from the front end
abbrev pub first_past : Past
first_past = record { renamed = None; late = reason.FrontEnd; next = reason.FrontEnd; queued = 0 }

-- the entry of this serial was renamed in the cycle whose first one is this, if there was one
abbrev pub is_from : Option ℕ → ℕ → Bool
is_from None serial = false
is_from (Some first) serial = nat_le first serial

-- ---- What is kept in mind

-- what is known before the first cycle
abbrev pub first_known : Known
first_known = record { past = first_past; kept = first_kept }

-- the oldest kept entry, if there is one, unless it was renamed in this very cycle: it couldn't have issued yet
abbrev pub to_note : Option ℕ → Option ℕ → Option ℕ
to_note renamed None = None
to_note renamed (Some serial) = if is_from renamed serial then None else Some serial

-- what is known once a cycle is over, from what was known before, from what its events tell, and from the entry that it
-- counts for, if there is one
abbrev pub known_by : Known → Past → Option ℕ → Known
known_by known now oldest = record { past = now; kept = note (to_note now.renamed oldest) known.kept }

-- ---- What the oldest entry does

-- how long an entry takes that issued in a cycle, if it is kept which, and is Done in the cycle `due`
abbrev pub time_taken : ℕ → Option ℕ → ℕ
time_taken due None = 0
time_taken due (Some issued) = due - issued

-- what serves a load that takes so long: the first level, an older store or a fault no longer than a hit, the second
-- level, where there is one, no longer than its latency, and else memory
abbrev pub load_reason : Desc → ℕ → Reason
load_reason d time =
    if nat_le time d.cache_hit_latency then reason.LoadFirst
    else if nat_lt 0 d.cache_second_sets && nat_le time d.cache_second_latency then reason.LoadSecond
    else reason.LoadMemory

-- where an entry executes, by its kind and how long it takes
abbrev pub executes : Kind → Desc → ℕ → Reason
executes kind.Load d time = load_reason d time
executes kind.Mul d time = reason.Multiplier
executes kind.Div d time = reason.Divider
executes kind.Store d time = reason.Store
executes _ d time = reason.Simple

-- an entry that is Done in the cycle `due` would be so by this cycle, had it begun so many cycles sooner, if any
abbrev pub is_made_late : ℕ → ℕ → ℕ → Bool
is_made_late number due times = nat_lt 0 times && nat_le due (number + times)

-- why the oldest entry hasn't retired that executes, in the cycle of this number: the defence made it late, which kept
-- it so long, or else where it executes
abbrev pub stays_busy : Desc → List Kept → ℕ → ℕ → Entry → Reason
stays_busy d kept number due e =
    if is_made_late number due (times_kept kept e.serial) then reason.Defence
    else executes e.item.kind d (time_taken due e.issued)

-- what the oldest entry waits for: a load for miss registers, a division for the divider, a store for its other part
abbrev pub awaits : Kind → Reason
awaits kind.Load = reason.Registers
awaits kind.Div = reason.Divider
awaits kind.Store = reason.Store
awaits _ = reason.Simple

-- why the oldest entry hasn't retired that is Done: a store isn't cleared, or is the second of the cycle; a branch or
-- JALR isn't resolved
abbrev pub stays_done : Kind → Bool → Reason
stays_done kind.Store cleared = if cleared then reason.StorePort else reason.Clear
stays_done _ cleared = reason.Resolve

-- why the oldest entry hasn't retired, by how far it is
abbrev pub keeps : Progress → Desc → List Kept → ℕ → Entry → Reason
keeps Waiting d kept number e = awaits e.item.kind
keeps (Busy due) d kept number e = stays_busy d kept number due e
keeps Done d kept number e = stays_done e.item.kind e.cleared

-- ---- The reason of a cycle

-- why the oldest entry keeps the slots, once the cycle of this number is over, by what was known before and is known
-- now: a call goes alone; an entry that was renamed in this cycle came late, and so did one of the cycle before that
-- has issued since; else by how far it is
abbrev pub head_reason : Desc → Known → Past → ℕ → Entry → Reason
head_reason d known now number e =
    if is_call e.item.kind then reason.Call
    else if is_from now.renamed e.serial then now.late
    else if is_from known.past.renamed e.serial && not (is_waiting e.state) then known.past.late
    else keeps e.state d known.kept number e

-- why slots are empty where the run goes on: for the oldest entry, or since what comes next comes late
abbrev pub oldest_reason : Desc → Known → Past → ℕ → Option Entry → Reason
oldest_reason d known now number None = now.late
oldest_reason d known now number (Some e) = head_reason d known now number e

-- why slots are empty in the cycle of this number, by how the run ended, if it did, and the oldest entry that is left,
-- if there is one
abbrev pub reason_of : Desc → Known → Past → ℕ → Option End → Option Entry → Reason
reason_of d known now number (Some e) oldest = reason.End
reason_of d known now number None oldest = oldest_reason d known now number oldest
