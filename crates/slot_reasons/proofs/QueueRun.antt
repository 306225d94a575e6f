-- A cycle tells by its events how long it leaves the queue, and so does a run.
use Rattle.std.proofs.Common.{◌≡◌, ℕ, zero, suc, ◌+◌, ◌≤◌, false, List, ◌++◌, length, Option, Some, None, ap, ap₂, ◌∙◌, arith}
use Rattle.rv_types.specs.Memory.{Code}
use Rattle.rv_types.specs.declared.End.{End}
use Rattle.machine_desc.specs.declared.Desc.{Desc}
use Rattle.window_model.specs.declared.Event.{Event}
use Rattle.window_model.specs.State.{Machine, nothing, then_does}
use Rattle.window_model.specs.Fill.{fill, complete}
use Rattle.window_model.specs.Resolve.{resolve}
use Rattle.window_model.specs.Clear.{clear}
use Rattle.window_model.specs.Retire.{retire, unless_ended}
use Rattle.window_model.specs.Issue.{issue}
use Rattle.window_model.specs.Rename.{rename}
use Rattle.window_model.specs.Fetch.{fetch}
use Rattle.window_model.specs.Cycle.{after_cycles, after_retire, before_retire, begins_cycle, cycle}
use Rattle.run_counts.specs.Counted.{as_told}
use Rattle.slot_reasons.specs.declared.Past.{Past}
use Rattle.slot_reasons.specs.declared.Known.{Known}
use Rattle.slot_reasons.specs.Reasons.{first_walked, past_after}
use Rattle.slot_reasons.specs.Slots.{known_after, known_at}
use Rattle.slot_reasons.proofs.QueueEvents.{Comes, comes_then, leaves_few, leaves_then, left_of, walk_fetched, walk_left}
use Rattle.slot_reasons.proofs.QueueIssue.{issue_tells}
use Rattle.slot_reasons.proofs.QueuePhases.{Tells, clear_tells, complete_tells, fetch_fits, fetch_tells, fill_tells, queue_few, rename_tells, resolve_tells, retire_tells, told_whole}

-- the phases before Retire tell what becomes of the queue
before_tells : (d : Desc) (x : Machine) → Tells x (before_retire d x).events (before_retire d x).machine
before_tells d x =
    let a = fill d x in
    let b = complete a.machine in
    let c = resolve d b.machine in
    let e = clear d c.machine in
    leaves_then a.events _ _ _ _ (fill_tells d x)
    (leaves_then b.events _ _ _ _ (complete_tells a.machine) (leaves_then c.events e.events _ _ _ (resolve_tells d b.machine) (clear_tells d c.machine)))

-- phases tell how long they leave the queue, and leave it within the description
record Leads (d : Desc) (x : Machine) (events : List Event) (y : Machine) : Type 0 where
  comes : Comes events (length x.queue) (length y.queue)
  fits : length x.queue ≤ d.core_queue → length y.queue ≤ d.core_queue

leads_then : (d : Desc) (x y z : Machine) (es fs : List Event) → Tells x es y → Leads d y fs z → Leads d x (es ++ fs) z
leads_then d x y z es fs p q = record {
  comes = comes_then es fs _ _ _ p q.comes;
  fits = λ h. let few = leaves_few es _ _ p in q.fits (omega (arith, few, h));
}

-- the phases after Retire do so, or there are none
after_leads : (d : Desc) (code : Code) (o : Option End) (x : Machine) → (let a = unless_ended o (nothing x) (then_does (issue d x) (λ y. then_does (rename d y) (fetch d code))) in Leads d x a.events a.machine)
after_leads d code (Some e) x = record { comes = omega arith; fits = λ h. h }
after_leads d code None x =
    let i = issue d x in
    let r = rename d i.machine in
    let f = fetch d code r.machine in
    leads_then d x i.machine f.machine i.events _ (issue_tells d x)
    (leads_then d i.machine r.machine f.machine r.events f.events (rename_tells d i.machine) (record { comes = fetch_tells d code r.machine; fits = fetch_fits d code r.machine }))

-- a cycle tells how long it leaves the queue, and leaves it within the description
cycle_leads : (d : Desc) (code : Code) (x : Machine) → Leads d x (cycle d code x).row.events (cycle d code x).machine
unfolding cycle
cycle_leads d code x =
    let x1 = begins_cycle x in
    let b = before_retire d x1 in
    let r = retire d b.machine in
    let a = after_retire d code r.machine in
    leads_then d x r.machine a.machine (b.events ++ r.events) a.events (leaves_then b.events r.events _ _ _ (before_tells d x1) (retire_tells d b.machine))
    (after_leads d code r.machine.end r.machine)

-- what is known of a cycle once it is over has the length of the queue, where what was known before had it
cycle_counts : (d : Desc) (code : Code) (x : Machine) (past : Past) → length x.queue ≤ d.core_queue → past.queued ≡ length x.queue
    → (past_after d past (cycle d code x).row.events).queued ≡ length (cycle d code x).machine.queue
cycle_counts d code x past h q =
    let events = (cycle d code x).row.events in
    let l = cycle_leads d code x in
    let w = first_walked past in
    let fits = l.fits h in
    let few = queue_few d in
    ap₂ (λ a b. as_told (a + b)) (walk_left false events w ∙ ap (left_of events) q) (walk_fetched false events w)
    ∙ ap as_told l.comes
    ∙ told_whole _ (omega (arith, fits, few))

-- what is known after some cycles has the length of the queue that they leave
pub queue_counts : (n : ℕ) (d : Desc) (code : Code) (x : Machine) (known : Known) → length x.queue ≤ d.core_queue → known.past.queued ≡ length x.queue
    → (known_at d code n x known).past.queued ≡ length (after_cycles d code n x).queue
queue_counts zero d code x known h q = q
queue_counts (suc n) d code x known h q =
    by_end x.end
    (queue_counts n d code (cycle d code x).machine (known_after d known x (cycle d code x)) ((cycle_leads d code x).fits h) (cycle_counts d code x known.past h q))
  where
    by_end : (o : Option End) → (let c = cycle d code x in let k = known_after d known x c in
        (known_at d code n c.machine k).past.queued ≡ length (after_cycles d code n c.machine).queue
        → (unless_ended o known (known_at d code n c.machine k)).past.queued ≡ length (unless_ended o x (after_cycles d code n c.machine)).queue)
    by_end None more = more
    by_end (Some e) more = q
