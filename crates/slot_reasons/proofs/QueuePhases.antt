-- Each phase of a cycle tells by its events what becomes of the queue.
use Rattle.std.proofs.Common.{◌≡◌, ℕ, suc, ◌+◌, ◌≤◌, Bool, true, false, List, [], ◌∷◌, ◌++◌, length, Option, Some, None, refl, ap, sym, ◌∙◌, subst, arith, length-append}
use Rattle.std.specs.Prelude.{if◌then◌else◌}
use Rattle.std.specs.List.{filter}
use Rattle.rv_types.specs.Memory.{Code}
use Rattle.rv_types.specs.Isa.{Step, Goes, Exits, Traps, call}
use Rattle.rv_types.specs.declared.Kind.{Kind}
use Rattle.rv_types.specs.declared.Kind.TheVariants.{Branch, Call, Store}
use Rattle.machine_desc.specs.declared.Desc.{Desc}
use Rattle.machine_desc.specs.declared.keys.Key.TheVariants.{CoreQueue}
use Rattle.machine_desc.specs.Questions.{loads_pass}
use Rattle.machine_desc.proofs.Newest.{in_newest}
use Rattle.window_model.specs.declared.Entry.{Entry}
use Rattle.window_model.specs.declared.Event.{Event}
use Rattle.window_model.specs.declared.Event.TheVariants as event
use Rattle.window_model.specs.declared.Target.{Target}
use Rattle.window_model.specs.State.{Machine, nothing}
use Rattle.window_model.specs.Order.{Place, first, is_faulty}
use Rattle.window_model.specs.Fill.{fill, complete, arriving, completes, lines}
use Rattle.window_model.specs.Resolve.{Learnt, keep, learn, learn_as, may_resolve, resolve, resolve_at, squash, squashes, with_predictor}
use Rattle.window_model.specs.Clear.{clear, clear_at, clear_with, may_clear, violated_by}
use Rattle.window_model.specs.Retire.{Retired, call_leaves, has_line, hart_of, head_leaves, lines_in, retire}
use Rattle.window_model.specs.Rename.{rename}
use Rattle.window_model.specs.Fetch.{fetch, fetch_one, fetch_up_to, item_at}
use Rattle.window_model.proofs.Booleans.{below}
use Rattle.window_model.proofs.Lists.{each_join}
use Rattle.window_model.proofs.Walks.{fetch_by, fetch_keep, rename_by, retire_by}
use Rattle.run_counts.specs.Counted.{as_told}
use Rattle.slot_reasons.proofs.QueueEvents.{Aside, Comes, Leaves, all_aside, aside_leaves, fetched_of, leaves_then, left_of}

-- the events tell what becomes of the first machine's queue in the second, into which nothing is fetched
abbrev pub Tells : Machine → List Event → Machine → Type 0
Tells x events y = Leaves events (length x.queue) (length y.queue)

-- the queue stays, and the events tell nothing of it
pub kept : (x y : Machine) (events : List Event) → y.queue ≡ x.queue → Aside events → Tells x events y
kept x y events q a = subst (Leaves events (length x.queue)) (sym (ap length q)) (aside_leaves events (length x.queue) a)

-- ---- Lines arrive, entries become done

-- Fill leaves the queue, and tells nothing of it
pub fill_tells : (d : Desc) (x : Machine) → Tells x (fill d x).events (fill d x).machine
fill_tells d x = kept x (fill d x).machine _ refl (all_aside event.Fill (λ line. refl) (lines (arriving x.cycle x.misses)))

-- Complete leaves the queue, and tells nothing of it
pub complete_tells : (x : Machine) → Tells x (complete x).events (complete x).machine
complete_tells x = kept x (complete x).machine _ refl (all_aside (λ (e : Entry). event.Done e.serial) (λ e. refl) (filter (completes x.cycle) x.window))

-- ---- Resolve and Clear

learnt_if : (b : Bool) (a c : Learnt) → Aside a.events → Aside c.events → Aside (if b then a else c).events
learnt_if true a c p q = p
learnt_if false a c p q = q

learn_aside : (k : Kind) (d : Desc) (e : Entry) (n : List ℕ) (t : List (Option Target)) → Aside (learn_as k d e n t).events
learn_aside Branch d e n t = (refl, (refl, tt))
learn_aside _ d e n t = learnt_if (is_faulty e) _ _ (refl, tt) (refl, (refl, tt))

-- behind what the predictor learns the queue is dropped, and told to be, or it stays
place_tells : (d : Desc) (p : Place) (x : Machine) (b : Bool) (l : Learnt) → Aside l.events
    → (let y = with_predictor x l.counters l.targets in let a = (if b then squash d p y else keep p y) in Tells x (l.events ++ a.events) a.machine)
place_tells d p x true l s =
    leaves_then l.events _ (length x.queue) (length x.queue) 0 (aside_leaves l.events (length x.queue) s) (record { left = refl; fetched = λ k. refl })
place_tells d p x false l s = kept x (keep p x).machine (l.events ++ []) refl (each_join _ l.events [] s tt)

resolve_at_tells : (d : Desc) (o : Option Place) (x : Machine) → Tells x (resolve_at d o x).events (resolve_at d o x).machine
resolve_at_tells d None x = kept x x [] refl tt
resolve_at_tells d (Some p) x =
    place_tells d p x (squashes p.entry) (learn d p.entry x.counters x.targets) (learn_aside p.entry.item.kind d p.entry x.counters x.targets)

-- Resolve drops the queue and tells so, or leaves it and tells nothing of it
pub resolve_tells : (d : Desc) (x : Machine) → Tells x (resolve d x).events (resolve d x).machine
resolve_tells d x = resolve_at_tells d (first (may_resolve d) x.window) x

with_tells : (d : Desc) (p : Place) (o : Option Place) (x : Machine) → Tells x (clear_with d p o x).events (clear_with d p o x).machine
with_tells d p None x = record { left = refl; fetched = λ k. refl }
with_tells d p (Some q) x = record { left = refl; fetched = λ k. refl }

at_tells : (d : Desc) (o : Option Place) (x : Machine) → Tells x (clear_at d o x).events (clear_at d o x).machine
at_tells d None x = kept x x [] refl tt
at_tells d (Some p) x = with_tells d p (violated_by p) x

-- Clear drops the queue and tells so, or leaves it and tells nothing of it
pub clear_tells : (d : Desc) (x : Machine) → Tells x (clear d x).events (clear d x).machine
clear_tells d x = by_passing (loads_pass d)
  where
    by_passing : (b : Bool) → let a = (if b then clear_at d (first (may_clear d) x.window) x else nothing x) in Tells x a.events a.machine
    by_passing true = at_tells d (first (may_clear d) x.window) x
    by_passing false = kept x x [] refl tt

-- ---- Retire

-- the queue stays, and no event tells of it
record Stays (x : Machine) (r : Retired) : Type 0 where
  queue : r.machine.queue ≡ x.queue
  events : Aside r.events

call_stays : (e : Entry) (rest : List Entry) (x : Machine) (t : Step) → Stays x (call_leaves e rest x t)
call_stays e rest x (Goes s piece) = record { queue = refl; events = (refl, (refl, tt)) }
call_stays e rest x (Exits v s) = record { queue = refl; events = (refl, (refl, tt)) }
call_stays e rest x (Traps cause) = record { queue = refl; events = tt }

head_stays : (k : Kind) (d : Desc) (e : Entry) (rest : List Entry) (x : Machine) → Stays x (head_leaves k d e rest x)
head_stays Store d e rest x = record { queue = refl; events = (refl, all_aside (λ line. event.St e.serial line (has_line d x.cache line)) (λ line. refl) (lines_in d e)) }
head_stays Call d e rest x = call_stays e rest x (call (hart_of x))
head_stays _ d e rest x = record { queue = refl; events = (refl, tt) }

-- Retire leaves the queue, and tells nothing of it
pub retire_tells : (d : Desc) (x : Machine) → Tells x (retire d x).events (retire d x).machine
retire_tells d x = kept x (retire d x).machine (retire d x).events all.queue all.events
  where
    all : Stays x (retire d x)
    all =
        retire_by d (λ n stored x r. Stays x r) (λ n stored x s. record { queue = refl; events = tt })
        (λ n stored x e rest u q l t w more.
        let h = head_stays e.item.kind d e rest x in
        record { queue = more.queue ∙ h.queue; events = each_join _ (head_leaves e.item.kind d e rest x).events _ h.events more.events })
        (λ n stored x e rest cause u q l t. record { queue = refl; events = tt }) x

-- ---- Rename and Fetch

-- Rename tells of each item that it takes from the queue
pub rename_tells : (d : Desc) (x : Machine) → Tells x (rename d x).events (rename d x).machine
rename_tells d x =
    rename_by d (λ n x a. Tells x a.events a.machine) (λ n x. kept x x [] refl tt)
    (λ n x i rest q f more.
    let long : length x.queue ≡ suc (length rest) = ap length q in
    leaves_then (event.Ren x.next_serial i.pc ∷ []) _ (length x.queue) (length rest) _ (record { left = omega (arith, long); fetched = λ k. refl }) more) x

-- a number as small as a queue is told as it is
pub told_whole : (n : ℕ) → n ≤ 32 → as_told n ≡ n
unfolding as_told
told_whole n h = omega arith

-- a queue has room for at most 32 items, in either version
pub queue_few : (d : Desc) → d.core_queue ≤ 32
queue_few d = (in_newest d CoreQueue).1

-- Fetch tells of each item that it puts into the queue
pub fetch_tells : (d : Desc) (code : Code) (x : Machine) → Comes (fetch d code x).events (length x.queue) (length (fetch d code x).machine.queue)
fetch_tells d code x =
    fetch_by d code (λ n x a. (left fetched : ℕ) → length x.queue ≡ left + fetched → left_of a.events left + fetched_of a.events fetched ≡ length a.machine.queue)
    (λ n x left fetched h. sym h)
    (λ n x pc q r more left fetched h.
    let y = (fetch_one d (item_at d code x pc) x).machine in
    let room = below (length x.queue) d.core_queue r in
    let few = queue_few d in
    let long = length-append x.queue (item_at d code x pc ∷ []) in
    let small : fetched + 1 ≤ 32 = omega (arith, h, room, few) in
    let sum : length y.queue ≡ left + (fetched + 1) = omega (arith, h, long) in
    let es = (fetch_up_to d code n y).events in
    ap (λ k. left_of es left + fetched_of es k) (told_whole (fetched + 1) small) ∙ more left (fetched + 1) sum) x (length x.queue) 0 (omega arith)

-- Fetch leaves no more items in the queue than the description says
pub fetch_fits : (d : Desc) (code : Code) (x : Machine) → length x.queue ≤ d.core_queue → length (fetch d code x).machine.queue ≤ d.core_queue
fetch_fits d code =
    fetch_keep d (λ x. length x.queue ≤ d.core_queue) code
    (λ x pc q r h. let room = below (length x.queue) d.core_queue r in let long = length-append x.queue (item_at d code x pc ∷ []) in omega (arith, room, long))
