-- How many events each phase has, and how much it adds to the next serial and to the count of the retired.
use Rattle.std.proofs.Common.{◌≡◌, ℕ, suc, ◌+◌, ◌≤◌, Bool, true, false, List, ◌++◌, length, Option, Some, None, refl, ◌∙◌, arith, length-append}
use Rattle.std.proofs.lemmas.List.{length-map}
use Rattle.std.specs.Prelude.{if◌then◌else◌, map}
use Rattle.std.specs.List.{filter}
use Rattle.rv_types.specs.Memory.{Code}
use Rattle.rv_types.specs.Isa.{Step, Goes, Exits, Traps, call}
use Rattle.rv_types.specs.declared.Kind.{Kind}
use Rattle.rv_types.specs.declared.Kind.TheVariants.{Branch, Store, Call}
use Rattle.machine_desc.specs.declared.Desc.{Desc}
use Rattle.window_model.specs.declared.Entry.{Entry}
use Rattle.window_model.specs.declared.Event.{Event}
use Rattle.window_model.specs.declared.Event.TheVariants as event
use Rattle.window_model.specs.declared.Miss.{Miss}
use Rattle.window_model.specs.declared.Target.{Target}
use Rattle.window_model.specs.State.{Machine, After}
use Rattle.window_model.specs.Order.{Place, first, is_faulty}
use Rattle.window_model.specs.Fill.{fill, complete, completes, is_due}
use Rattle.window_model.specs.Resolve.{resolve, resolve_at, may_resolve, Learnt, learn, learn_as, with_predictor, squash, keep, squashes}
use Rattle.window_model.specs.Retire.{Retired, retire, head_leaves, call_leaves, hart_of}
use Rattle.window_model.specs.Rename.{rename, rename_up_to, rename_one}
use Rattle.window_model.specs.Fetch.{fetch, fetch_up_to, fetch_one, item_at}
use Rattle.window_model.proofs.Lists.{filter_shortens}
use Rattle.window_model.proofs.Walks.{retire_by, rename_by, fetch_by}

-- a phase keeps cycle, next serial and count, and has at most this many events
pub record Adds (most : ℕ) (x : Machine) (a : After) : Type 0 where
  pub events : length a.events ≤ most
  pub cycle : a.machine.cycle ≡ x.cycle
  pub serials : a.machine.next_serial ≡ x.next_serial
  pub retired : a.machine.retired ≡ x.retired

-- two lists of events, each with at most so many, have together at most the sum
pub joined : (m n : ℕ) (a c : List Event) → length a ≤ m → length c ≤ n → length (a ++ c) ≤ m + n
joined m n a c p q = let l = length-append a c in omega arith

-- ---- lines arrive, entries become done

-- Fill leaves cycle, next serial and count, and has at most one event for each miss
pub fill_adds : (d : Desc) (x : Machine) → Adds (length x.misses) x (fill d x)
fill_adds d x = record {
  events =
      let f = filter_shortens (is_due x.cycle) x.misses in
      let a = length-map (filter (is_due x.cycle) x.misses) (λ (m : Miss). m.line) in
      let b = length-map (map (λ (m : Miss). m.line) (filter (is_due x.cycle) x.misses)) event.Fill in
      omega arith;
  cycle = refl;
  serials = refl;
  retired = refl;
}

-- Complete leaves cycle, next serial and count, and has at most one event for each entry
pub complete_adds : (x : Machine) → Adds (length x.window) x (complete x)
complete_adds x = record {
  events =
      let f = filter_shortens (completes x.cycle) x.window in
      let a = length-map (filter (completes x.cycle) x.window) (λ (e : Entry). event.Done e.serial) in
      omega arith;
  cycle = refl;
  serials = refl;
  retired = refl;
}

-- ---- the events of Resolve

learnt_few : (b : Bool) (a c : Learnt) → length a.events ≤ 2 → length c.events ≤ 2 → length (if b then a else c).events ≤ 2
learnt_few true a c p q = p
learnt_few false a c p q = q

learn_few : (k : Kind) (d : Desc) (e : Entry) (n : List ℕ) (t : List (Option Target)) → length (learn_as k d e n t).events ≤ 2
learn_few Branch d e n t = omega arith
learn_few _ d e n t = learnt_few (is_faulty e) _ _ (omega arith) (omega arith)

place_adds : (d : Desc) (p : Place) (x : Machine) (b : Bool) (c : List ℕ) (t : List (Option Target)) → Adds 1 x (if b then squash d p (with_predictor x c t) else keep p (with_predictor x c t))
place_adds d p x true c t = record { events = omega arith; cycle = refl; serials = refl; retired = refl }
place_adds d p x false c t = record { events = omega arith; cycle = refl; serials = refl; retired = refl }

resolve_at_adds : (d : Desc) (o : Option Place) (x : Machine) → Adds 3 x (resolve_at d o x)
resolve_at_adds d None x = record { events = omega arith; cycle = refl; serials = refl; retired = refl }
resolve_at_adds d (Some p) x =
    let l = learn d p.entry x.counters x.targets in
    let a = place_adds d p x (squashes p.entry) l.counters l.targets in
    record { events = joined 2 1 l.events _ (learn_few p.entry.item.kind d p.entry x.counters x.targets) a.events; cycle = a.cycle; serials = a.serials; retired = a.retired }

-- Resolve leaves cycle, next serial and count, and has at most three events
pub resolve_adds : (d : Desc) (x : Machine) → Adds 3 x (resolve d x)
resolve_adds d x = resolve_at_adds d (first (may_resolve d) x.window) x

-- ---- the serials and the count of Retire

-- what n turns of Retire keep and add: at most one instruction retires a turn
pub record Turns (n : ℕ) (x : Machine) (r : Retired) : Type 0 where
  pub cycle : r.machine.cycle ≡ x.cycle
  pub serials : r.machine.next_serial ≡ x.next_serial
  pub retired : r.machine.retired ≤ x.retired + n

call_turn : (e : Entry) (rest : List Entry) (x : Machine) (s : Step) → Turns 1 x (call_leaves e rest x s)
call_turn e rest x (Goes s p) = record { cycle = refl; serials = refl; retired = omega arith }
call_turn e rest x (Exits v s) = record { cycle = refl; serials = refl; retired = omega arith }
call_turn e rest x (Traps c) = record { cycle = refl; serials = refl; retired = omega arith }

head_turn : (k : Kind) (d : Desc) (e : Entry) (rest : List Entry) (x : Machine) → Turns 1 x (head_leaves k d e rest x)
head_turn Store d e rest x = record { cycle = refl; serials = refl; retired = omega arith }
head_turn Call d e rest x = call_turn e rest x (call (hart_of x))
head_turn _ d e rest x = record { cycle = refl; serials = refl; retired = omega arith }

then_turns : (n : ℕ) (x : Machine) (r s : Retired) → Turns 1 x r → Turns n r.machine s → Turns (suc n) x (record { machine = s.machine; events = r.events ++ s.events; piece = r.piece ++ s.piece })
then_turns n x r s p q = record { cycle = q.cycle ∙ p.cycle; serials = q.serials ∙ p.serials; retired = omega (arith, p.retired, q.retired) }

-- Retire leaves cycle and next serial, and counts at most as many as its width
pub retire_turns : (d : Desc) (x : Machine) → Turns d.core_retire_width x (retire d x)
retire_turns d x =
    retire_by d (λ n stored x r. Turns n x r) (λ n stored x s. record { cycle = refl; serials = refl; retired = omega arith })
    (λ n stored x e rest u q l t w more. then_turns n x (head_leaves e.item.kind d e rest x) _ (head_turn e.item.kind d e rest x) more)
    (λ n stored x e rest cause u q l t. record { cycle = refl; serials = refl; retired = omega arith }) x

-- ---- the events of Rename and Fetch

-- what a phase adds that takes at most n items: at most one event an item, and one serial
pub record Renames (n : ℕ) (x : Machine) (a : After) : Type 0 where
  pub events : length a.events ≤ n
  pub cycle : a.machine.cycle ≡ x.cycle
  pub serials : a.machine.next_serial ≤ x.next_serial + n
  pub retired : a.machine.retired ≡ x.retired

-- Rename makes at most as many entries as the description fetches in a cycle, each with the next serial
pub rename_renames : (d : Desc) (x : Machine) → Renames d.core_fetch_width x (rename d x)
rename_renames d x =
    rename_by d Renames (λ n x. record { events = omega arith; cycle = refl; serials = omega arith; retired = refl })
    (λ n x i rest q f more.
    record { events = let j = joined 1 n (rename_one d i rest x).events (rename_up_to d n (rename_one d i rest x).machine).events (omega arith) more.events in omega (arith, j); cycle = more.cycle; serials = omega (arith, more.serials); retired = more.retired }) x

-- Fetch has at most an event for each item that a cycle may fetch, and makes no serial
pub fetch_adds : (d : Desc) (code : Code) (x : Machine) → Adds d.core_fetch_width x (fetch d code x)
fetch_adds d code x =
    fetch_by d code Adds (λ n x. record { events = omega arith; cycle = refl; serials = refl; retired = refl })
    (λ n x pc q r more.
    let a = fetch_one d (item_at d code x pc) x in
    record { events = let j = joined 1 n a.events (fetch_up_to d code n a.machine).events (omega arith) more.events in omega (arith, j); cycle = more.cycle; serials = more.serials; retired = more.retired }) x
