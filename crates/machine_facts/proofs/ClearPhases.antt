-- Clear keeps sizes and entries, times, and checkpoints; it has at most four events.
use Rattle.std.proofs.Common.{ℕ, ◌+◌, ◌≤◌, Bool, true, false, List, [], ◌∷◌, ◌++◌, Option, Some, None, refl, ap, sym, subst, ◌∙◌, arith}
use Rattle.std.proofs.lemmas.List.{length-set}
use Rattle.std.specs.Prelude.{if◌then◌else◌, is_some, reverse}
use Rattle.std.specs.List.{AllByRecursion as Each}
use Rattle.machine_desc.specs.declared.Desc.{Desc}
use Rattle.machine_desc.specs.Ranges.{IsDesc}
use Rattle.window_model.specs.declared.Divider.{Divider}
use Rattle.window_model.specs.declared.Entry.{Entry}
use Rattle.window_model.specs.State.{Machine, nothing}
use Rattle.window_model.specs.Order.{Place, first}
use Rattle.window_model.specs.Resolve.{is_from}
use Rattle.machine_desc.specs.Questions.{loads_pass}
use Rattle.window_model.specs.Clear.{clear, clear_at, clear_with, cleared_one, clears, may_clear, violated_by, violates}
use Rattle.window_model.proofs.Clearing.{Cleared, Violated, clear_keep, cleared_goes}
use Rattle.window_model.proofs.Counts.{Evolves, evolves_same, evolves_thins, goes_same, place_evolves}
use Rattle.window_model.proofs.Lists.{each_join, each_left, each_right}
use Rattle.machine_facts.specs.Checkpoints.{FitsCheckpoint, FitCheckpoints}
use Rattle.machine_facts.specs.Sized.{Sized}
use Rattle.machine_facts.specs.Timely.{IsDue, PartsDue, Rises, StaysCleared, Timely, WaitsOrDone, last_from, last_item_from, longest_division}
use Rattle.machine_facts.proofs.Adds.{Adds}
use Rattle.machine_facts.proofs.Parts.{Fits, IsEntry, WindowFits, parts, whole}
use Rattle.machine_facts.proofs.Reasons.{last_join}
use Rattle.machine_facts.proofs.Serials.{rises_on}
use Rattle.machine_facts.proofs.SizedWindow.{thinner}

-- ---- a store that is cleared, and what is left of the younger entries

-- a window of which only the oldest entries are left has evolved
pub evolves_front : (front back : List Entry) → Evolves (front ++ back) front
evolves_front [] back = tt
evolves_front (e ∷ front) back = (goes_same e, evolves_front front back)

-- what holds of each entry, and doesn't ask whether it is cleared, still does with the store cleared and what is left
-- of the younger ones
each_cleared : (P : Entry → Type 0) (d : Desc) (x : Machine) (p : Place) → Cleared d x p → (P p.entry → P (cleared_one p.entry)) → Each P x.window → (zs : List Entry) →
    (Each P p.younger → Each P zs) → Each P (reverse p.before ++ cleared_one p.entry ∷ zs)
each_cleared P d x p t f h zs v =
    let all = subst (Each P) t.window h in
    let behind = each_right P (reverse p.before) _ all in
    each_join P (reverse p.before) _ (each_left P (reverse p.before) _ all) (f behind.0, v behind.1)

-- what holds of each younger entry holds of those between the store and the violated load
each_between : (P : Entry → Type 0) (p q : Place) → Violated p q → Each P p.younger → Each P (reverse q.before)
each_between P p q u h = each_left P (reverse q.before) _ (subst (Each P) u.younger h)

evolves_between : (p q : Place) → Violated p q → Evolves p.younger (reverse q.before)
evolves_between p q u = subst (λ w. Evolves w (reverse q.before)) (sym u.younger) (evolves_front (reverse q.before) (q.entry ∷ q.younger))

evolves_cleared : (d : Desc) (x : Machine) (p : Place) → Cleared d x p → (zs : List Entry) → Evolves p.younger zs → Evolves x.window (reverse p.before ++ cleared_one p.entry ∷ zs)
evolves_cleared d x p t zs v =
    subst (λ w. Evolves w (reverse p.before ++ cleared_one p.entry ∷ zs)) (sym t.window)
    (place_evolves (reverse p.before) p.entry (cleared_one p.entry) p.younger zs (cleared_goes p.entry) v)

-- ---- Clear keeps sizes and entries

module _ (d : Desc) (x : Machine) (f : Fits d x) (p : Place) (t : Cleared d x p) where
  window : (zs : List Entry) → Evolves p.younger zs → WindowFits d (reverse p.before ++ cleared_one p.entry ∷ zs)
  window zs v = thinner d x.window _ (evolves_thins _ _ (evolves_cleared d x p t zs v)) f.window

  entries : (zs : List Entry) → (Each (IsEntry d x.ram) p.younger → Each (IsEntry d x.ram) zs) → Each (IsEntry d x.ram) (reverse p.before ++ cleared_one p.entry ∷ zs)
  entries = each_cleared (IsEntry d x.ram) d x p t (λ e. record { kind = e.kind; memory = e.memory; outcome = e.outcome; parts = e.parts; together = e.together }) f.entries

  sized_clears : Sized d (clears p x).machine
  sized_clears = whole d _ (record {
    window = window p.younger (evolves_same p.younger);
    entries = entries p.younger (λ k. k);
    queue = f.queue;
    predictor = f.predictor;
    cache = f.cache;
    second = f.second;
    misses = f.misses;
    dependence = f.dependence;
    registers = f.registers;
  })

  sized_violates : (q : Place) → Violated p q → Sized d (violates d p q x).machine
  sized_violates q u = whole d _ (record {
    window = window (reverse q.before) (evolves_between p q u);
    entries = entries (reverse q.before) (each_between (IsEntry d x.ram) p q u);
    queue = record { queue = omega arith; item_kinds = tt };
    predictor = f.predictor;
    cache = f.cache;
    second = f.second;
    misses = f.misses;
    dependence = length-set x.dependence _ _ ∙ f.dependence;
    registers = f.registers;
  })

-- Clear keeps the sizes of the state
pub sized_clear : (d : Desc) (x : Machine) → IsDesc d → Sized d x → Sized d (clear d x).machine
sized_clear d x i =
    clear_keep d (Sized d) (λ x p t s. sized_clears d x (parts d x s) p t) (λ x p q t u s. sized_violates d x (parts d x s) p t q u) x

-- ---- Clear keeps serials and times

freed_in : (b : Bool) (v : Divider) (n : ℕ) → v.free_from ≤ n → (if b then (let f : Divider = record { free_from = 0; user = None } in f) else v).free_from ≤ n
freed_in true v n h = omega arith
freed_in false v n h = h

module _ (d : Desc) (x : Machine) (h : Timely d x) (p : Place) (t : Cleared d x p) where
  serials : (zs : List Entry) → Evolves p.younger zs → Rises 0 (reverse p.before ++ cleared_one p.entry ∷ zs) x.next_serial
  serials zs v = rises_on 0 x.next_serial x.window _ (evolves_cleared d x p t zs v) h.serials

  timely_clears : Timely d (clears p x).machine
  timely_clears = record {
    serials = serials p.younger (evolves_same p.younger);
    dues = each_cleared (IsDue d x.cycle x.cycle) d x p t (λ k. k) h.dues p.younger (λ k. k);
    parts = each_cleared (PartsDue x.cycle) d x p t (λ k. k) h.parts p.younger (λ k. k);
    cleared = each_cleared (StaysCleared d) d x p t (λ k s. refl) h.cleared p.younger (λ k. k);
    misses = h.misses;
    lines = h.lines;
    divider = h.divider;
    fetches = λ n.
        ap (λ b. last_item_from b x.queue)
        (last_join (is_some x.end) (reverse p.before) (cleared_one p.entry ∷ p.younger)
        ∙ sym (last_join (is_some x.end) (reverse p.before) (p.entry ∷ p.younger))
        ∙ ap (last_from (is_some x.end)) (sym t.window))
        ∙ h.fetches n;
    zero = h.zero;
  }

  timely_violates : (q : Place) → Violated p q → Timely d (violates d p q x).machine
  timely_violates q u = record {
    serials = serials (reverse q.before) (evolves_between p q u);
    dues = each_cleared (IsDue d x.cycle x.cycle) d x p t (λ k. k) h.dues (reverse q.before) (each_between (IsDue d x.cycle x.cycle) p q u);
    parts = each_cleared (PartsDue x.cycle) d x p t (λ k. k) h.parts (reverse q.before) (each_between (PartsDue x.cycle) p q u);
    cleared = each_cleared (StaysCleared d) d x p t (λ k s. refl) h.cleared (reverse q.before) (each_between (StaysCleared d) p q u);
    misses = h.misses;
    lines = h.lines;
    divider = freed_in (is_from q.entry.serial x.divider.user) x.divider (x.cycle + longest_division) h.divider;
    fetches = λ n. absurd (cc);
    zero = h.zero;
  }

-- Clear keeps that all that is under way ends in a later cycle
pub timely_clear : (d : Desc) (x : Machine) → IsDesc d → Timely d x → Timely d (clear d x).machine
timely_clear d x i = clear_keep d (Timely d) (λ x p t h. timely_clears d x h p t) (λ x p q t u h. timely_violates d x h p t q u) x

-- what holds of each entry, and doesn't ask whether it is cleared, holds of each behind Clear
pub clear_each : (P : Entry → Type 0) → ((e : Entry) → P e → P (cleared_one e)) → (d : Desc) (x : Machine) → Each P x.window → Each P (clear d x).machine.window
clear_each P f d =
    clear_keep d (λ x. Each P x.window) (λ x p t h. each_cleared P d x p t (f p.entry) h p.younger (λ k. k))
    (λ x p q t u h. each_cleared P d x p t (f p.entry) h (reverse q.before) (each_between P p q u))

-- Clear leaves each store waiting or Done
pub clear_settles : (d : Desc) (x : Machine) → Each WaitsOrDone x.window → Each WaitsOrDone (clear d x).machine.window
clear_settles = clear_each WaitsOrDone (λ e k. k)

-- ---- checkpoints: at a violation history and stack are those of the load

abbrev EntryFits : Desc → Entry → Type 0
EntryFits d e = FitsCheckpoint d e.item.checkpoint

-- history and stack fit the description behind Clear as before it
pub checkpoints_clear : (d : Desc) (x : Machine) → FitCheckpoints d x → FitCheckpoints d (clear d x).machine
checkpoints_clear d =
    clear_keep d (FitCheckpoints d)
    (λ x p t h. record { next = h.next; entries = each_cleared (EntryFits d) d x p t (λ k. k) h.entries p.younger (λ k. k); items = h.items })
    (λ x p q t u h.
    let younger = (each_right (EntryFits d) (reverse p.before) _ (subst (Each (EntryFits d)) t.window h.entries)).1 in
    let load = (each_right (EntryFits d) (reverse q.before) _ (subst (Each (EntryFits d)) u.younger younger)).0 in
    record { next = load; entries = each_cleared (EntryFits d) d x p t (λ k. k) h.entries (reverse q.before) (each_between (EntryFits d) p q u); items = tt })

-- ---- the events of Clear

with_adds : (d : Desc) (p : Place) (o : Option Place) (x : Machine) → Adds 4 x (clear_with d p o x)
with_adds d p None x = record { events = omega arith; cycle = refl; serials = refl; retired = refl }
with_adds d p (Some q) x = record { events = omega arith; cycle = refl; serials = refl; retired = refl }

at_adds : (d : Desc) (o : Option Place) (x : Machine) → Adds 4 x (clear_at d o x)
at_adds d None x = record { events = omega arith; cycle = refl; serials = refl; retired = refl }
at_adds d (Some p) x = with_adds d p (violated_by p) x

-- Clear leaves cycle, next serial and count, and has at most four events
pub clear_adds : (d : Desc) (x : Machine) → Adds 4 x (clear d x)
clear_adds d x = by_passing (loads_pass d)
  where
    by_passing : (b : Bool) → Adds 4 x (if b then clear_at d (first (may_clear d) x.window) x else nothing x)
    by_passing true = at_adds d (first (may_clear d) x.window) x
    by_passing false = record { events = omega arith; cycle = refl; serials = refl; retired = refl }
