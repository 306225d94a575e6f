-- Fill, Complete, Resolve and Clear where nothing happens in them.
use Rattle.std.proofs.Common.{◌≡◌, ℕ, ◌<◌, Bool, true, false, not, List, [], ◌∷◌, Option, Some, None, refl, ap, ◌∙◌, arith}
use Rattle.std.proofs.lemmas.Bool.Decides.{nat_tests}
use Rattle.std.specs.Prelude.{if◌then◌else◌, ◌==◌, map}
use Rattle.std.specs.List.{filter, fold, AllByRecursion as Each}
use Rattle.rv_types.specs.declared.Kind.{Kind}
use Rattle.rv_types.specs.declared.Kind.TheVariants.{Branch}
use Rattle.machine_desc.specs.declared.Desc.{Desc}
use Rattle.window_model.specs.declared.Entry.{Entry}
use Rattle.window_model.specs.declared.Event.TheVariants as event
use Rattle.window_model.specs.declared.Miss.{Miss}
use Rattle.window_model.specs.declared.Progress.{Progress}
use Rattle.window_model.specs.declared.Progress.TheVariants.{Waiting, Busy, Done}
use Rattle.window_model.specs.declared.Target.{Target}
use Rattle.window_model.specs.declared.Way.TheVariants.{Jump}
use Rattle.window_model.specs.State.{Machine, After, nothing}
use Rattle.window_model.specs.Order.{Place, first, is_faulty}
use Rattle.window_model.specs.Fill.{fill, is_due, lines, with_line, complete, after_completion, completes, completes_at}
use Rattle.window_model.specs.SecondLevel.{second_with_line}
use Rattle.window_model.specs.Resolve.{resolve, resolve_at, may_resolve, learn, learn_as, learn_target, next_of}
use Rattle.machine_desc.specs.Questions.{loads_pass}
use Rattle.window_model.specs.Clear.{clear, clear_at, clear_with, may_clear, violated_by}
use Rattle.window_model.proofs.Lists.{each_then}
use Rattle.quiet_cycles.specs.Still.{NotDueBefore, NotDoneBefore, at_cycle}
use Rattle.quiet_cycles.proofs.Nothing.{both_empty, map_empty, Lacks, none_left, none_kept, all_kept}

-- ---- Fill where nothing happens

-- no line comes in this cycle
abbrev pub NoLine : ℕ → List Miss → Type 0
NoLine cycle misses = Lacks (is_due cycle) misses

pub no_line : (d : Desc) (x : Machine) → (fill d x).events ≡ [] → NoLine x.cycle x.misses
no_line d x h = none_left (is_due x.cycle) x.misses (map_empty (λ (m : Miss). m.line) _ (map_empty event.Fill _ h))

pub fill_nothing : (d : Desc) (x : Machine) → NoLine x.cycle x.misses → fill d x ≡ nothing x
fill_nothing d x h =
    let left : List Miss → List Miss → After = λ come stay. record {
      machine = record x {
        misses = stay;
        cache = fold (with_line d) x.cache (lines come);
        second = fold (second_with_line d) x.second (lines (filter (λ m. m.from_memory) come));
      };
      events = map event.Fill (lines come);
    } in
    ap (λ come. left come (filter (λ m. not (is_due x.cycle m)) x.misses)) (none_kept (is_due x.cycle) x.misses h)
    ∙ ap (left []) (all_kept (is_due x.cycle) x.misses h)

-- what is not due after one cycle and before cycle n is not due in a cycle between them
not_now : (n before cycle due : ℕ) → NotDueBefore n before due → before < cycle → cycle < n → (due == cycle) ≡ false
not_now n before cycle due h l m = grind (arith, nat_tests)

pub no_line_later : (n before cycle : ℕ) (misses : List Miss) → Each (λ m. NotDueBefore n before m.due) misses → before < cycle → cycle < n → NoLine cycle misses
no_line_later n before cycle misses h l m = each_then _ _ (λ (r : Miss) k. not_now n before cycle r.due k l m) misses h

-- ---- Complete where nothing happens

-- no entry becomes Done in this cycle
abbrev pub NoneDone : ℕ → List Entry → Type 0
NoneDone cycle window = Lacks (completes cycle) window

-- where Complete has no event, no entry becomes Done
pub none_done : (x : Machine) → (complete x).events ≡ [] → NoneDone x.cycle x.window
none_done x h = none_left (completes x.cycle) x.window (map_empty (λ (e : Entry). event.Done e.serial) _ h)

stays_busy : (cycle : ℕ) (es : List Entry) → NoneDone cycle es → map (after_completion cycle) es ≡ es
stays_busy cycle [] h = refl
stays_busy cycle (e ∷ es) h =
    ap (λ b. (if b then record e { state = Done } else e) ∷ map (after_completion cycle) es) h.0 ∙ ap (λ w. e ∷ w) (stays_busy cycle es h.1)

-- where no entry becomes Done, Complete does nothing
pub complete_nothing : (x : Machine) → NoneDone x.cycle x.window → complete x ≡ nothing x
complete_nothing x h =
    let left : List Entry → List Entry → After = λ done window. record { machine = record x { window = window }; events = map (λ (e : Entry). event.Done e.serial) done } in
    ap (λ done. left done (map (after_completion x.cycle) x.window)) (none_kept (completes x.cycle) x.window h) ∙ ap (left []) (stays_busy x.cycle x.window h)

not_done_now : (n before cycle : ℕ) (s : Progress) → NotDoneBefore n before s → before < cycle → cycle < n → completes_at cycle s ≡ false
not_done_now n before cycle (Busy due) h l m = not_now n before cycle due h l m
not_done_now n before cycle Waiting h l m = refl
not_done_now n before cycle Done h l m = refl

pub none_done_later : (n before cycle : ℕ) (window : List Entry) → Each (λ e. NotDoneBefore n before e.state) window → before < cycle → cycle < n → NoneDone cycle window
none_done_later n before cycle window h l m = each_then _ _ (λ (e : Entry) k. not_done_now n before cycle e.state k l m) window h

-- ---- Resolve where nothing happens

-- what the predictor learns has an event
target_learns : (b : Bool) (d : Desc) (e : Entry) (counters : List ℕ) (targets : List (Option Target)) →
    (if b then record { counters = counters; targets = targets; events = event.Res e.serial Jump ∷ [] } else learn_target d e (next_of e.outcome) counters targets).events ≡ [] → ⊥
target_learns true d e counters targets h = cc
target_learns false d e counters targets h = cc

learns : (k : Kind) (d : Desc) (e : Entry) (counters : List ℕ) (targets : List (Option Target)) → (learn_as k d e counters targets).events ≡ [] → ⊥
learns Branch d e counters targets h = cc
learns _ d e counters targets h = target_learns (is_faulty e) d e counters targets h

-- where Resolve has no event, it finds no entry to resolve
none_resolved : (d : Desc) (o : Option Place) (x : Machine) → (resolve_at d o x).events ≡ [] → o ≡ None
none_resolved d None x h = refl
none_resolved d (Some p) x h = absurd (learns p.entry.item.kind d p.entry x.counters x.targets (both_empty (learn d p.entry x.counters x.targets).events _ h).0)

-- where Resolve has no event, it finds no entry to resolve
pub none_resolves : (d : Desc) (x : Machine) → (resolve d x).events ≡ [] → first (may_resolve d) x.window ≡ None
none_resolves d x h = none_resolved d (first (may_resolve d) x.window) x h

-- where Resolve finds no entry, it does nothing
pub resolve_nothing : (d : Desc) (x : Machine) → first (may_resolve d) x.window ≡ None → resolve d x ≡ nothing x
resolve_nothing d x h = ap (λ o. resolve_at d o x) h

-- ---- Clear where nothing happens

-- a store that is cleared has an event
clear_tells : (d : Desc) (p : Place) (o : Option Place) (x : Machine) → (clear_with d p o x).events ≡ [] → ⊥
clear_tells d p None x h = cc
clear_tells d p (Some q) x h = cc

-- where Clear has no event, it does nothing in any cycle
none_cleared : (d : Desc) (c : ℕ) (o : Option Place) (x : Machine) → (clear_at d o x).events ≡ [] → clear_at d o (at_cycle c x) ≡ nothing (at_cycle c x)
none_cleared d c None x h = refl
none_cleared d c (Some p) x h = absurd (clear_tells d p (violated_by p) x h)

-- where Clear has no event, it does nothing in any cycle
pub clear_nothing : (d : Desc) (c : ℕ) (x : Machine) → (clear d x).events ≡ [] → clear d (at_cycle c x) ≡ nothing (at_cycle c x)
clear_nothing d c x = by_passing (loads_pass d)
  where
    by_passing : (b : Bool) → (if b then clear_at d (first (may_clear d) x.window) x else nothing x).events ≡ [] →
        (if b then clear_at d (first (may_clear d) x.window) (at_cycle c x) else nothing (at_cycle c x)) ≡ nothing (at_cycle c x)
    by_passing true h = none_cleared d c (first (may_clear d) x.window) x h
    by_passing false h = refl
