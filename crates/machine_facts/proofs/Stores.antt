-- No store is busy when Issue begins.
use Rattle.std.proofs.Common.{◌≡◌, ℕ, ◌+◌, Bool, true, false, List, ap, sym, ◌∙◌, refl, arith}
use Rattle.std.proofs.lemmas.Bool.Decides.{nat_tests}
use Rattle.std.specs.Prelude.{if◌then◌else◌, map, reverse, ◌==◌}
use Rattle.std.specs.List.{AllByRecursion as Each}
use Rattle.rv_types.specs.declared.Kind.{Kind}
use Rattle.rv_types.specs.declared.Kind.TheVariants.{Store}
use Rattle.machine_desc.specs.declared.Desc.{Desc}
use Rattle.window_model.specs.declared.Entry.{Entry}
use Rattle.window_model.specs.declared.Progress.{Progress}
use Rattle.window_model.specs.declared.Progress.TheVariants.{Waiting, Busy, Done}
use Rattle.window_model.specs.State.{Machine}
use Rattle.window_model.specs.Order.{is_busy, is_store}
use Rattle.window_model.specs.Fill.{completes, completes_at, after_completion}
use Rattle.window_model.specs.Resolve.{resolve}
use Rattle.window_model.specs.Retire.{retire}
use Rattle.window_model.proofs.Lists.{each_join, each_left, each_right, each_then, each_map}
use Rattle.window_model.proofs.Placing.{place_keep}
use Rattle.window_model.proofs.Walks.{retire_keep, head_drops}
use Rattle.machine_facts.proofs.ClearPhases.{clear_settles}
use Rattle.machine_facts.specs.Laws.{NoStoreIsBusy}
use Rattle.machine_facts.specs.Timely.{DueSoon, IsDue, WaitsOrDone, latency}

-- ---- Complete: a store that is busy between two cycles is due in the next one

done_now : (b : Bool) (due : ℕ) → b ≡ true → is_busy (if b then Done else Busy due) ≡ false
done_now true due h = refl
done_now false due h = absurd (cc)

by_state : (d : Desc) (cycle : ℕ) (k : Kind) (t : Progress) → DueSoon cycle cycle (latency k d) t → is_store k ≡ true → is_busy (if completes_at (cycle + 1) t then Done else t) ≡ false
by_state d cycle Store (Busy due) h s = let now : (due == cycle + 1) ≡ true = grind (arith, nat_tests, h.0, h.1) in done_now (due == cycle + 1) due now
by_state d cycle Store Waiting h s = refl
by_state d cycle Store Done h s = refl
by_state d cycle k t h s = absurd (cc)

-- Complete changes the progress of an entry alone
completed_if : (b : Bool) (e : Entry) → let r = (if b then record e { state = Done } else e) in (r.state ≡ (if b then Done else e.state)) × (r.item ≡ e.item)
completed_if true e = (refl, refl)
completed_if false e = (refl, refl)

entry_settles : (d : Desc) (cycle : ℕ) (e : Entry) → IsDue d cycle cycle e → WaitsOrDone (after_completion (cycle + 1) e)
entry_settles d cycle e h s =
    let r = completed_if (completes (cycle + 1) e) e in
    ap is_busy r.0 ∙ by_state d cycle e.item.kind e.state h (sym (ap (λ i. is_store i.kind) r.1) ∙ s)

completed_settles : (d : Desc) (cycle : ℕ) (w : List Entry) → Each (IsDue d cycle cycle) w → Each WaitsOrDone (map (after_completion (cycle + 1)) w)
completed_settles d cycle w h = each_map WaitsOrDone (after_completion (cycle + 1)) w (each_then (IsDue d cycle cycle) (λ e. WaitsOrDone (after_completion (cycle + 1) e)) (entry_settles d cycle) w h)

-- ---- Resolve and Retire leave no store busy

resolve_settles : (d : Desc) (x : Machine) → Each WaitsOrDone x.window → Each WaitsOrDone (resolve d x).machine.window
resolve_settles d = place_keep d (Each WaitsOrDone) (each_left WaitsOrDone) (λ b e ys m h. each_join WaitsOrDone (reverse b) _ (each_left WaitsOrDone (reverse b) _ h) (each_right WaitsOrDone (reverse b) _ h))

retire_settles : (d : Desc) (x : Machine) → Each WaitsOrDone x.window → Each WaitsOrDone (retire d x).machine.window
retire_settles d = retire_keep d (λ x. Each WaitsOrDone x.window) (head_drops (Each WaitsOrDone) (λ e rest h. h.1) d) (λ x end h. h)

-- no store is busy as Issue begins, where all is due soon between two cycles
pub none_busy : NoStoreIsBusy
none_busy d x h = retire_settles d _ (clear_settles d _ (resolve_settles d _ (completed_settles d x.cycle x.window h.dues)))
