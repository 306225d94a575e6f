-- A cycle and a run.
use Rattle.std.proofs.Common.{◌≡◌, ℕ, zero, suc, ◌+◌, Bool, List, [], ◌∷◌, ◌++◌, length, take, drop, Option, Some, None, refl, ap, ap₂, sym, ◌∙◌, subst, append_assoc}
use Rattle.std.proofs.lemmas.List.{append-nil}
use Rattle.rv_types.specs.Memory.{Code, Ram}
use Rattle.rv_types.specs.declared.End.{End}
use Rattle.machine_desc.specs.declared.Desc.{Desc}
use Rattle.window_model.specs.declared.Entry.{Entry}
use Rattle.window_model.specs.declared.Item.{Item}
use Rattle.window_model.specs.Cycle.{after_cycles, at, cycle}
use Rattle.window_model.specs.Retire.{retire, unless_ended}
use Rattle.window_model.specs.State.{Machine, nothing, opening, then_does}
use Rattle.window_model.specs.Fetch.{fetch}
use Rattle.window_model.specs.Fill.{complete, fill}
use Rattle.window_model.specs.Issue.{issue}
use Rattle.window_model.specs.Rename.{rename}
use Rattle.window_model.specs.Resolve.{resolve}
use Rattle.window_model.proofs.Quiet.{at_retire, cycle_is}
use Rattle.window_model.specs.History.{no_checkpoint}
use Rattle.history_laws.specs.Left.{Leads, before_fetch, guesses, predicted_in, predicted_on, retired_in, retiring}
use Rattle.history_laws.proofs.Leading.{leads_count}
use Rattle.history_laws.proofs.Phases.{Fetches, Left, LeftBy, by_all, fetches, left_begin, left_clear, left_complete, left_fill, left_issue, left_rename, left_resolve, left_then}
use Rattle.history_laws.proofs.Leaving.{left_retire}

-- ---- what is taken of the directions, and of the queue

take_first : (a b : List Bool) (n : ℕ) → length a ≡ n → take n (a ++ b) ≡ a
take_first a b n e = ap (λ n. take n (a ++ b)) (sym e) ∙ take_own a
  where
    take_own : (a : List Bool) → take (length a) (a ++ b) ≡ a
    take_own [] = refl
    take_own (x ∷ a) = ap (λ a. x ∷ a) (take_own a)

drop_first : (a b : List Item) → drop (length a) (a ++ b) ≡ b
drop_first [] b = refl
drop_first (x ∷ a) b = drop_first a b

-- ---- a cycle

-- with the fetched items, what is left leads on by the directions of as many as were left before, and by those
-- predicted of the others
module _ (d : Desc) (gone : List Entry) (ways : List Bool) (y z : Machine) (h : LeftBy d gone ways y) (f : (first : List Bool) → Left d gone first y → Fetches d gone first y z) where
  fetched : Fetches d gone h.first y z
  fetched = f h.first h.left

  count : length h.first ≡ length (gone ++ y.window) + length y.queue
  count = leads_count d no_checkpoint y.checkpoint (gone ++ y.window) y.queue h.first h.left.leads

  same : h.first ++ guesses d y.counters fetched.items ≡ take (length (gone ++ y.window) + length y.queue) ways ++ guesses d y.counters (drop (length y.queue) z.queue)
  same =
      ap₂ (λ (a : List Bool) (q : List Item). a ++ guesses d y.counters q)
      (sym (ap (take (length (gone ++ y.window) + length y.queue)) h.whole ∙ take_first h.first h.others _ count))
      (sym (ap (drop (length y.queue)) fetched.queue ∙ drop_first y.queue fetched.items))

  fetched_left : Left d gone (take (length (gone ++ y.window) + length y.queue) ways ++ guesses d y.counters (drop (length y.queue) z.queue)) z
  fetched_left = subst (λ ways. Left d gone ways z) same fetched.left

-- a step in which nothing is fetched
none_fetched : (d : Desc) (gone : List Entry) (ways : List Bool) (y : Machine) → Left d gone ways y → Fetches d gone ways y y
none_fetched d gone ways y h = record { items = []; queue = sym (append-nil y.queue); counters = refl; left = subst (λ ways. Left d gone ways y) (sym (append-nil ways)) h }

-- the phases after Retire, unless the run has ended
after : (d : Desc) (code : Code) (gone : List Entry) (ways : List Bool) (o : Option End) (r : Machine) → LeftBy d gone ways r →
    let y = unless_ended o r (rename d (issue d r).machine).machine in
    let z = (unless_ended o (nothing r) (then_does (issue d r) (λ y. then_does (rename d y) (fetch d code)))).machine in
    Left d gone (take (length (gone ++ y.window) + length y.queue) ways ++ guesses d y.counters (drop (length y.queue) z.queue)) z
after d code gone ways None r h =
    let y = (rename d (issue d r).machine).machine in
    fetched_left d gone ways y (fetch d code y).machine
    (left_then d gone gone ways r y h (λ ways l. by_all d gone ways y (left_rename d gone ways (issue d r).machine (left_issue d gone ways r l)))) (λ first l. fetches d code gone first y l)
after d code gone ways (Some e) r h = fetched_left d gone ways r r h (λ first l. none_fetched d gone first r l)

pub left_cycle : (d : Desc) (code : Code) (gone : List Entry) (ways : List Bool) (x : Machine) → Left d gone ways x →
    Left d (gone ++ retiring d x) (predicted_on d code (gone ++ retiring d x) x ways) (cycle d code x).machine
left_cycle d code gone ways x h =
    let x1 = record x { cycle = x.cycle + 1 } in
    let x2 = (fill d x1).machine in
    let x3 = (complete x2).machine in
    let x4 = (resolve d x3).machine in
    let x5 = at_retire d x in
    let all = gone ++ retiring d x in
    let r = (retire d x5).machine in
    let y = before_fetch d x in
    let completed : Left d gone ways x3 = left_complete d gone ways x2 (left_fill d gone ways x1 (left_begin d gone ways x h)) in
    let before : LeftBy d gone ways x5 = left_clear d gone ways x4 (left_resolve d gone ways x3 (by_all d gone ways x3 completed)) in
    let retired : LeftBy d all ways r = left_then d gone all ways x5 r before (λ ways l. by_all d all ways r (left_retire d gone ways x5 l)) in
    subst (λ (z : Machine). Left d all (take (length (all ++ y.window) + length y.queue) ways ++ guesses d y.counters (drop (length y.queue) z.queue)) z) (sym (cycle_is d code x))
    (after d code all ways r.end r retired)

-- ---- a run

pub left_run : (d : Desc) (code : Code) (k : ℕ) (gone : List Entry) (ways : List Bool) (x : Machine) → Left d gone ways x →
    Left d (gone ++ retired_in d code k x) (predicted_in d code k gone x ways) (after_cycles d code k x)
left_run d code zero gone ways x h = subst (λ w. Left d w ways x) (sym (append-nil gone)) h
left_run d code (suc k) gone ways x h =
    by_end x.end (left_run d code k (gone ++ retiring d x) (predicted_on d code (gone ++ retiring d x) x ways) (cycle d code x).machine (left_cycle d code gone ways x h))
  where
    more : List Bool
    more = predicted_in d code k (gone ++ retiring d x) (cycle d code x).machine (predicted_on d code (gone ++ retiring d x) x ways)

    by_end : (o : Option End) → Left d ((gone ++ retiring d x) ++ retired_in d code k (cycle d code x).machine) more (after_cycles d code k (cycle d code x).machine) →
        Left d (gone ++ unless_ended o [] (retiring d x ++ retired_in d code k (cycle d code x).machine)) (unless_ended o ways more) (unless_ended o x (after_cycles d code k (cycle d code x).machine))
    by_end None s = subst (λ w. Left d w more (after_cycles d code k (cycle d code x).machine)) (append_assoc gone (retiring d x) _) s
    by_end (Some e) s = subst (λ w. Left d w ways x) (sym (append-nil gone)) h

pub left_at : (d : Desc) (code : Code) (entry : ℕ) (ram : Ram) (k : ℕ) → let first = opening d entry ram in Left d (retired_in d code k first) (predicted_in d code k [] first []) (at d code entry ram k)
left_at d code entry ram k = left_run d code k [] [] (opening d entry ram) (record { leads = refl; fresh = tt })

pub leads_at : (d : Desc) (code : Code) (entry : ℕ) (ram : Ram) (k : ℕ) →
    let first = opening d entry ram in
    let x = at d code entry ram k in Leads d no_checkpoint (retired_in d code k first ++ x.window) x.queue (predicted_in d code k [] first []) x.checkpoint
leads_at d code entry ram k = (left_at d code entry ram k).leads
