-- A cycle: before Retire and after it the retired state stays.
use Rattle.std.proofs.Common.{◌≡◌, ℕ, ◌+◌, List, [], Option, Some, None, ap, sym, ◌∙◌, subst}
use Rattle.rv_types.specs.Memory.{Code}
use Rattle.rv_types.specs.Isa.{Run, isa, with_piece}
use Rattle.rv_types.specs.declared.End.{End}
use Rattle.machine_desc.specs.declared.Desc.{Desc}
use Rattle.window_model.specs.State.{Machine, nothing, then_does}
use Rattle.window_model.specs.Issue.{issue}
use Rattle.window_model.specs.Rename.{rename}
use Rattle.window_model.specs.Fetch.{fetch}
use Rattle.window_model.specs.Fill.{fill, complete}
use Rattle.window_model.specs.Resolve.{resolve}
use Rattle.window_model.specs.Retire.{retire, hart_of, unless_ended}
use Rattle.window_model.specs.Cycle.{cycle, after_retire, begins_cycle}
use Rattle.window_model.specs.Committed.{Aligned, TrapsNext, exit_of}
use Rattle.window_model.proofs.Quiet.{Quiet, at_retire, before_quiet, after_quiet}
use Rattle.committed_state.specs.Consistent.{Consistent, ConsistentIn}
use Rattle.committed_state.specs.Laws.{CycleCommits, CycleKeeps}
use Rattle.committed_state.proofs.Steps.{Leads, as_retired}
use Rattle.committed_state.proofs.Complete.{consistent_complete, consistent_fill}
use Rattle.committed_state.proofs.Resolve.{consistent_resolve}
use Rattle.committed_state.proofs.Retire.{retire_commits}
use Rattle.committed_state.proofs.Clear.{consistent_clear}
use Rattle.committed_state.proofs.Numbers.{before_cycle, fetch_cycle, issue_cycle, rename_cycle, retire_cycle}
use Rattle.committed_state.proofs.Issue.{consistent_issue, consistent_later}
use Rattle.committed_state.proofs.RenameFetch.{consistent_rename, consistent_fetch}

module _ (code : Code) (d : Desc) where
  -- what is committed is so from states and to states that are alike
  committed_between : (x y z u : Machine) (ps : List (List ℕ)) → Quiet x y → Quiet z u → Leads code (hart_of y) y.retired z ps → Leads code (hart_of x) x.retired u ps
  committed_between x y z u ps p q c = record {
    steps = c.steps;
    counted = q.retired ∙ c.counted ∙ ap (λ n. n + c.steps) p.retired;
    runs =
        ap (λ s. isa code s c.steps) (sym p.hart) ∙ c.runs
        ∙ ap (λ s. let r : Run = record { last = s; pieces = ps; steps = c.steps; ended = exit_of z.end } in r) (sym q.hart)
        ∙ ap (λ o. let r : Run = record { last = hart_of u; pieces = ps; steps = c.steps; ended = exit_of o } in r) (sym q.ended);
    trap = subst (λ o. TrapsNext code (hart_of u) o) (sym q.ended) (subst (λ s. TrapsNext code s z.end) (sym q.hart) c.trap);
  }

  -- the phases before Retire keep a state consistent
  pub consistent_before : (x : Machine) → Consistent d code x → ConsistentIn (x.cycle + 1) d code (at_retire d x)
  consistent_before x h =
      let n = x.cycle + 1 in
      let y = (fill d (begins_cycle x)).machine in
      let z = (complete y).machine in
      consistent_clear n code d (resolve d z).machine (consistent_resolve n code d z (consistent_complete n code d y (consistent_fill n code d (begins_cycle x) h)))

  -- Issue, Rename and Fetch leave a consistent state for the next cycle
  consistent_goes_on : (x : Machine) → ConsistentIn x.cycle d code x → Consistent d code (then_does (issue d x) (λ y. then_does (rename d y) (fetch d code))).machine
  consistent_goes_on x h =
      let n = x.cycle + 1 in
      let y = (issue d x).machine in
      let z = (rename d y).machine in
      let same = fetch_cycle d code z ∙ rename_cycle d y ∙ issue_cycle d x in
      subst (λ m. ConsistentIn (m + 1) d code (fetch d code z).machine) (sym same)
      (consistent_fetch n code d z (consistent_rename n code d y (subst (λ m. ConsistentIn (m + 1) d code y) (issue_cycle d x) (consistent_issue code d x h))))

  pub consistent_after : (x : Machine) → ConsistentIn x.cycle d code x → Consistent d code (after_retire d code x).machine
  consistent_after x h = by_end x.end
    where
      by_end : (o : Option End) → Consistent d code (unless_ended o (nothing x) (then_does (issue d x) (λ y. then_does (rename d y) (fetch d code)))).machine
      by_end None = consistent_goes_on x h
      by_end (Some e) = consistent_later x.cycle code d x h

  pub cycle_does : (x : Machine) → Aligned code → Consistent d code x → x.end ≡ None → Leads code (hart_of x) x.retired (cycle d code x).machine (with_piece (cycle d code x).piece []) × Consistent d code (cycle d code x).machine
  unfolding cycle
  cycle_does x al h n =
      let y = at_retire d x in
      let f = before_quiet d x in
      let r = retire_commits (x.cycle + 1) code al d y (consistent_before x h) (f.ended ∙ n) in
      let z = (retire d y).machine in
      let same = retire_cycle d y ∙ before_cycle d x in
      (committed_between x y z _ _ f (after_quiet d code z) r.committed, consistent_after z (subst (λ m. ConsistentIn m d code z) (sym same) r.holds))

-- what a cycle retires is as many steps of the instruction set
pub cycle_commits : CycleCommits
cycle_commits d code x al h n = as_retired code x (cycle d code x).machine (cycle d code x).piece (cycle_does code d x al h n).0

-- every cycle leads from a consistent state to a consistent one
pub consistent_cycle : CycleKeeps
consistent_cycle d code x al h n = (cycle_does code d x al h n).1
