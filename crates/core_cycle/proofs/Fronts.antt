-- The phases before Retire, one after the other.
use Rattle.std.proofs.Common.{◌≡◌, ◌++◌, ap, ap₂, ◌∙◌}
use Rattle.std.proofs.lemmas.List.{append_assoc}
use Rattle.window_model.specs.Clear.{clear}
use Rattle.window_model.specs.Fill.{complete, fill}
use Rattle.window_model.specs.Resolve.{resolve}
use Rattle.window_model.specs.Row.{Row}
use Rattle.window_model.specs.inner.Row.{with_events}
use Rattle.window_model.specs.State.{After}
use Rattle.core_parts.specs.Described.{Described}
use Rattle.core_cycle.specs.Phases.{phases_before}

-- the parts as they begin, after Fill, after Complete, once the point may have moved, after Resolve, and once it may
-- have moved again
pub record Resolved (s s1 s2 s3 s4 s5 : Described) : Type 0 where
  pub filled : s1 ≡ record s { machine = (fill s.desc s.machine).machine }
  pub completed : s2 ≡ record s1 { machine = (complete s1.machine).machine }
  pub moved : s3 ≡ record s2 { point = s3.point }
  pub resolved : s4 ≡ record s3 { machine = (resolve s3.desc s3.machine).machine }
  pub moved_again : s5 ≡ record s4 { point = s5.point }

module _ (s s1 s2 s3 s4 s5 : Described) (e : Resolved s s1 s2 s3 s4 s5) where
  completes : complete s1.machine ≡ complete (fill s.desc s.machine).machine
  completes = ap (λ (t : Described). complete t.machine) e.filled

  desc_is : s3.desc ≡ s.desc
  desc_is = ap (λ (t : Described). t.desc) e.moved ∙ ap (λ (t : Described). t.desc) e.completed ∙ ap (λ (t : Described). t.desc) e.filled

  -- Resolve goes over the machine that Fill and Complete leave, wherever the point has moved
  pub resolves : resolve s3.desc s3.machine ≡ resolve s.desc (complete (fill s.desc s.machine).machine).machine
  resolves =
      let machine = ap (λ (t : Described). t.machine) e.moved ∙ ap (λ (t : Described). t.machine) e.completed ∙ ap (λ (a : After). a.machine) completes in
      ap₂ resolve desc_is machine

  -- Clear goes over the machine that Fill, Complete and Resolve leave, wherever the point has moved
  pub clears : clear s5.desc s5.machine ≡ clear s.desc (resolve s.desc (complete (fill s.desc s.machine).machine).machine).machine
  clears =
      let desc = ap (λ (t : Described). t.desc) e.moved_again ∙ ap (λ (t : Described). t.desc) e.resolved ∙ desc_is in
      let machine = ap (λ (t : Described). t.machine) e.moved_again ∙ ap (λ (t : Described). t.machine) e.resolved ∙ ap (λ (a : After). a.machine) resolves in
      ap₂ clear desc machine

  -- the machine that the phases before Retire leave, with a point that may have moved
  pub fronts_machine : (s6 s7 : Described) → s6 ≡ record s5 { machine = (clear s5.desc s5.machine).machine } → s7 ≡ record s6 { point = s7.point } →
      s7 ≡ record s { machine = (phases_before s).machine; point = s7.point }
  fronts_machine s6 s7 e6 e7 =
      let last = (phases_before s).machine in
      let with_last : Described → Described = λ t. record t { machine = last; point = s7.point } in
      e7
      ∙ ap (λ (t : Described). record t { point = s7.point }) (e6 ∙ ap (λ (a : After). record s5 { machine = a.machine }) clears)
      ∙ ap with_last e.moved_again
      ∙ ap with_last e.resolved
      ∙ ap with_last e.moved
      ∙ ap with_last e.completed
      ∙ ap with_last e.filled

  -- the events that the phases before Retire add to the row, in their order
  pub fronts_row : (r r1 r2 r3 r4 : Row) → r1 ≡ with_events r (fill s.desc s.machine).events → r2 ≡ with_events r1 (complete s1.machine).events →
      r3 ≡ with_events r2 (resolve s3.desc s3.machine).events → r4 ≡ with_events r3 (clear s5.desc s5.machine).events → r4 ≡ with_events r (phases_before s).events
  fronts_row r r1 r2 r3 r4 q1 q2 q3 q4 =
      let f = fill s.desc s.machine in
      let k = complete f.machine in
      let v = resolve s.desc k.machine in
      let c = clear s.desc v.machine in
      let second = q2 ∙ ap (λ (a : After). with_events r1 a.events) completes ∙ ap (λ (w : Row). with_events w k.events) q1 in
      let third = q3 ∙ ap (λ (a : After). with_events r2 a.events) resolves ∙ ap (λ (w : Row). with_events w v.events) second in
      q4
      ∙ ap (λ (a : After). with_events r3 a.events) clears
      ∙ ap (λ (w : Row). with_events w c.events) third
      ∙ ap (λ es. record r { events = es })
      (append_assoc ((r.events ++ f.events) ++ k.events) v.events c.events
      ∙ append_assoc (r.events ++ f.events) k.events (v.events ++ c.events)
      ∙ append_assoc r.events f.events (k.events ++ (v.events ++ c.events)))
