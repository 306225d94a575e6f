-- What a cycle is in which nothing retires and the run doesn't end.
use Rattle.std.proofs.Common.{◌≡◌, ◌+◌, ◌≤◌, Option, Some, None, refl, ap, sym, ◌∙◌, arith}
use Rattle.rv_types.specs.Memory.{Code}
use Rattle.rv_types.specs.declared.End.{End}
use Rattle.machine_desc.specs.declared.Desc.{Desc}
use Rattle.machine_desc.specs.Ranges.{IsDesc}
use Rattle.window_model.specs.State.{Machine, then_does, nothing}
use Rattle.window_model.specs.Fill.{fill, complete}
use Rattle.window_model.specs.Resolve.{resolve}
use Rattle.window_model.specs.Retire.{retire, unless_ended}
use Rattle.window_model.specs.Issue.{issue}
use Rattle.window_model.specs.Rename.{rename}
use Rattle.window_model.specs.Fetch.{fetch}
use Rattle.window_model.specs.Cycle.{cycle, after_retire}
use Rattle.window_model.proofs.Quiet.{Quiet, quiet_then, at_retire, cycle_is, before_quiet, after_quiet, issue_quiet, rename_quiet, fetch_quiet}
use Rattle.machine_facts.specs.Sized.{Sized}
use Rattle.machine_facts.specs.Timely.{Timely}
use Rattle.machine_facts.proofs.SizedPhases.{sized_begin, sized_fill, sized_complete, sized_resolve}
use Rattle.machine_facts.proofs.ClearPhases.{timely_clear}
use Rattle.machine_facts.proofs.TimelyPhases.{timely_begin, timely_fill, timely_complete, timely_resolve}
use Rattle.progress.proofs.Stops.{Stuck, retire_turned}

-- the state of a cycle before Resolve
abbrev pub before_resolve : Desc → Machine → Machine
before_resolve d x = (complete (fill d (record x { cycle = x.cycle + 1 })).machine).machine

-- the state that the phases after Retire leave
abbrev pub after_fetch : Desc → Code → Machine → Machine
after_fetch d code x = (fetch d code (rename d (issue d x).machine).machine).machine

-- the state between Resolve and Clear
abbrev pub before_clear : Desc → Machine → Machine
before_clear d x = (resolve d (before_resolve d x)).machine

-- what is under way before Clear ends in a later cycle
pub timely_before_clear : (d : Desc) (x : Machine) → IsDesc d → Timely d x → Timely d (before_clear d x)
timely_before_clear d x i h =
    let x1 : Machine = record x { cycle = x.cycle + 1 } in
    timely_resolve d (before_resolve d x) i (timely_complete x.cycle d (fill d x1).machine i refl (timely_fill x.cycle x.cycle d x1 i refl (timely_begin d x i h)))

pub timely_at_retire : (d : Desc) (x : Machine) → IsDesc d → Timely d x → Timely d (at_retire d x)
timely_at_retire d x i h = timely_clear d (before_clear d x) i (timely_before_clear d x i h)

pub sized_before_clear : (d : Desc) (x : Machine) → IsDesc d → Sized d x → Sized d (before_clear d x)
sized_before_clear d x i s =
    let x1 : Machine = record x { cycle = x.cycle + 1 } in
    sized_resolve d (before_resolve d x) i (sized_complete d (fill d x1).machine i (sized_fill d x1 i (sized_begin d x i s)))

-- a cycle doesn't lower the number of the retired
pub cycle_retires : (d : Desc) (code : Code) (x : Machine) → x.retired ≤ (cycle d code x).machine.retired
cycle_retires d code x =
    let y = at_retire d x in
    let z = (retire d y).machine in
    let f = (before_quiet d x).retired in
    let r = (retire_turned d y).retired in
    let b = (after_quiet d code z).retired in
    rw (cycle_is d code x) (omega arith)

after_fetch_quiet : (d : Desc) (code : Code) (x : Machine) → Quiet x (after_fetch d code x)
after_fetch_quiet d code x =
    let y = (issue d x).machine in
    let z = (rename d y).machine in
    quiet_then x y (fetch d code z).machine (issue_quiet d x) (quiet_then y z (fetch d code z).machine (rename_quiet d y) (fetch_quiet d code z))

-- Retire changes nothing, and the cycle goes on to its end
pub record Idle (d : Desc) (code : Code) (x : Machine) : Type 0 where
  pub stuck : Stuck (at_retire d x).window
  pub end : x.end ≡ None
  pub after : (cycle d code x).machine ≡ after_fetch d code (at_retire d x)

-- where nothing retires and the run doesn't end, Retire has changed nothing, and the phases after it follow; r is what
-- Retire leaves of x
idle_by : (d : Desc) (code : Code) (x r : Machine) (o : Option End) → r.end ≡ o → (r.end ≡ None → r.retired ≡ x.retired → (r ≡ x) × Stuck x.window) →
    let y = (unless_ended o (nothing r) (then_does (issue d r) (λ y. then_does (rename d y) (fetch d code)))).machine in
    y.end ≡ None → y.retired ≡ x.retired → (r ≡ x) × Stuck x.window × (y ≡ after_fetch d code x) × (r.end ≡ None)
idle_by d code x r (Some e) h k p q = absurd (cc)
idle_by d code x r None h k p q =
    let b = after_fetch_quiet d code r in
    let t = k h (sym b.retired ∙ q) in
    (t.0, t.1, ap (after_fetch d code) t.0, h)

pub idle : (d : Desc) (code : Code) (x : Machine) → IsDesc d → (cycle d code x).machine.end ≡ None → (cycle d code x).machine.retired ≡ x.retired → Idle d code x
idle d code x i p q =
    let b = at_retire d x in
    let r = (retire d b).machine in
    let f = before_quiet d x in
    let p2 : (after_retire d code r).machine.end ≡ None = ap (λ (m : Machine). m.end) (sym (cycle_is d code x)) ∙ p in
    let q2 : (after_retire d code r).machine.retired ≡ b.retired = ap (λ (m : Machine). m.retired) (sym (cycle_is d code x)) ∙ q ∙ sym f.retired in
    let k = idle_by d code b r r.end refl (λ u v. (retire_turned d b).stops i.retire_width.0 refl u v) p2 q2 in
    record {
      stuck = k.1;
      end = sym f.ended ∙ ap (λ (m : Machine). m.end) (sym k.0) ∙ k.3;
      after = cycle_is d code x ∙ k.2;
    }
