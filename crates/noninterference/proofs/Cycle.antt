-- A cycle keeps two runs together, with one row.
use Rattle.std.proofs.Common.{◌≡◌, ℕ, ◌+◌, ◌≤◌, true, Option, Some, None, refl, ap, sym, ◌∙◌, subst, arith}
use Rattle.rv_types.specs.Memory.{Code}
use Rattle.rv_types.specs.declared.End.{End}
use Rattle.machine_desc.specs.declared.Desc.{Desc}
use Rattle.window_model.specs.State.{Machine, After, then_does, nothing}
use Rattle.window_model.specs.Taint.{protects}
use Rattle.window_model.specs.Fill.{fill, complete}
use Rattle.window_model.specs.Resolve.{resolve}
use Rattle.window_model.specs.Clear.{clear}
use Rattle.window_model.specs.Retire.{retire, unless_ended, hart_of}
use Rattle.window_model.specs.Issue.{issue}
use Rattle.window_model.specs.Rename.{rename}
use Rattle.window_model.specs.Fetch.{fetch}
use Rattle.window_model.specs.Cycle.{before_retire, begins_cycle, cycle}
use Rattle.window_model.specs.Committed.{Aligned}
use Rattle.window_model.specs.Path.{path}
use Rattle.window_model.proofs.Quiet.{Quiet, before_quiet, after_quiet, fill_quiet, complete_quiet, resolve_quiet, clear_quiet, issue_quiet, rename_quiet, fetch_quiet}
use Rattle.committed_state.proofs.Cycle.{consistent_before}
use Rattle.committed_state.proofs.Numbers.{before_cycle, retire_cycle, issue_cycle, rename_cycle, fetch_cycle}
use Rattle.committed_state.proofs.Retire.{retire_commits}
use Rattle.noninterference.specs.Alike.{Alike, TellsNothing}
use Rattle.noninterference.specs.InStep.{InStep, InStepUpTo}
use Rattle.noninterference.specs.Together.{OwnFacts, Together, TogetherIn, CyclesAlike}
use Rattle.noninterference.specs.Laws.{CycleTellsNothing}
use Rattle.noninterference.proofs.Facts.{facts_begin, facts_fill, facts_complete, facts_resolve, facts_clear, facts_retire, facts_issue, facts_rename, facts_fetch}
use Rattle.noninterference.proofs.Complete.{fill_tells_nothing, complete_tells_nothing}
use Rattle.noninterference.proofs.Resolve.{resolve_tells_nothing}
use Rattle.noninterference.proofs.Clear.{clear_tells_nothing}
use Rattle.noninterference.proofs.Retire.{retire_tells_nothing}
use Rattle.noninterference.proofs.Issue.{issue_tells_nothing}
use Rattle.noninterference.proofs.RenameFetch.{rename_tells_nothing, fetch_tells_nothing}
use Rattle.two_runs.proofs.Rows.{same_row}
use Rattle.noninterference.proofs.Agree.{together_agree}

module _ (d : Desc) (code : Code) (total : ℕ) (protected : protects d.stt_model ≡ true) (aligned : Aligned code) where
  -- two runs that go on together, as Issue of this cycle finds them
  abbrev T : ℕ → Machine → Machine → Type 0
  T now = TogetherIn now d code total

  quiet_in_step : (x x2 y y2 : Machine) → Quiet x y → Quiet x2 y2 → InStepUpTo d.stt_model code total x x2 → InStepUpTo d.stt_model code total y y2
  quiet_in_step x x2 y y2 s s2 a n le =
      subst (λ h. InStep (path d.stt_model) code n h (hart_of y2)) (sym s.hart) (subst (InStep (path d.stt_model) code n (hart_of x)) (sym s2.hart) (a n (omega (arith, le, s.retired))))

  -- two runs still go on together after a phase that tells nothing and leaves the retired state alone
  after_phase : (now : ℕ) (f : Machine → After) → ((x : Machine) → Quiet x (f x).machine) → (x x2 : Machine) → InStepUpTo d.stt_model code total x x2 →
      OwnFacts now d code (f x).machine → OwnFacts now d code (f x2).machine → TellsNothing (f x) (f x2) → T now (f x).machine (f x2).machine
  after_phase now f quiet x x2 s a a2 t =
      record { alike = ap (λ (a : After). a.machine) t; facts = a; facts2 = a2; in_step = quiet_in_step x x2 (f x).machine (f x2).machine (quiet x) (quiet x2) s }

  same_events : (a a2 : After) → TellsNothing a a2 → a.events ≡ a2.events
  same_events a a2 t = ap (λ (a : After). a.events) t

  same_cycle : (x x2 : Machine) → Alike x x2 → x.cycle ≡ x2.cycle
  same_cycle x x2 r = ap (λ (m : Machine). m.cycle) r

  -- ---- the phases before Retire

  before : Machine → After
  before x = before_retire d (begins_cycle x)

  module _ (now : ℕ) where
    -- two runs still go on together after a phase before Issue that tells nothing
    phase : (f : Machine → After) → ((x : Machine) → OwnFacts now d code x → OwnFacts now d code (f x).machine) → ((x : Machine) → Quiet x (f x).machine) → (x x2 : Machine) → T now x x2 → TellsNothing (f x) (f x2) → T now (f x).machine (f x2).machine
    phase f facts quiet x x2 p t = after_phase now f quiet x x2 p.in_step (facts x p.facts) (facts x2 p.facts2) t

    before_alike : (x x2 : Machine) → T now x x2 → x.retired + d.core_rob ≤ total → T now (before x).machine (before x2).machine × ((before x).events ≡ (before x2).events)
    unfolding before
    before_alike x x2 p le =
        let x1 = begins_cycle x in
        let x12 = begins_cycle x2 in
        let p0 : T now x1 x12 = record { alike = ap begins_cycle p.alike; facts = facts_begin now d code x p.facts; facts2 = facts_begin now d code x2 p.facts2; in_step = p.in_step } in
        let t1 = fill_tells_nothing d x1 x12 p0.alike in
        let p1 = phase (fill d) (facts_fill now d code) (fill_quiet d) x1 x12 p0 t1 in
        let y = (fill d x1).machine in
        let y2 = (fill d x12).machine in
        let t2 = complete_tells_nothing y y2 p1.alike in
        let p2 = phase complete (facts_complete now d code) complete_quiet y y2 p1 t2 in
        let z = (complete y).machine in
        let z2 = (complete y2).machine in
        let t3 = resolve_tells_nothing d z z2 p2.alike (together_agree now d code total z z2 protected aligned le p2) in
        let p3 = phase (resolve d) (facts_resolve now d code) (resolve_quiet d) z z2 p2 t3 in
        let w = (resolve d z).machine in
        let w2 = (resolve d z2).machine in
        let still = (resolve_quiet d z).retired in
        let t4 = clear_tells_nothing d w w2 p3.alike (together_agree now d code total w w2 protected aligned (omega (arith, le, still)) p3) in
        let e1 = same_events (fill d x1) (fill d x12) t1 in
        let e2 = same_events (complete y) (complete y2) t2 in
        let e3 = same_events (resolve d z) (resolve d z2) t3 in
        let e4 = same_events (clear d w) (clear d w2) t4 in
        (phase (clear d) (facts_clear now d code) (clear_quiet d) w w2 p3 t4, cc)

  -- ---- the phases after Retire

  rest : Machine → After
  rest x = then_does (issue d x) (λ y. then_does (rename d y) (fetch d code))

  -- the phases after Retire leave two runs together for the next cycle, with the same events
  rest_alike : (now : ℕ) (x x2 : Machine) → x.cycle ≡ now → T now x x2 → x.retired + d.core_rob ≤ total → Together d code total (rest x).machine (rest x2).machine × ((rest x).events ≡ (rest x2).events)
  unfolding rest
  rest_alike now x x2 q p le =
      let place = (p.in_step 0 (omega (arith, le))).place in
      let q2 = sym (same_cycle x x2 p.alike) ∙ q in
      let t1 = issue_tells_nothing now d code x x2 p.facts.consistent p.alike (together_agree now d code total x x2 protected aligned le p) place in
      let p1 = after_phase (now + 1) (issue d) (issue_quiet d) x x2 p.in_step (facts_issue now d code x q p.facts) (facts_issue now d code x2 q2 p.facts2) t1 in
      let y = (issue d x).machine in
      let y2 = (issue d x2).machine in
      let t2 = rename_tells_nothing d y y2 p1.alike in
      let p2 = phase (now + 1) (rename d) (facts_rename (now + 1) d code) (rename_quiet d) y y2 p1 t2 in
      let z = (rename d y).machine in
      let z2 = (rename d y2).machine in
      let t3 = fetch_tells_nothing d code z z2 p2.alike in
      let p3 = phase (now + 1) (fetch d code) (facts_fetch (now + 1) d code) (fetch_quiet d code) z z2 p2 t3 in
      let same = fetch_cycle d code z ∙ rename_cycle d y ∙ issue_cycle d x ∙ q in
      let e1 = same_events (issue d x) (issue d x2) t1 in
      let e2 = same_events (rename d y) (rename d y2) t2 in
      let e3 = same_events (fetch d code z) (fetch d code z2) t3 in
      (subst (λ n. T (n + 1) (fetch d code z).machine (fetch d code z2).machine) (sym same) p3, cc)

  record AfterAlike (a a2 : After) : Type 0 where
    alike : Alike a.machine a2.machine
    events : a.events ≡ a2.events
    together : a.machine.end ≡ None → Together d code total a.machine a2.machine

  after_alike : (now : ℕ) (o o2 : Option End) (x x2 : Machine) → x.cycle ≡ now → o ≡ o2 → x.end ≡ o → Alike x x2 → (o ≡ None → T now x x2) → (o ≡ None → x.retired + d.core_rob ≤ total) → AfterAlike (unless_ended o (nothing x) (rest x)) (unless_ended o2 (nothing x2) (rest x2))
  after_alike now None None x x2 s q n r p le =
      let a = rest_alike now x x2 s (p refl) (le refl) in
      record { alike = a.0.alike; events = a.1; together = λ z. a.0 }
  after_alike now (Some e) (Some e2) x x2 s q n r p le = record { alike = r; events = refl; together = λ z. absurd (cc) }
  after_alike now _ _ x x2 s q n r p le = absurd (cc)

  -- ---- a cycle as a whole

  cycle_alike : (x x2 : Machine) → x.end ≡ None → Together d code total x x2 → (cycle d code x).machine.retired + d.core_rob ≤ total → CyclesAlike d code total x x2
  unfolding cycle before rest
  cycle_alike x x2 n p le =
      let now = x.cycle + 1 in
      let y = (before x).machine in
      let y2 = (before x2).machine in
      let r = (retire d y).machine in
      let r2 = (retire d y2).machine in
      let fq = before_quiet d x in
      let bq = after_quiet d code r in
      let ne : y.end ≡ None = fq.ended ∙ n in
      let count = (retire_commits now code aligned d y (consistent_before code d x p.facts.consistent) ne).committed.counted in
      let f = before_alike now x x2 p (omega (arith, le, fq.retired, bq.retired, count)) in
      let fits = f.0.facts.fits in
      let ne2 : y2.end ≡ None = sym (ap (λ (m : Machine). m.end) f.0.alike) ∙ ne in
      let t = retire_tells_nothing now d code total y y2 protected aligned ne f.0.facts.consistent f.0.facts2.consistent (omega (arith, fq.retired, bq.retired, count, le, fits)) f.0.alike f.0.in_step in
      let b = after_alike now r.end r2.end r r2 (retire_cycle d y ∙ before_cycle d x) (ap (λ (m : Machine). m.end) t.alike) refl t.alike
      (λ z. record { alike = t.alike; facts = facts_retire now d code aligned y ne f.0.facts; facts2 = facts_retire now d code aligned y2 ne2 f.0.facts2; in_step = t.in_step z })
      (λ z. omega (arith, bq.retired, le)) in
      let e1 = f.1 in
      let e2 = t.events in
      let e3 = b.events in
      record { alike = b.alike; row = same_row x.cycle x2.cycle _ _ _ _ _ _ (same_cycle x x2 p.alike) e1 e2 e3; together = b.together }

-- a cycle keeps two runs together that go on so under a model that protects, with one row
pub cycle_tells_nothing : CycleTellsNothing
cycle_tells_nothing d code total x x2 protected aligned n p le = cycle_alike d code total protected aligned x x2 n p le
