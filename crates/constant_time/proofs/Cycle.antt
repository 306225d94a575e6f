-- A cycle keeps two runs together whose paths leak alike, with one row.
use Rattle.std.proofs.Common.{◌≡◌, ℕ, ◌+◌, ◌≤◌, true, [], ◌++◌, Option, Some, None, refl, ap, ap₂, sym, ◌∙◌, subst, arith}
use Rattle.rv_types.specs.Memory.{Code}
use Rattle.rv_types.specs.declared.End.{End}
use Rattle.machine_desc.specs.declared.Desc.{Desc}
use Rattle.window_model.specs.Along.{Along}
use Rattle.window_model.specs.State.{Machine, After, then_does, nothing}
use Rattle.window_model.specs.Taint.{protects}
use Rattle.window_model.specs.Fill.{fill, complete}
use Rattle.window_model.specs.Resolve.{resolve}
use Rattle.window_model.specs.Clear.{clear}
use Rattle.window_model.specs.Retire.{retire, unless_ended, hart_of}
use Rattle.window_model.specs.Issue.{issue}
use Rattle.window_model.specs.Rename.{rename}
use Rattle.window_model.specs.Fetch.{fetch}
use Rattle.window_model.specs.Cycle.{before_retire, begins_cycle, cycle}
use Rattle.window_model.specs.Committed.{Aligned}
use Rattle.window_model.specs.Path.{path}
use Rattle.window_model.proofs.Quiet.{Quiet, before_quiet, after_quiet, fill_quiet, complete_quiet, resolve_quiet, clear_quiet, issue_quiet, rename_quiet, fetch_quiet}
use Rattle.committed_state.proofs.Cycle.{consistent_before}
use Rattle.committed_state.proofs.Numbers.{before_cycle, retire_cycle, issue_cycle, rename_cycle, fetch_cycle}
use Rattle.committed_state.proofs.Retire.{retire_commits}
use Rattle.noninterference.specs.Together.{OwnFacts}
use Rattle.noninterference.proofs.Facts.{facts_begin, facts_fill, facts_complete, facts_resolve, facts_clear, facts_retire, facts_issue, facts_rename, facts_fetch}
use Rattle.secret_marks.specs.Marks.{Marks, cut}
use Rattle.secret_marks.specs.Alike.{StaysAlike}
use Rattle.secret_marks.proofs.Complete.{complete_keeps, fill_keeps}
use Rattle.secret_marks.proofs.Clear.{clear_keeps}
use Rattle.secret_marks.proofs.RenameFetch.{fetch_keeps, rename_keeps}
use Rattle.constant_time.specs.Leaks.{LeakAlike, LeakUpTo}
use Rattle.constant_time.specs.Laws.{Alike}
use Rattle.constant_time.specs.Waits.{CycleWaits, WaitsToIssue, WaitsToResolve}
use Rattle.constant_time.proofs.Issue.{issue_alike}
use Rattle.two_runs.proofs.Rows.{same_row}
use Rattle.constant_time.proofs.Resolve.{resolve_alike}
use Rattle.constant_time.proofs.Retire.{retire_alike}

-- two runs that go on together, as Issue of cycle `now` finds them
pub record TogetherIn (now : ℕ) (d : Desc) (code : Code) (total : ℕ) (x x2 : Machine) : Type 0 where
  pub alike : Alike x x2
  pub facts : OwnFacts now d code x
  pub facts2 : OwnFacts now d code x2
  pub leaks : LeakUpTo d.stt_model code total x x2

-- two runs that go on together, between two cycles
abbrev pub Together : Desc → Code → ℕ → Machine → Machine → Type 0
Together d code total x x2 = TogetherIn (x.cycle + 1) d code total x x2

-- what a cycle leaves: one row, and machines that are equal but for values and go on together
pub record CyclesAlike (d : Desc) (code : Code) (total : ℕ) (x x2 : Machine) : Type 0 where
  pub alike : Alike (cycle d code x).machine (cycle d code x2).machine
  pub row : (cycle d code x).row ≡ (cycle d code x2).row
  pub together : (cycle d code x).machine.end ≡ None → Together d code total (cycle d code x).machine (cycle d code x2).machine

-- what a phase leaves: the same events, and machines that are equal but for values
abbrev Same : After → After → Type 0
Same a a2 = (m : Marks) × StaysAlike m a a2

same_end : (x x2 : Machine) → Alike x x2 → x.end ≡ x2.end
same_end x x2 h = ap (λ (t : Machine). t.end) h.1.others

same_cycle : (x x2 : Machine) → Alike x x2 → x.cycle ≡ x2.cycle
same_cycle x x2 h = ap (λ (t : Machine). t.cycle) h.1.others

begins_alike : (x x2 : Machine) → Alike x x2 → Alike (begins_cycle x) (begins_cycle x2)
begins_alike x x2 h = (h.0, record { others = ap begins_cycle h.1.others; regs = h.1.regs; bytes = h.1.bytes; window = h.1.window })

module _ (d : Desc) (code : Code) (total : ℕ) (protected : protects d.stt_model ≡ true) (aligned : Aligned code) where
  abbrev T : ℕ → Machine → Machine → Type 0
  T now = TogetherIn now d code total

  quiet_leaks : (x x2 y y2 : Machine) → Quiet x y → Quiet x2 y2 → LeakUpTo d.stt_model code total x x2 → LeakUpTo d.stt_model code total y y2
  quiet_leaks x x2 y y2 s s2 a n le =
      subst (λ h. LeakAlike (path d.stt_model) code n h (hart_of y2)) (sym s.hart) (subst (LeakAlike (path d.stt_model) code n (hart_of x)) (sym s2.hart) (a n (omega (arith, le, s.retired))))

  -- two runs still go on together after a phase with the same events that leaves the retired state alone
  after_phase : (now : ℕ) (f : Machine → After) → ((x : Machine) → Quiet x (f x).machine) → (x x2 : Machine) → LeakUpTo d.stt_model code total x x2 →
      OwnFacts now d code (f x).machine → OwnFacts now d code (f x2).machine → Same (f x) (f x2) → T now (f x).machine (f x2).machine
  after_phase now f quiet x x2 s a a2 t =
      record { alike = (t.0, t.1.alike); facts = a; facts2 = a2; leaks = quiet_leaks x x2 (f x).machine (f x2).machine (quiet x) (quiet x2) s }

  -- ---- the phases before Retire

  before : Machine → After
  before x = before_retire d (begins_cycle x)

  module _ (now : ℕ) where
    phase : (f : Machine → After) → ((x : Machine) → OwnFacts now d code x → OwnFacts now d code (f x).machine) → ((x : Machine) → Quiet x (f x).machine) → (x x2 : Machine) → T now x x2 → Same (f x) (f x2) → T now (f x).machine (f x2).machine
    phase f facts quiet x x2 p t = after_phase now f quiet x x2 p.leaks (facts x p.facts) (facts x2 p.facts2) t

    before_alike : (x x2 : Machine) → T now x x2 → x.retired + d.core_rob ≤ total → Along (WaitsToResolve d) [] (complete (fill d (begins_cycle x)).machine).machine.window →
        T now (before x).machine (before x2).machine × ((before x).events ≡ (before x2).events)
    unfolding before
    before_alike x x2 p le wait =
        let x1 = begins_cycle x in
        let x12 = begins_cycle x2 in
        let p0 : T now x1 x12 = record { alike = begins_alike x x2 p.alike; facts = facts_begin now d code x p.facts; facts2 = facts_begin now d code x2 p.facts2; leaks = p.leaks } in
        let t1 : Same (fill d x1) (fill d x12) = (p0.alike.0, fill_keeps d p0.alike.0 x1 x12 p0.alike.1) in
        let p1 = phase (fill d) (facts_fill now d code) (fill_quiet d) x1 x12 p0 t1 in
        let y = (fill d x1).machine in
        let y2 = (fill d x12).machine in
        let t2 : Same (complete y) (complete y2) = (p1.alike.0, complete_keeps p1.alike.0 y y2 p1.alike.1) in
        let p2 = phase complete (facts_complete now d code) complete_quiet y y2 p1 t2 in
        let z = (complete y).machine in
        let z2 = (complete y2).machine in
        let fits = p2.facts.fits in
        let le2 : z.retired + d.core_rob ≤ total = le in
        let t3 : Same (resolve d z) (resolve d z2) = resolve_alike now d code total z z2 protected aligned p2.facts.consistent p2.facts2.consistent (omega (arith, fits, le2)) p2.leaks wait p2.alike in
        let p3 = phase (resolve d) (facts_resolve now d code) (resolve_quiet d) z z2 p2 t3 in
        let w = (resolve d z).machine in
        let w2 = (resolve d z2).machine in
        let t4 : Same (clear d w) (clear d w2) = (cut (clear d w).machine.window p3.alike.0, clear_keeps d p3.alike.0 w w2 p3.alike.1) in
        let e1 = t1.1.events in
        let e2 = t2.1.events in
        let e3 = t3.1.events in
        let e4 = t4.1.events in
        (phase (clear d) (facts_clear now d code) (clear_quiet d) w w2 p3 t4, ap₂ (λ a b. a ++ b) e1 (ap₂ (λ a b. a ++ b) e2 (ap₂ (λ a b. a ++ b) e3 e4)))

  -- ---- the phases after Retire

  rest : Machine → After
  rest x = then_does (issue d x) (λ y. then_does (rename d y) (fetch d code))

  rest_alike : (now : ℕ) (x x2 : Machine) → x.cycle ≡ now → T now x x2 → x.retired + d.core_rob ≤ total → Along (WaitsToIssue d) [] x.window → Together d code total (rest x).machine (rest x2).machine × ((rest x).events ≡ (rest x2).events)
  unfolding rest
  rest_alike now x x2 q p le wait =
      let q2 = sym (same_cycle x x2 p.alike) ∙ q in
      let g : OwnFacts x.cycle d code x = subst (λ n. OwnFacts n d code x) (sym q) p.facts in
      let g2 : OwnFacts x.cycle d code x2 = subst (λ n. OwnFacts n d code x2) (sym q) p.facts2 in
      let fits = g.fits in
      let t1 : Same (issue d x) (issue d x2) = issue_alike d code total x x2 protected aligned g.consistent g2.consistent (omega (arith, fits, le)) p.leaks wait p.alike in
      let p1 = after_phase (now + 1) (issue d) (issue_quiet d) x x2 p.leaks (facts_issue now d code x q p.facts) (facts_issue now d code x2 q2 p.facts2) t1 in
      let y = (issue d x).machine in
      let y2 = (issue d x2).machine in
      let t2 : Same (rename d y) (rename d y2) = (_, rename_keeps d p1.alike.0 y y2 p1.alike.1) in
      let p2 = phase (now + 1) (rename d) (facts_rename (now + 1) d code) (rename_quiet d) y y2 p1 t2 in
      let z = (rename d y).machine in
      let z2 = (rename d y2).machine in
      let t3 : Same (fetch d code z) (fetch d code z2) = (p2.alike.0, fetch_keeps d code p2.alike.0 z z2 p2.alike.1) in
      let p3 = phase (now + 1) (fetch d code) (facts_fetch (now + 1) d code) (fetch_quiet d code) z z2 p2 t3 in
      let same = fetch_cycle d code z ∙ rename_cycle d y ∙ issue_cycle d x ∙ q in
      let e1 = t1.1.events in
      let e2 = t2.1.events in
      let e3 = t3.1.events in
      (subst (λ n. T (n + 1) (fetch d code z).machine (fetch d code z2).machine) (sym same) p3, ap₂ (λ a b. a ++ b) e1 (ap₂ (λ a b. a ++ b) e2 e3))

  record AfterAlike (a a2 : After) : Type 0 where
    alike : Alike a.machine a2.machine
    events : a.events ≡ a2.events
    together : a.machine.end ≡ None → Together d code total a.machine a2.machine

  after_alike : (now : ℕ) (o o2 : Option End) (x x2 : Machine) → x.cycle ≡ now → o ≡ o2 → x.end ≡ o → Alike x x2 → (o ≡ None → T now x x2) → (o ≡ None → x.retired + d.core_rob ≤ total) → Along (WaitsToIssue d) [] x.window →
      AfterAlike (unless_ended o (nothing x) (rest x)) (unless_ended o2 (nothing x2) (rest x2))
  after_alike now None None x x2 s q n r p le wait =
      let a = rest_alike now x x2 s (p refl) (le refl) wait in
      record { alike = a.0.alike; events = a.1; together = λ z. a.0 }
  after_alike now (Some e) (Some e2) x x2 s q n r p le wait = record { alike = r; events = refl; together = λ z. absurd (cc) }
  after_alike now None (Some e) x x2 s q n r p le wait = absurd (cc)
  after_alike now (Some e) None x x2 s q n r p le wait = absurd (cc)

  -- ---- a cycle as a whole

  -- a cycle in which what shows is visible keeps two runs together whose paths leak alike, with one row
  pub cycle_alike : (x x2 : Machine) → x.end ≡ None → Together d code total x x2 → (cycle d code x).machine.retired + d.core_rob ≤ total → CycleWaits d x → CyclesAlike d code total x x2
  unfolding cycle before rest
  cycle_alike x x2 n p le wait =
      let now = x.cycle + 1 in
      let y = (before x).machine in
      let y2 = (before x2).machine in
      let r = (retire d y).machine in
      let r2 = (retire d y2).machine in
      let fq = before_quiet d x in
      let bq = after_quiet d code r in
      let ne : y.end ≡ None = fq.ended ∙ n in
      let count = (retire_commits now code aligned d y (consistent_before code d x p.facts.consistent) ne).committed.counted in
      let f = before_alike now x x2 p (omega (arith, fq.retired, bq.retired, count, le)) wait.resolves in
      let ne2 : y2.end ≡ None = sym (same_end y y2 f.0.alike) ∙ ne in
      let fits = f.0.facts.fits in
      let t = retire_alike now d code total y y2 aligned ne f.0.facts.consistent f.0.facts2.consistent (omega (arith, fits, fq.retired, bq.retired, count, le)) f.0.leaks f.0.alike in
      let b = after_alike now r.end r2.end r r2 (retire_cycle d y ∙ before_cycle d x) (same_end r r2 t.alike) refl t.alike
      (λ z. record { alike = t.alike; facts = facts_retire now d code aligned y ne f.0.facts; facts2 = facts_retire now d code aligned y2 ne2 f.0.facts2; leaks = t.leaks z })
      (λ z. omega (arith, bq.retired, le)) wait.issues in
      let e1 = f.1 in
      let e2 = t.events in
      let e3 = b.events in
      record { alike = b.alike; row = same_row x.cycle x2.cycle _ _ _ _ _ _ (same_cycle x x2 p.alike) e1 e2 e3; together = b.together }
