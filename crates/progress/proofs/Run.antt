-- Within every `bound d` cycles of a run one more instruction retires, or the run ends.
use Rattle.std.proofs.Common.{◌≡◌, ℕ, zero, suc, ◌+◌, ◌*◌, ◌≤◌, ◌<◌, Option, Some, None, refl, ap, sym, ◌∙◌, subst, arith, zero-add, suc-add, suc-mul, eq-or-lt_of_le, ◌⊎◌, inl, inr}
use Rattle.rv_types.specs.Memory.{Code}
use Rattle.rv_types.specs.declared.End.{End}
use Rattle.machine_desc.specs.declared.Desc.{Desc}
use Rattle.machine_desc.specs.Ranges.{IsDesc, bound}
use Rattle.window_model.specs.State.{Machine, opening}
use Rattle.window_model.specs.Retire.{unless_ended}
use Rattle.window_model.specs.Cycle.{cycle, after_cycles, at}
use Rattle.window_model.proofs.Walks.{run_keep}
use Rattle.machine_facts.specs.Sized.{Sized}
use Rattle.machine_facts.specs.Timely.{Timely}
use Rattle.machine_facts.proofs.SizedRun.{sized_cycle, sized_at, memory_stays_cycle, memory_stays_at}
use Rattle.machine_facts.proofs.TimelyRun.{timely_cycle, timely_at}
use Rattle.progress.specs.Measure.{measure}
use Rattle.progress.specs.Laws.{Allows, MeasureIsBounded, RetiresWithinBound, RetiresInBudget}
use Rattle.progress.proofs.Bounds.{measure_at_most, measure_at_least}
use Rattle.progress.proofs.Idle.{cycle_retires}
use Rattle.progress.proofs.Falls.{measure_falls}

module _ (d : Desc) (code : Code) where
  -- ---- cycles one after another

  -- cycles don't lower the number of the retired
  pub run_retires : (k : ℕ) (x : Machine) → x.retired ≤ (after_cycles d code k x).retired
  run_retires k x = run_keep d (λ y. x.retired ≤ y.retired) code (λ y h. let c = cycle_retires d code y in omega arith) k x (omega arith)

  -- a run that has ended stays as it is in further cycles
  ended : (k : ℕ) (x : Machine) (e : End) → x.end ≡ Some e → after_cycles d code k x ≡ x
  ended zero x e h = refl
  ended (suc k) x e h = ap (λ o. unless_ended o x (after_cycles d code k (cycle d code x).machine)) h

  later_by : (n : ℕ) (o : Option End) (x y z : Machine) → x.end ≡ o → z ≡ after_cycles d code n y → unless_ended o x z ≡ after_cycles d code n (unless_ended o x y)
  later_by n None x y z h e = e
  later_by n (Some end) x y z h e = sym (ended n x end h)

  -- the state after k cycles and n more is that after n from where k led
  pub later : (k n : ℕ) (x : Machine) → after_cycles d code (k + n) x ≡ after_cycles d code n (after_cycles d code k x)
  later zero n x = ap (λ j. after_cycles d code j x) (zero-add n)
  later (suc k) n x =
      let y = (cycle d code x).machine in
      ap (λ j. after_cycles d code j x) (suc-add k n) ∙ later_by n x.end x (after_cycles d code k y) (after_cycles d code (k + n) y) refl (later k n y)

  -- a run that hasn't ended after k cycles hadn't before
  pub not_ended : (k : ℕ) (x : Machine) → (after_cycles d code k x).end ≡ None → x.end ≡ None
  not_ended k x p = by_end x.end refl
    where
      by_end : (o : Option End) → x.end ≡ o → o ≡ None
      by_end None h = refl
      by_end (Some e) h = absurd (let q = ended k x e h in cc)

  -- ---- as many cycles as the measure says

  -- more has retired after n cycles, where the run hasn't ended and the measure is at most n
  abbrev RetiresIn : ℕ → Machine → Type 0
  RetiresIn n x = (after_cycles d code n x).end ≡ None → measure d x ≤ n → x.retired < (after_cycles d code n x).retired

  by_end : (o : Option End) (x z : Machine) → x.end ≡ o → (z.end ≡ None → x.retired < z.retired) → (unless_ended o x z).end ≡ None → x.retired < (unless_ended o x z).retired
  by_end None x z h k p = k p
  by_end (Some e) x z h k p = absurd (cc)

  either : (a b c : ℕ) → a ≤ b → b ≤ c → (b ≡ a → b < c) → a < c
  either a b c h k f = by (eq-or-lt_of_le h)
    where
      by : (a ≡ b) ⊎ (a < b) → a < c
      by (inl e) = let g = f (sym e) in omega arith
      by (inr l) = omega arith

  -- more has retired after a cycle and n others: the next cycle retires something, or the measure is smaller behind it
  in_one_more : (n : ℕ) (x : Machine) → IsDesc d → Allows d x.ram → Sized d x → Timely d x → RetiresIn n (cycle d code x).machine → measure d x ≤ suc n →
      (after_cycles d code n (cycle d code x).machine).end ≡ None → x.retired < (after_cycles d code n (cycle d code x).machine).retired
  in_one_more n x i l s t more m q =
      let y = (cycle d code x).machine in
      let e : y.end ≡ None = not_ended n y q in
      either x.retired y.retired (after_cycles d code n y).retired (cycle_retires d code x) (run_retires n y)
      (λ same. more q (let f = measure_falls d code x i l s t e same in omega arith))

  retires_in : (n : ℕ) (x : Machine) → IsDesc d → Allows d x.ram → Sized d x → Timely d x → RetiresIn n x
  retires_in zero x i l s t = λ p m. absurd (let h = measure_at_least d x t in omega arith)
  retires_in (suc n) x i l s t = λ p m.
      let y = (cycle d code x).machine in
      let more = retires_in n y i (λ m. l (sym (memory_stays_cycle d code x i s).misaligned ∙ m)) (sized_cycle d code x i s) (timely_cycle d code x i s t) in
      by_end x.end x (after_cycles d code n y) refl (in_one_more n x i l s t more m) p

-- ---- the laws of runs

pub measure_is_bounded : MeasureIsBounded
measure_is_bounded d code entry ram k i = measure_at_most d (at d code entry ram k) i (timely_at d code entry ram k i)

-- within the bound of cycles something retires, where the run hasn't ended
pub retires_within_bound : RetiresWithinBound
retires_within_bound d code entry ram k i a p =
    let x = at d code entry ram k in
    let l = later d code k (bound d) (opening d entry ram) in
    let r = retires_in d code (bound d) x i (λ m. a (sym (memory_stays_at d code entry ram k i).misaligned ∙ m)) (sized_at d code entry ram k i) (timely_at d code entry ram k i) (ap (λ (m : Machine). m.end) (sym l) ∙ p) (measure_is_bounded d code entry ram k i) in
    subst (λ (m : Machine). x.retired < m.retired) (sym l) r

-- after n times the bound at least n have retired, by the state at n times the bound and that a bound later
pub retires_in_budget : RetiresInBudget
retires_in_budget d code entry ram zero i a p = omega arith
retires_in_budget d code entry ram (suc n) i a p =
    let k = n * bound d in
    let l = later d code k (bound d) (opening d entry ram) in
    let s : suc n * bound d ≡ k + bound d = suc-mul n (bound d) in
    let q : (at d code entry ram (k + bound d)).end ≡ None = ap (λ j. (at d code entry ram j).end) (sym s) ∙ p in
    let e : (at d code entry ram k).end ≡ None = not_ended d code (bound d) (at d code entry ram k) (ap (λ (m : Machine). m.end) (sym l) ∙ q) in
    let before = retires_in_budget d code entry ram n i a e in
    let more = retires_within_bound d code entry ram k i a q in
    rw s (omega arith)
