-- Whole runs commit, and keep each state consistent.
use Rattle.std.proofs.Common.{◌≡◌, ℕ, zero, suc, ◌+◌, List, [], ◌∷◌, ◌++◌, Option, Some, None, refl, ap, sym, ◌∙◌, subst, arith}
use Rattle.rv_types.specs.Memory.{Code, Ram}
use Rattle.rv_types.specs.Isa.{Hart, Step, Goes, Exits, Traps, Run, isa, isa_step, run, after, with_piece, start}
use Rattle.rv_types.specs.declared.End.{End}
use Rattle.machine_desc.specs.declared.Desc.{Desc}
use Rattle.window_model.specs.State.{Machine, opening}
use Rattle.window_model.specs.Retire.{hart_of, unless_ended}
use Rattle.window_model.specs.Cycle.{cycle, after_cycles, pieces, at}
use Rattle.committed_state.specs.Consistent.{Consistent}
use Rattle.window_model.specs.Committed.{Aligned, TrapsNext, exit_of}
use Rattle.committed_state.specs.Laws.{RunCommits, RunKeeps}
use Rattle.committed_state.proofs.Steps.{Leads, prepend, from_none}
use Rattle.committed_state.proofs.Cycle.{cycle_does}

abbrev ran : Hart → List (List ℕ) → ℕ → Option End → Run
ran s ps n e = record { last = s; pieces = ps; steps = n; ended = e }

piece_append : (p : List ℕ) (ps qs : List (List ℕ)) → with_piece p (ps ++ qs) ≡ with_piece p ps ++ qs
piece_append [] ps qs = refl
piece_append (b ∷ p) ps qs = refl

module _ (code : Code) where
  -- a run, and another from where it ends
  compose : (m n : ℕ) (s s2 s3 : Hart) (qs ps : List (List ℕ)) (e : Option End) → isa code s m ≡ ran s2 qs m None → isa code s2 n ≡ ran s3 ps n e → isa code s (m + n) ≡ ran s3 (qs ++ ps) (m + n) e
  compose zero n s s2 s3 qs ps e h k =
      let z : zero + n ≡ n = omega arith in
      let same : s ≡ s2 = ap (λ (r : Run). r.last) h in
      let none : [] ≡ qs = ap (λ (r : Run). r.pieces) h in
      rw z (ap (λ t. isa code t n) same ∙ k ∙ ap (λ q. ran s3 (q ++ ps) n e) none)
  compose (suc m) n s s2 s3 qs ps e h k = by_step (isa_step code s) (λ s1 qs1 g. compose m n s1 s2 s3 qs1 ps e g k) refl
    where
      by_step : (t : Step) → ((s1 : Hart) (qs1 : List (List ℕ)) → isa code s1 m ≡ ran s2 qs1 m None → isa code s1 (m + n) ≡ ran s3 (qs1 ++ ps) (m + n) e) → isa_step code s ≡ t → isa code s (suc m + n) ≡ ran s3 (qs ++ ps) (suc m + n) e
      by_step (Goes s1 p) again q =
          let r = isa code s1 m in
          let g = sym (ap (λ t. after s t (run (isa_step code) m)) q) ∙ h in
          let count : r.steps ≡ m = omega (arith, ap (λ (r : Run). r.steps) g) in
          let r1 = ap (λ u. ran r.last r.pieces u r.ended) count ∙ ap (λ u. ran u r.pieces m r.ended) (ap (λ (r : Run). r.last) g) ∙ ap (ran s2 r.pieces m) (ap (λ (r : Run). r.ended) g) in
          let more = again s1 r.pieces r1 in
          let all = prepend code s s1 p (m + n) _ q more in
          let c : suc m + n ≡ suc (m + n) = omega arith in
          rw c (all ∙ ap (λ u. ran s3 u (suc (m + n)) e) (piece_append p r.pieces ps ∙ ap (λ u. u ++ ps) (ap (λ (r : Run). r.pieces) g)))
      by_step (Exits v s1) again q = absurd (let g = ap (λ (r : Run). r.ended) (sym (ap (λ t. after s t (run (isa_step code) m)) q) ∙ h) in cc)
      by_step (Traps c) again q = absurd (let g = ap (λ (r : Run). r.ended) (sym (ap (λ t. after s t (run (isa_step code) m)) q) ∙ h) in cc)

module _ (code : Code) (d : Desc) (aligned : Aligned code) where
  -- a cycle and what follows it commit together
  together : (x y z : Machine) (p : List ℕ) (ps : List (List ℕ)) → y.end ≡ None → Leads code (hart_of x) x.retired y (with_piece p []) → Leads code (hart_of y) y.retired z ps → Leads code (hart_of x) x.retired z (with_piece p ps)
  together x y z p ps n c1 c2 =
      let first = c1.runs ∙ ap (λ o. ran (hart_of y) (with_piece p []) c1.steps (exit_of o)) n in
      let all = compose code c1.steps c2.steps (hart_of x) (hart_of y) (hart_of z) (with_piece p []) ps (exit_of z.end) first c2.runs in
      record {
        steps = c1.steps + c2.steps;
        counted = omega (arith, c1.counted, c2.counted);
        runs = all ∙ ap (λ u. ran (hart_of z) u (c1.steps + c2.steps) (exit_of z.end)) (sym (piece_append p [] ps));
        trap = c2.trap;
      }

  record Goes_well (k : ℕ) (x : Machine) : Type 0 where
    commits : Leads code (hart_of x) x.retired (after_cycles d code k x) (pieces d code k x)
    keeps : Consistent d code (after_cycles d code k x)

  -- a machine that hasn't ended leads to itself in no steps
  at_rest : (x : Machine) → x.end ≡ None → Leads code (hart_of x) x.retired x []
  at_rest x n = record { steps = 0; counted = omega arith; runs = ap (λ o. ran (hart_of x) [] 0 (exit_of o)) (sym n); trap = subst (TrapsNext code (hart_of x)) (sym n) tt }

  ended_run : (k : ℕ) (y : Machine) (e : End) → y.end ≡ Some e → (after_cycles d code k y ≡ y) × (pieces d code k y ≡ [])
  ended_run zero y e h = (refl, refl)
  ended_run (suc k) y e h = (ap (λ o. unless_ended o y (after_cycles d code k (cycle d code y).machine)) h, ap (λ o. unless_ended o [] (with_piece (cycle d code y).piece (pieces d code k (cycle d code y).machine))) h)

  -- what follows a cycle commits, whether or not the cycle ended the run
  after_one : (k : ℕ) (x y : Machine) (p : List ℕ) (o : Option End) → y.end ≡ o → Leads code (hart_of x) x.retired y (with_piece p []) → Consistent d code y → (y.end ≡ None → Goes_well k y) →
      Leads code (hart_of x) x.retired (after_cycles d code k y) (with_piece p (pieces d code k y)) × Consistent d code (after_cycles d code k y)
  after_one k x y p None n c h more = let m = more n in (together x y _ p _ n c m.commits, m.keeps)
  after_one k x y p (Some e) n c h more =
      let r = ended_run k y e n in (
        subst (λ u. Leads code (hart_of x) x.retired u (with_piece p (pieces d code k y))) (sym r.0) (subst (λ ps. Leads code (hart_of x) x.retired y (with_piece p ps)) (sym r.1) c),
        subst (Consistent d code) (sym r.0) h,
      )

  run_from : (k : ℕ) (x : Machine) → Consistent d code x → x.end ≡ None → Goes_well k x
  run_from zero x h n = record { commits = at_rest x n; keeps = h }
  run_from (suc k) x h n =
      let c = cycle d code x in
      let now = cycle_does code d x aligned h n in
      let both = after_one k x c.machine c.piece c.machine.end refl now.0 now.1 (run_from k c.machine now.1) in
      record {
        commits = unended x.end n both.0;
        keeps = subst (λ o. Consistent d code (unless_ended o x (after_cycles d code k c.machine))) (sym n) both.1;
      }
    where
      unended : (o : Option End) → o ≡ None → {z : Machine} {ps : List (List ℕ)} → Leads code (hart_of x) x.retired z ps → Leads code (hart_of x) x.retired (unless_ended o x z) (unless_ended o [] ps)
      unended None q r = r
      unended (Some e) q r = absurd (cc)

-- a run begins in a consistent state
pub consistent_opening : (code : Code) (d : Desc) (entry : ℕ) (ram : Ram) → Consistent d code (opening d entry ram)
consistent_opening code d entry ram = record { entries = tt; items = tt; chain = refl; registers = refl }

-- what a run retires up to any cycle is as many steps of the instruction set
pub run_commits : RunCommits
run_commits d code entry ram k al = from_none code (start entry ram) (at d code entry ram k) (pieces d code k (opening d entry ram)) (run_from code d al k (opening d entry ram) (consistent_opening code d entry ram) refl).commits

-- every state of a run is consistent
pub consistent_at : RunKeeps
consistent_at d code entry ram k al = (run_from code d al k (opening d entry ram) (consistent_opening code d entry ram) refl).keeps
