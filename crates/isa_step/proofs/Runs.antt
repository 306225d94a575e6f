-- How a run goes on from step to step. A program that takes its steps one at a time keeps, beside what it writes, that
-- the rest of the whole run is the run from the state that it is in (`Rest`); what it has put out it adds by `goes_at`.
use Rattle.std.proofs.Common.{◌≡◌, ◌<◌, ◌≤◌, ℕ, suc, ◌+◌, ◌-◌, List, [], Option, Some, None, refl, ap, sym, ◌∙◌, subst, arith}
use Rattle.rv_types.specs.Memory.{Code}
use Rattle.rv_types.specs.Isa.{Hart, Step, Goes, Exits, Traps, Run, isa_step, isa, run, after, run_at_end, with_piece}
use Rattle.rv_types.specs.declared.Cause.{Cause}
use Rattle.rv_types.specs.declared.End.{End}
use Rattle.rv_types.specs.declared.End.TheVariants.{Exit as EndExit, Trap as EndTrap}
use Rattle.isa_step.specs.declared.stepped.Stepped.TheVariants.{Next, Exit, Trap}
use Rattle.isa_step.specs.Outcome.{outcome}

-- ---- A step by its outcome

-- a step whose outcome is to go on leads to that state, with that piece
pub goes : (s s' : Hart) (p : List ℕ) (step : Step) → record { hart = s'; piece = p; stepped = Next } ≡ outcome s step → step ≡ Goes s' p
goes s s' p (Goes t q) e = let a = ap (λ o. o.hart) e in let b = ap (λ o. o.piece) e in cc
goes s s' p (Exits v t) e = let a = ap (λ o. o.stepped) e in absurd (cc)
goes s s' p (Traps cause) e = let a = ap (λ o. o.stepped) e in absurd (cc)

-- a step whose outcome is an exit ends the run with that value and state, and puts nothing out
pub exits : (s s' : Hart) (p : List ℕ) (v : ℕ) (step : Step) → record { hart = s'; piece = p; stepped = Exit v } ≡ outcome s step → (step ≡ Exits v s') × (p ≡ [])
exits s s' p v (Goes t q) e = let a = ap (λ o. o.stepped) e in absurd (cc)
exits s s' p v (Exits w t) e = let a = ap (λ o. o.stepped) e in let b = ap (λ o. o.hart) e in (cc, ap (λ o. o.piece) e)
exits s s' p v (Traps cause) e = let a = ap (λ o. o.stepped) e in absurd (cc)

-- a step whose outcome is a trap leaves the state, and puts nothing out
pub traps : (s s' : Hart) (p : List ℕ) (c : Cause) (step : Step) → record { hart = s'; piece = p; stepped = Trap c } ≡ outcome s step → (step ≡ Traps c) × (s' ≡ s) × (p ≡ [])
traps s s' p c (Goes t q) e = let a = ap (λ o. o.stepped) e in absurd (cc)
traps s s' p c (Exits w t) e = let a = ap (λ o. o.stepped) e in absurd (cc)
traps s s' p c (Traps d) e = let a = ap (λ o. o.stepped) e in (cc, ap (λ o. o.hart) e, ap (λ o. o.piece) e)

-- ---- A run by the outcome of its first step

-- a step that goes on, and the rest of the run
pub run_goes : (code : Code) (s s' : Hart) (p : List ℕ) (n : ℕ) → record { hart = s'; piece = p; stepped = Next } ≡ outcome s (isa_step code s)
    → isa code s (suc n) ≡ (let r = isa code s' n in record r { pieces = with_piece p r.pieces; steps = r.steps + 1 })
run_goes code s s' p n e = ap (λ x. after s x (run (isa_step code) n)) (goes s s' p (isa_step code s) e)

-- an exit counts, and ends the run
pub run_exits : (code : Code) (s s' : Hart) (p : List ℕ) (v n : ℕ) → record { hart = s'; piece = p; stepped = Exit v } ≡ outcome s (isa_step code s)
    → isa code s (suc n) ≡ run_at_end s' 1 (Some (EndExit v))
run_exits code s s' p v n e = ap (λ x. after s x (run (isa_step code) n)) ((exits s s' p v (isa_step code s) e).0)

-- a trap doesn't count, and ends the run where it is
pub run_traps : (code : Code) (s s' : Hart) (p : List ℕ) (c : Cause) (n : ℕ) → record { hart = s'; piece = p; stepped = Trap c } ≡ outcome s (isa_step code s)
    → isa code s (suc n) ≡ run_at_end s' 0 (Some (EndTrap c s'.pc))
run_traps code s s' p c n e =
    let t = traps s s' p c (isa_step code s) e in
    let P : Hart → Type 0 = λ h. isa code s (suc n) ≡ run_at_end h 0 (Some (EndTrap c h.pc)) in
    subst P (sym t.1) (ap (λ x. after s x (run (isa_step code) n)) t.0)

-- ---- What a step leads to in a loop of n steps, behind i of them

left : (n i : ℕ) → i < n → n - i ≡ suc (n - (i + 1))
left n i h = omega arith

pub goes_at : (code : Code) (s s' : Hart) (p : List ℕ) (n i : ℕ) → i < n → record { hart = s'; piece = p; stepped = Next } ≡ outcome s (isa_step code s)
    → isa code s (n - i) ≡ (let r = isa code s' (n - (i + 1)) in record r { pieces = with_piece p r.pieces; steps = r.steps + 1 })
goes_at code s s' p n i h e = ap (isa code s) (left n i h) ∙ run_goes code s s' p (n - (i + 1)) e

pub exits_at : (code : Code) (s s' : Hart) (p : List ℕ) (v n i : ℕ) → i < n → record { hart = s'; piece = p; stepped = Exit v } ≡ outcome s (isa_step code s)
    → isa code s (n - i) ≡ run_at_end s' 1 (Some (EndExit v))
exits_at code s s' p v n i h e = ap (isa code s) (left n i h) ∙ run_exits code s s' p v (n - (i + 1)) e

pub traps_at : (code : Code) (s s' : Hart) (p : List ℕ) (c : Cause) (n i : ℕ) → i < n → record { hart = s'; piece = p; stepped = Trap c } ≡ outcome s (isa_step code s)
    → isa code s (n - i) ≡ run_at_end s' 0 (Some (EndTrap c s'.pc))
traps_at code s s' p c n i h e = ap (isa code s) (left n i h) ∙ run_traps code s s' p c (n - (i + 1)) e

-- a run of which all steps are taken stops where it is, without an end
pub ends_at : (code : Code) (s : Hart) (n i : ℕ) → n ≤ i → isa code s (n - i) ≡ run_at_end s 0 None
ends_at code s n i h = let e : n - i ≡ 0 = omega arith in ap (isa code s) e

-- ---- What is left of a run, behind so many steps of the whole

-- the rest of a run leads to the last state, count of steps and end of the whole, behind so many steps
pub record Rest (whole rest : Run) (done : ℕ) : Type 0 where
  pub last : rest.last ≡ whole.last
  pub steps : done + rest.steps ≡ whole.steps
  pub ended : rest.ended ≡ whole.ended

-- the run came to this state after so many steps, and to this end
pub record RanAs (whole : Run) (last : Hart) (taken : ℕ) (ended : Option End) : Type 0 where
  pub last_is : last ≡ whole.last
  pub taken_is : taken ≡ whole.steps
  pub ended_is : ended ≡ whole.ended

pub at_start : (code : Code) (s : Hart) (n : ℕ) → Rest (isa code s n) (isa code s (n - 0)) 0
at_start code s n =
    let e : n - 0 ≡ n = omega arith in
    rw e (record { last = refl; steps = omega arith; ended = refl })

pub at_next : (code : Code) (s s' : Hart) (p : List ℕ) (whole : Run) (n i : ℕ) → i < n → record { hart = s'; piece = p; stepped = Next } ≡ outcome s (isa_step code s)
    → Rest whole (isa code s (n - i)) i → Rest whole (isa code s' (n - (i + 1))) (i + 1)
at_next code s s' p whole n i h e r =
    let P : Run → Type 0 = λ x. Rest whole x i in
    let q = subst P (goes_at code s s' p n i h e) r in
    record { last = q.last; steps = omega (arith, q.steps); ended = q.ended }

pub at_exit : (code : Code) (s s' : Hart) (p : List ℕ) (v : ℕ) (whole : Run) (n i : ℕ) → i < n → record { hart = s'; piece = p; stepped = Exit v } ≡ outcome s (isa_step code s)
    → Rest whole (isa code s (n - i)) i → RanAs whole s' (i + 1) (Some (EndExit v))
at_exit code s s' p v whole n i h e r =
    let P : Run → Type 0 = λ x. Rest whole x i in
    let q = subst P (exits_at code s s' p v n i h e) r in
    record { last_is = q.last; taken_is = q.steps; ended_is = q.ended }

pub at_trap : (code : Code) (s s' : Hart) (p : List ℕ) (c : Cause) (whole : Run) (n i : ℕ) → i < n → record { hart = s'; piece = p; stepped = Trap c } ≡ outcome s (isa_step code s)
    → Rest whole (isa code s (n - i)) i → RanAs whole s' i (Some (EndTrap c s'.pc))
at_trap code s s' p c whole n i h e r =
    let P : Run → Type 0 = λ x. Rest whole x i in
    let q = subst P (traps_at code s s' p c n i h e) r in
    record { last_is = q.last; taken_is = omega (arith, q.steps); ended_is = q.ended }

pub at_end : (code : Code) (s : Hart) (whole : Run) (n i : ℕ) → i ≤ n → n ≤ i → Rest whole (isa code s (n - i)) i → RanAs whole s n None
at_end code s whole n i a b r =
    let P : Run → Type 0 = λ x. Rest whole x i in
    let q = subst P (ends_at code s n i b) r in
    record { last_is = q.last; taken_is = omega (arith, q.steps); ended_is = q.ended }
