-- A cycle in which nothing retires and the run doesn't end: Retire changes nothing, and the oldest entry may not go.
use Rattle.std.proofs.Common.{◌≡◌, ℕ, ◌+◌, ◌≤◌, Bool, false, not, ◌&&◌, List, [], ◌∷◌, None, refl, ap, sym, ◌∙◌, subst, arith}
use Rattle.rv_types.specs.Isa.{Step, Goes, Exits, Traps, call}
use Rattle.rv_types.specs.declared.Kind.{Kind}
use Rattle.rv_types.specs.declared.Kind.TheVariants.{Store, Call}
use Rattle.machine_desc.specs.declared.Desc.{Desc}
use Rattle.window_model.specs.declared.Entry.{Entry}
use Rattle.window_model.specs.State.{Machine}
use Rattle.window_model.specs.Retire.{Retired, hart_of, stays, may_leave, store_waits, head_leaves, call_leaves, retire}
use Rattle.window_model.proofs.Calls.{CallDoes, call_does}
use Rattle.window_model.proofs.Walks.{Halts, NoTurn, HasEnded, NoHead, HeadStays, StoreWaits, retire_by}
use Rattle.window_model.proofs.Booleans.{and_not}

-- the entry may leave as the first of a cycle, and doesn't wait as a store
abbrev pub may_go : Entry → Bool
may_go e = may_leave e && not (store_waits false e)

-- there is no entry, or the oldest may not go
abbrev pub Stuck : List Entry → Type 0
Stuck [] = Unit {0}
Stuck (e ∷ es) = may_go e ≡ false

-- n turns of Retire lower no count; and where there is a first turn, and nothing has retired or ended, nothing changed
-- and the oldest may not go
pub record Turned (n : ℕ) (stored : Bool) (x : Machine) (r : Retired) : Type 0 where
  pub retired : x.retired ≤ r.machine.retired
  pub stops : 1 ≤ n → stored ≡ false → r.machine.end ≡ None → r.machine.retired ≡ x.retired → (r.machine ≡ x) × Stuck x.window

-- a call that leaves is one more retired
call_retires : (e : Entry) (rest : List Entry) (x : Machine) (s : Step) → CallDoes (hart_of x) s → (call_leaves e rest x s).machine.retired ≡ x.retired + 1
call_retires e rest x (Goes s piece) c = refl
call_retires e rest x (Exits v s) c = refl
call_retires e rest x (Traps cause) c = absurd c

-- a head of any kind that leaves is one more retired
head_retires : (k : Kind) (d : Desc) (e : Entry) (rest : List Entry) (x : Machine) → (head_leaves k d e rest x).machine.retired ≡ x.retired + 1
head_retires Call d e rest x = call_retires e rest x (call (hart_of x)) (call_does (hart_of x))
head_retires Store d e rest x = refl
head_retires _ d e rest x = refl

-- where no turn follows, no fewer have retired, whatever the reason is
halted : (n : ℕ) (stored : Bool) (x : Machine) → Halts n stored x → Turned n stored x (stays x)
halted n stored x (NoTurn q) = record { retired = omega arith; stops = λ l. absurd (omega arith) }
halted n stored x (HasEnded e q) = record { retired = omega arith; stops = λ l s u. absurd (cc) }
halted n stored x (NoHead q) = record { retired = omega arith; stops = λ l s u r. (refl, subst Stuck (sym q) tt) }
halted n stored x (HeadStays e rest q l) = record { retired = omega arith; stops = λ m s u r. (refl, subst Stuck (sym q) (ap (λ b. b && not (store_waits false e)) l)) }
halted n stored x (StoreWaits e rest q w) = record { retired = omega arith; stops = λ m s u r. (refl, subst Stuck (sym q) (and_not (may_leave e) (store_waits false e) (sym (ap (λ b. store_waits b e) s) ∙ w))) }

pub retire_turned : (d : Desc) (x : Machine) → Turned d.core_retire_width false x (retire d x)
retire_turned d =
    retire_by d Turned halted
    (λ n stored x e rest u q l t w more.
    let h = head_retires e.item.kind d e rest x in
    let m = more.retired in
    record { retired = omega arith; stops = λ l s u r. absurd (omega arith) })
    (λ n stored x e rest cause u q l t. record { retired = omega arith; stops = λ l s u. absurd (cc) })
