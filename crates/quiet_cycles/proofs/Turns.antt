-- Retire where nothing happens in it: no head leaves and none traps.
use Rattle.std.proofs.Common.{◌≡◌, ℕ, zero, suc, Bool, true, false, List, [], ◌∷◌, Option, Some, None, refl}
use Rattle.std.specs.Prelude.{if◌then◌else◌}
use Rattle.rv_types.specs.Isa.{Step, Goes, Exits, Traps, call}
use Rattle.rv_types.specs.declared.Cause.{Cause}
use Rattle.rv_types.specs.declared.End.{End}
use Rattle.rv_types.specs.declared.Kind.{Kind}
use Rattle.rv_types.specs.declared.Kind.TheVariants.{Store, Call}
use Rattle.machine_desc.specs.declared.Desc.{Desc}
use Rattle.window_model.specs.declared.Entry.{Entry}
use Rattle.window_model.specs.State.{Machine}
use Rattle.window_model.specs.Order.{is_store}
use Rattle.window_model.specs.Retire.{hart_of, stays, may_leave, trap_of, head_leaves, call_leaves, store_waits, then_retires, unless_ended, turn, head_turn, turns, retire}
use Rattle.window_model.proofs.Calls.{CallDoes, call_does}
use Rattle.window_model.proofs.Walks.{retire_by}
use Rattle.quiet_cycles.specs.Still.{at_cycle}
use Rattle.quiet_cycles.proofs.Nothing.{both_empty}

-- a call that retires has an event, as every head that leaves
call_has_event : (e : Entry) (rest : List Entry) (x : Machine) (t : Step) → CallDoes (hart_of x) t → (call_leaves e rest x t).events ≡ [] → ⊥
call_has_event e rest x (Goes s piece) f h = cc
call_has_event e rest x (Exits v s) f h = cc
call_has_event e rest x (Traps c) f h = f

head_has_event : (k : Kind) (d : Desc) (e : Entry) (rest : List Entry) (x : Machine) → (head_leaves k d e rest x).events ≡ [] → ⊥
head_has_event Store d e rest x h = cc
head_has_event Call d e rest x h = call_has_event e rest x (call (hart_of x)) (call_does (hart_of x)) h
head_has_event _ d e rest x h = cc

-- turns of Retire that have no event and leave the end do nothing in any cycle
module _ (d : Desc) (c : ℕ) where
  by_trap : (n : ℕ) (o : Option Cause) (e : Entry) (rest : List Entry) (x : Machine) → x.end ≡ None → (turn d false o e rest x (turns d n)).events ≡ [] → (turn d false o e rest x (turns d n)).machine.end ≡ x.end →
      turn d false o e rest (at_cycle c x) (turns d n) ≡ stays (at_cycle c x)
  by_trap n (Some cause) e rest x u h k = absurd (cc)
  by_trap n None e rest x u h k = waits_or (store_waits false e) h
    where
      waits_or : (b : Bool) → (if b then stays x else then_retires (head_leaves e.item.kind d e rest x) (turns d n (is_store e.item.kind))).events ≡ [] →
          (if b then stays (at_cycle c x) else then_retires (head_leaves e.item.kind d e rest (at_cycle c x)) (turns d n (is_store e.item.kind))) ≡ stays (at_cycle c x)
      waits_or true h = refl
      waits_or false h = absurd (head_has_event e.item.kind d e rest x (both_empty (head_leaves e.item.kind d e rest x).events _ h).0)

  by_leave : (n : ℕ) (b : Bool) (e : Entry) (rest : List Entry) (x : Machine) → x.end ≡ None → let r = (if b then turn d false (trap_of e) e rest x (turns d n) else stays x) in
      r.events ≡ [] → r.machine.end ≡ x.end → (if b then turn d false (trap_of e) e rest (at_cycle c x) (turns d n) else stays (at_cycle c x)) ≡ stays (at_cycle c x)
  by_leave n true e rest x u h k = by_trap n (trap_of e) e rest x u h k
  by_leave n false e rest x u h k = refl

  by_head : (n : ℕ) (w : List Entry) (x : Machine) → x.end ≡ None → (head_turn d false w x (turns d n)).events ≡ [] → (head_turn d false w x (turns d n)).machine.end ≡ x.end →
      head_turn d false w (at_cycle c x) (turns d n) ≡ stays (at_cycle c x)
  by_head n [] x u h k = refl
  by_head n (e ∷ rest) x u h k = by_leave n (may_leave e) e rest x u h k

  by_end : (n : ℕ) (o : Option End) (x : Machine) → x.end ≡ o → let r = unless_ended o (stays x) (head_turn d false x.window x (turns d n)) in
      r.events ≡ [] → r.machine.end ≡ x.end → unless_ended o (stays (at_cycle c x)) (head_turn d false x.window (at_cycle c x) (turns d n)) ≡ stays (at_cycle c x)
  by_end n None x u h k = by_head n x.window x u h k
  by_end n (Some e) x u h k = refl

  turns_nothing : (n : ℕ) (x : Machine) → (turns d n false x).events ≡ [] → (turns d n false x).machine.end ≡ x.end → turns d n false (at_cycle c x) ≡ stays (at_cycle c x)
  turns_nothing zero x h k = refl
  turns_nothing (suc n) x h k = by_end n x.end x refl h k

  pub retire_nothing : (x : Machine) → (retire d x).events ≡ [] → (retire d x).machine.end ≡ x.end → retire d (at_cycle c x) ≡ stays (at_cycle c x)
  unfolding retire
  retire_nothing x h k = turns_nothing d.core_retire_width x h k

-- a run that has ended stays so in Retire
pub retire_ended : (d : Desc) (x : Machine) (end : End) → x.end ≡ Some end → (retire d x).machine.end ≡ Some end
retire_ended d x end h =
    retire_by d (λ n stored x r. x.end ≡ Some end → r.machine.end ≡ Some end) (λ n stored x s h. h) (λ n stored x e rest u q l t w more h. absurd (cc)) (λ n stored x e rest cause u q l t h. absurd (cc)) x h
