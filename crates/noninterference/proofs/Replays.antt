-- Outcomes of two runs: what equal effects, addresses or bytes make equal of them.
use Rattle.std.proofs.Common.{◌≡◌, ℕ, Bool, true, false, List, Option, Some, None, refl, ap, sym, ◌∙◌, subst}
use Rattle.std.specs.Prelude.{is_some}
use Rattle.std.specs.Option.{unwrap_or, option_map}
use Rattle.rv_types.specs.Isa.{Effect}
use Rattle.rv_types.specs.Causes.{load_misaligned, load_outside, store_misaligned, store_outside}
use Rattle.rv_types.specs.Memory.{Ram}
use Rattle.rv_types.specs.declared.Cause.{Cause}
use Rattle.rv_types.specs.declared.Instr.{Instr}
use Rattle.rv_types.specs.declared.Kind.{Kind}
use Rattle.rv_types.specs.declared.Kind.TheVariants.{Load, Store}
use Rattle.machine_desc.specs.declared.SttModel.{SttModel}
use Rattle.window_model.specs.declared.Entry.{Entry}
use Rattle.window_model.specs.declared.Outcome.{Outcome}
use Rattle.window_model.specs.Order.{has_address, has_data, is_load, is_store, fault_of}
use Rattle.window_model.specs.Retire.{addr_of, width_in}
use Rattle.window_model.specs.Taint.{visible, any_tainted, address_tainted}
use Rattle.window_model.specs.Shape.{SameShape}
use Rattle.window_model.proofs.Memory.{same_fault}
use Rattle.window_model.specs.MayIssue.{effect_of}
use Rattle.committed_state.specs.Computed.{Bank, ComesTo, as_known, as_known_by, bytes_over, outcome_behind, known_of, outcome_as}
use Rattle.committed_state.proofs.Computed.{outcome_same}
use Rattle.noninterference.specs.Outcomes.{but_value, SameOutcome}

-- what is equal of what two outcomes come to is equal of the outcomes, where there are both or none
by_outcomes : {A : Type 0} (g : Outcome → A) (o o2 : Option Outcome) (v v2 : Outcome) → is_some o ≡ is_some o2 → ComesTo o v → ComesTo o2 v2 → (is_some o ≡ true → g v ≡ g v2) → option_map g o ≡ option_map g o2
by_outcomes g None None v v2 h r r2 p = refl
by_outcomes g (Some o) (Some o2) v v2 h r r2 p = ap (λ o. Some (g o)) r ∙ ap Some (p refl) ∙ ap (λ o. Some (g o)) (sym r2)
by_outcomes g _ _ v v2 h r r2 p = absurd (cc)

-- two outcomes are equal where what they come to is, and there are both or none
pub same_outcome : (o o2 : Option Outcome) (v v2 : Outcome) → is_some o ≡ is_some o2 → ComesTo o v → ComesTo o2 v2 → (is_some o ≡ true → v ≡ v2) → o ≡ o2
same_outcome None None v v2 h r r2 p = refl
same_outcome (Some o) (Some o2) v v2 h r r2 p = ap Some (r ∙ p refl ∙ sym r2)
same_outcome _ _ v v2 h r r2 p = absurd (cc)

-- the address and fault of an outcome
part : Outcome → ℕ × Option Cause
part o = (o.addr, o.fault)

from_part : (o o2 : Option Outcome) → option_map part o ≡ option_map part o2 → (addr_of o ≡ addr_of o2) × (fault_of o ≡ fault_of o2)
unfolding part
from_part None None h = (refl, refl)
from_part (Some o) (Some o2) h =
    let pick : Option (ℕ × Option Cause) → ℕ × Option Cause = λ q. unwrap_or q (0, None) in
    (ap (λ q. (pick q).0) h, ap (λ q. (pick q).1) h)
from_part _ _ h = absurd (cc)

-- over memories of one place equal effects make equal a load's outcome but its value, and equal addresses a store's
-- address and fault
module _ (ram ram2 : Ram) (p : SameShape ram ram2) (i : Instr) where
  load_but_value : (f f2 : Effect) (bytes bytes2 : List ℕ) → f ≡ f2 → but_value (outcome_as Load ram i f bytes) ≡ but_value (outcome_as Load ram2 i f2 bytes2)
  load_but_value f f2 bytes bytes2 q = let c = sym (same_fault load_misaligned load_outside ram ram2 f2.addr (width_in i) p) in cc

  store_part : (f f2 : Effect) (bytes bytes2 : List ℕ) → f.addr ≡ f2.addr → part (outcome_as Store ram i f bytes) ≡ part (outcome_as Store ram2 i f2 bytes2)
  unfolding part
  store_part f f2 bytes bytes2 q = let c = sym (same_fault store_misaligned store_outside ram ram2 f2.addr (width_in i) p) in cc

-- what is known of two outcomes has equal addresses and faults where the outcomes have
known_part : (address datum : Bool) (v v2 : Outcome) → part v ≡ part v2 → part (known_of address datum v) ≡ part (known_of address datum v2)
unfolding part
known_part true datum v v2 h = h
known_part false datum v v2 h = refl

-- ---- entries of every kind

-- two entries of one instruction that have issued both or neither, each behind its older ones: what makes their
-- outcomes equal where they may be looked at
module _ (model : SttModel) (s s2 : Bank) (b b2 : List Entry) (e e2 : Entry) (p : SameShape s.ram s2.ram) (o : is_some e.outcome ≡ is_some e2.outcome)
    (c : ComesTo e.outcome (as_known e (outcome_behind s b e))) (c2 : ComesTo e2.outcome (as_known e (outcome_behind s2 b2 e)))
    (seen : is_load e.item.kind ≡ true → visible model b ≡ true → e.outcome ≡ e2.outcome)
    (clean : is_load e.item.kind ≡ true → is_some e.outcome ≡ true → any_tainted model b e ≡ false)
    (effects : any_tainted model b e ≡ false → effect_of s.regs b e ≡ effect_of s2.regs b2 e)
    (addresses : is_store e.item.kind ≡ true → address_tainted model b e ≡ false → (effect_of s.regs b e).addr ≡ (effect_of s2.regs b2 e).addr) where
  abbrev F : Bank → List Entry → Effect
  F s b = effect_of s.regs b e

  abbrev Found : Bank → List Entry → List ℕ
  Found s b = bytes_over s b e (F s b).addr

  abbrev As : Kind → Bank → List Entry → Outcome
  As k s b = outcome_as k s.ram e.item.instr (F s b) (Found s b)

  -- what the entry computes over these registers and memory, as far as it is known
  abbrev KnownAs : Kind → Bank → List Entry → Outcome
  KnownAs k s b = as_known_by k (has_address e) (has_data e) (As k s b)

  -- what is equal of what they compute, as far as it is known, is equal of their outcomes
  by_kind : {A : Type 0} (g : Outcome → A) (k : Kind) → e.item.kind ≡ k → (is_some e.outcome ≡ true → g (KnownAs k s b) ≡ g (KnownAs k s2 b2)) → option_map g e.outcome ≡ option_map g e2.outcome
  by_kind g k q m = by_outcomes g e.outcome e2.outcome _ _ o c c2 (λ i. subst (λ k. g (KnownAs k s b) ≡ g (KnownAs k s2 b2)) (sym q) (m i))

  -- what is no load has one outcome where no operand is tainted
  other : (k : Kind) → e.item.kind ≡ k → is_load k ≡ false → any_tainted model b e ≡ false → e.outcome ≡ e2.outcome
  other k q n t =
      same_outcome e.outcome e2.outcome _ _ o c c2
      (λ i. ap (as_known e) (sym (outcome_same s.ram s2.ram e.item.instr p e.item.kind (F s b) (F s2 b2) (Found s b) (Found s2 b2) (sym (effects t)) (λ l f. absurd (let z = sym l ∙ ap is_load q ∙ n in cc)))))

  entry_as : (k : Kind) → e.item.kind ≡ k → SameOutcome k model b e e2
  entry_as Load q = (by_kind but_value Load q (λ i. load_but_value s.ram s2.ram p e.item.instr (F s b) (F s2 b2) (Found s b) (Found s2 b2) (effects (clean (ap is_load q) i))), seen (ap is_load q))
  entry_as Store q = (λ t. from_part e.outcome e2.outcome (by_kind part Store q (λ i. known_part (has_address e) (has_data e) (As Store s b) (As Store s2 b2) (store_part s.ram s2.ram p e.item.instr (F s b) (F s2 b2) (Found s b) (Found s2 b2) (addresses (ap is_store q) t)))), other Store q refl)
  entry_as k q = other k q refl

  -- the outcomes of an entry in both runs are equal where they may be looked at
  pub entry_same : SameOutcome e.item.kind model b e e2
  entry_same = entry_as e.item.kind refl
