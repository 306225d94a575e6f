-- Turns of retiring, by what is found at the head.
use Rattle.std.proofs.Common.{◌≡◌, ℕ, zero, suc, Bool, true, false, ◌||◌, List, [], ◌∷◌, Option, Some, None, refl, ap, sym, ◌∙◌, subst}
use Rattle.std.specs.Prelude.{if◌then◌else◌}
use Rattle.rv_types.specs.declared.Cause.{Cause}
use Rattle.rv_types.specs.declared.End.{End}
use Rattle.rv_types.specs.declared.End.TheVariants.{Trap}
use Rattle.machine_desc.specs.declared.Desc.{Desc}
use Rattle.window_model.specs.declared.Entry.{Entry}
use Rattle.window_model.specs.State.{Machine}
use Rattle.window_model.specs.Order.{is_store}
use Rattle.window_model.specs.Retire.{Retired, turns, turn, head_turn, head_leaves, then_retires, stays, unless_ended, may_leave, store_waits, trap_of}
use Rattle.window_model.proofs.Leaving.{is_cleared}
use Rattle.retire.specs.declared.turn.Turn.TheVariants.{Waits, Traps, Leaves}
use Rattle.retire.specs.Turn.{Goes, turn_at, turn_by}

-- once the run has ended no turn follows
pub ended : (d : Desc) (n : ℕ) (stored : Bool) (x : Machine) (e : End) → x.end ≡ Some e → turns d n stored x ≡ stays x
ended d zero stored x e h = refl
ended d (suc n) stored x e h = ap (λ o. unless_ended o (stays x) (head_turn d stored x.window x (turns d n))) h

-- the first of some turns, of a machine that hasn't ended, is one of its head
running : (d : Desc) (n : ℕ) (stored : Bool) (x : Machine) → x.end ≡ None → turns d (suc n) stored x ≡ head_turn d stored x.window x (turns d n)
running d n stored x h = ap (λ o. unless_ended o (stays x) (head_turn d stored x.window x (turns d n))) h

module _ (d : Desc) (stored : Bool) (x : Machine) (more : Bool → Machine → Retired) where
  -- ---- a turn whose head waits

  waits_if : (e : Entry) (rest : List Entry) (b : Bool) → (if b then Waits else Leaves) ≡ Waits →
      (if b then stays x else then_retires (head_leaves e.item.kind d e rest x) (more (stored || is_store e.item.kind))) ≡ stays x
  waits_if e rest true h = refl
  waits_if e rest false h = absurd (cc)

  waits_by : (e : Entry) (rest : List Entry) (o : Option Cause) → turn_by stored o e ≡ Waits → turn d stored o e rest x more ≡ stays x
  waits_by e rest (Some cause) h = absurd (cc)
  waits_by e rest None h = waits_if e rest (store_waits stored e) h

  waits_head : (e : Entry) (rest : List Entry) (b : Bool) → (if b then turn_by stored (trap_of e) e else Waits) ≡ Waits →
      (if b then turn d stored (trap_of e) e rest x more else stays x) ≡ stays x
  waits_head e rest true h = waits_by e rest (trap_of e) h
  waits_head e rest false h = refl

  waits_in : (w : List Entry) → turn_at stored w ≡ Waits → head_turn d stored w x more ≡ stays x
  waits_in [] h = refl
  waits_in (e ∷ rest) h = waits_head e rest (may_leave e) h

  -- ---- a turn whose head traps

  traps_if : (e : Entry) (b : Bool) (cause : Cause) (pc : ℕ) → (if b then Waits else Leaves) ≡ Traps cause pc → ⊥
  traps_if e true cause pc h = cc
  traps_if e false cause pc h = cc

  traps_by : (e : Entry) (rest : List Entry) (o : Option Cause) (cause : Cause) (pc : ℕ) → turn_by stored o e ≡ Traps cause pc →
      turn d stored o e rest x more ≡ stays (record x { end = Some (Trap cause pc) })
  traps_by e rest (Some c) cause pc h =
      let p : c ≡ cause = cc in
      let q : e.item.pc ≡ pc = cc in
      ap (λ c. stays (record x { end = Some (Trap c e.item.pc) })) p ∙ ap (λ pc. stays (record x { end = Some (Trap cause pc) })) q
  traps_by e rest None cause pc h = absurd (traps_if e (store_waits stored e) cause pc h)

  traps_head : (e : Entry) (rest : List Entry) (b : Bool) (cause : Cause) (pc : ℕ) → (if b then turn_by stored (trap_of e) e else Waits) ≡ Traps cause pc →
      (if b then turn d stored (trap_of e) e rest x more else stays x) ≡ stays (record x { end = Some (Trap cause pc) })
  traps_head e rest true cause pc h = traps_by e rest (trap_of e) cause pc h
  traps_head e rest false cause pc h = absurd (cc)

  traps_in : (w : List Entry) (cause : Cause) (pc : ℕ) → turn_at stored w ≡ Traps cause pc → head_turn d stored w x more ≡ stays (record x { end = Some (Trap cause pc) })
  traps_in [] cause pc h = absurd (cc)
  traps_in (e ∷ rest) cause pc h = traps_head e rest (may_leave e) cause pc h

  -- ---- a turn whose head retires

  leaves_if : (e : Entry) (rest : List Entry) (b : Bool) → (if b then Waits else Leaves) ≡ Leaves →
      (if b then stays x else then_retires (head_leaves e.item.kind d e rest x) (more (stored || is_store e.item.kind)))
      ≡ then_retires (head_leaves e.item.kind d e rest x) (more (stored || is_store e.item.kind))
  leaves_if e rest true h = absurd (cc)
  leaves_if e rest false h = refl

  leaves_by : (e : Entry) (rest : List Entry) (o : Option Cause) → turn_by stored o e ≡ Leaves →
      turn d stored o e rest x more ≡ then_retires (head_leaves e.item.kind d e rest x) (more (stored || is_store e.item.kind))
  leaves_by e rest (Some c) h = absurd (cc)
  leaves_by e rest None h = leaves_if e rest (store_waits stored e) h

  leaves_head : (e : Entry) (rest : List Entry) (b : Bool) → (if b then turn_by stored (trap_of e) e else Waits) ≡ Leaves →
      (if b then turn d stored (trap_of e) e rest x more else stays x) ≡ then_retires (head_leaves e.item.kind d e rest x) (more (stored || is_store e.item.kind))
  leaves_head e rest true h = leaves_by e rest (trap_of e) h
  leaves_head e rest false h = absurd (cc)

-- ---- n turns, by the first one's head

pub waits : (d : Desc) (n : ℕ) (stored : Bool) (x : Machine) → x.end ≡ None → turn_at stored x.window ≡ Waits → turns d n stored x ≡ stays x
waits d zero stored x h t = refl
waits d (suc n) stored x h t = running d n stored x h ∙ waits_in d stored x (turns d n) x.window t

pub traps : (d : Desc) (n : ℕ) (stored : Bool) (x : Machine) (cause : Cause) (pc : ℕ) → x.end ≡ None → turn_at stored x.window ≡ Traps cause pc → turns d (suc n) stored x ≡ stays (record x { end = Some (Trap cause pc) })
traps d n stored x cause pc h t = running d n stored x h ∙ traps_in d stored x (turns d n) x.window cause pc t

pub leaves : (d : Desc) (n : ℕ) (stored : Bool) (x : Machine) (head : Entry) (rest : List Entry) → x.end ≡ None → turn_at stored x.window ≡ Leaves → x.window ≡ head ∷ rest →
    turns d (suc n) stored x ≡ then_retires (head_leaves head.item.kind d head rest x) (turns d n (stored || is_store head.item.kind))
leaves d n stored x head rest h t w =
    running d n stored x h
    ∙ ap (λ w. head_turn d stored w x (turns d n)) w
    ∙ leaves_head d stored x (turns d n) head rest (may_leave head) (sym (ap (turn_at stored) w) ∙ t)

-- ---- the head that retires

-- a head that retires: it is the oldest, may leave, doesn't trap, and is cleared if it is a store
pub record Head (head : Entry) (w : List Entry) : Type 0 where
  pub first : (rest : List Entry) × (w ≡ head ∷ rest)
  pub may : may_leave head ≡ true
  pub goes : trap_of head ≡ None
  pub cleared : is_store head.item.kind ≡ true → head.cleared ≡ true

no_trap : (stored : Bool) (e : Entry) (o : Option Cause) → turn_by stored o e ≡ Leaves → o ≡ None
no_trap stored e (Some c) h = absurd (cc)
no_trap stored e None h = refl

no_wait : (stored : Bool) (e : Entry) (o : Option Cause) → turn_by stored o e ≡ Leaves → store_waits stored e ≡ false
no_wait stored e (Some c) h = absurd (cc)
no_wait stored e None h = by_test (store_waits stored e) h
  where
    by_test : (b : Bool) → (if b then Waits else Leaves) ≡ Leaves → b ≡ false
    by_test true h = absurd (cc)
    by_test false h = refl

head_of : (stored : Bool) (e : Entry) (rest : List Entry) (b : Bool) → may_leave e ≡ b → (if b then turn_by stored (trap_of e) e else Waits) ≡ Leaves → Head e (e ∷ rest)
head_of stored e rest false l h = absurd (cc)
head_of stored e rest true l h = record { first = (rest, refl); may = l; goes = no_trap stored e (trap_of e) h; cleared = is_cleared stored e (no_wait stored e (trap_of e) h) }

pub head_at : (stored : Bool) (w : List Entry) (head : Entry) → Goes stored w head → Head head w
head_at stored [] head g = let h = g.head in absurd (cc)
head_at stored (e ∷ rest) head g =
    let h = g.head in
    let p : e ≡ head = cc in
    subst (λ head. Head head (e ∷ rest)) p (head_of stored e rest (may_leave e) refl g.turn)
