-- Each slot of a cycle has one reason, and so has each of a run.
use Rattle.std.proofs.Common.{◌≡◌, ℕ, zero, suc, ◌+◌, ◌*◌, ◌≤◌, List, [], ◌∷◌, length, Option, Some, None, refl, ap, ap₂, sym, ◌∙◌, arith, mul-suc}
use Rattle.rv_types.specs.Memory.{Code}
use Rattle.rv_types.specs.declared.End.{End}
use Rattle.machine_desc.specs.declared.Desc.{Desc}
use Rattle.window_model.specs.State.{Machine}
use Rattle.window_model.specs.Retire.{retire, unless_ended}
use Rattle.window_model.specs.Cycle.{cycle, rows}
use Rattle.window_model.proofs.Quiet.{at_retire, after_quiet, before_quiet, cycle_is}
use Rattle.machine_facts.proofs.Adds.{retire_turns}
use Rattle.slot_reasons.specs.declared.Reason.{Reason}
use Rattle.slot_reasons.specs.declared.Reason.TheVariants.{FrontEnd, Room, Misprediction, Violation, Call, Simple, Multiplier, Divider, Store, LoadFirst, LoadSecond, LoadMemory, Registers, Resolve, Clear, StorePort, Defence, End as EndReason}
use Rattle.slot_reasons.specs.declared.Known.{Known}
use Rattle.slot_reasons.specs.Slots.{Charge, charge_of, charges_of, known_after, rows_of, seen, slot_names, slots_in, slots_of}
use Rattle.slot_reasons.specs.Laws.{sum_of}

-- ---- One cycle

-- the slots of these names in a cycle
abbrev in_all : List (List ℕ) → Charge → ℕ
in_all [] c = 0
in_all (name ∷ rest) c = slots_in name c + in_all rest c

-- what is counted of so many slots in which something retired, and so many that are empty for a reason
abbrev sum_by : Reason → ℕ → ℕ → ℕ
sum_by r a b = in_all slot_names (record { retired = a; empty = b; reason = r })

one_reason : (r : Reason) (a b : ℕ) → sum_by r a b ≡ a + b
unfolding slot_names
one_reason FrontEnd a b = omega arith
one_reason Room a b = omega arith
one_reason Misprediction a b = omega arith
one_reason Violation a b = omega arith
one_reason Call a b = omega arith
one_reason Simple a b = omega arith
one_reason Multiplier a b = omega arith
one_reason Divider a b = omega arith
one_reason Store a b = omega arith
one_reason LoadFirst a b = omega arith
one_reason LoadSecond a b = omega arith
one_reason LoadMemory a b = omega arith
one_reason Registers a b = omega arith
one_reason Resolve a b = omega arith
one_reason Clear a b = omega arith
one_reason StorePort a b = omega arith
one_reason Defence a b = omega arith
one_reason EndReason a b = omega arith

swapped : (a b : ℕ) → a + b ≡ b + a
swapped a b = omega arith

-- a cycle before others
sum_more : (names : List (List ℕ)) (c : Charge) (cs : List Charge) → sum_of names (c ∷ cs) ≡ in_all names c + sum_of names cs
sum_more [] c cs = refl
sum_more (name ∷ rest) c cs =
    let more : sum_of rest (c ∷ cs) ≡ in_all rest c + sum_of rest cs = sum_more rest c cs in
    let a = slots_in name c in
    let b = slots_of name cs in
    omega (arith, more)

-- no cycle has a slot
no_slots : (names : List (List ℕ)) → sum_of names [] ≡ 0
no_slots [] = refl
no_slots (name ∷ rest) = let none : sum_of rest [] ≡ 0 = no_slots rest in omega (arith, none)

-- ---- What retires in a cycle

-- no more retire in a cycle than the description says
pub few_retire : (d : Desc) (code : Code) (x : Machine) → (cycle d code x).machine.retired ≤ x.retired + d.core_retire_width
few_retire d code x =
    let y = at_retire d x in
    let z = (retire d y).machine in
    let before : y.retired ≡ x.retired = (before_quiet d x).retired in
    let turns : z.retired ≤ y.retired + d.core_retire_width = (retire_turns d y).retired in
    let after : (cycle d code x).machine.retired ≡ z.retired = ap (λ (m : Machine). m.retired) (cycle_is d code x) ∙ (after_quiet d code z).retired in
    omega (arith, before, turns, after)

-- ---- A run

module _ (d : Desc) (code : Code) where
  abbrev Whole : ℕ → Machine → Known → Type 0
  Whole n x known = sum_of slot_names (charges_of (seen d code n x known)) ≡ d.core_retire_width * length (rows d code n x)

  whole_next : (n : ℕ) (x : Machine) (known : Known) (o : Option End) → ((y : Machine) (k : Known) → Whole n y k) →
      (let c = cycle d code x in
      sum_of slot_names (charges_of (unless_ended o [] (record { row = c.row; charge = charge_of d known x c } ∷ seen d code n c.machine (known_after d known x c))))
      ≡ d.core_retire_width * length (unless_ended o [] (c.row ∷ rows d code n c.machine)))
  whole_next n x known (Some e) ih = let none : d.core_retire_width * 0 ≡ 0 = omega arith in no_slots slot_names ∙ sym none
  whole_next n x known None ih =
      let c = cycle d code x in
      let charge = charge_of d known x c in
      let k = known_after d known x c in
      let rest : sum_of slot_names (charges_of (seen d code n c.machine k)) ≡ d.core_retire_width * length (rows d code n c.machine) = ih c.machine k in
      let few : c.machine.retired ≤ x.retired + d.core_retire_width = few_retire d code x in
      let all : charge.retired + charge.empty ≡ d.core_retire_width = omega (arith, few) in
      let one : in_all slot_names charge ≡ charge.retired + charge.empty = one_reason charge.reason charge.retired charge.empty in
      let more : d.core_retire_width * suc (length (rows d code n c.machine)) ≡ d.core_retire_width * length (rows d code n c.machine) + d.core_retire_width = mul-suc _ _ in
      sum_more slot_names charge (charges_of (seen d code n c.machine k)) ∙ ap₂ (λ a b. a + b) (one ∙ all) rest ∙ swapped d.core_retire_width _ ∙ sym more

  pub whole : (n : ℕ) (x : Machine) (known : Known) → Whole n x known
  whole zero x known = let none : d.core_retire_width * 0 ≡ 0 = omega arith in no_slots slot_names ∙ sym none
  whole (suc n) x known = whole_next n x known x.end (λ y k. whole n y k)

  -- the rows that are seen are those of the run
  rows_next : (n : ℕ) (x : Machine) (known : Known) (o : Option End) → ((y : Machine) (k : Known) → rows_of (seen d code n y k) ≡ rows d code n y) →
      (let c = cycle d code x in
      rows_of (unless_ended o [] (record { row = c.row; charge = charge_of d known x c } ∷ seen d code n c.machine (known_after d known x c)))
      ≡ unless_ended o [] (c.row ∷ rows d code n c.machine))
  rows_next n x known (Some e) ih = refl
  rows_next n x known None ih = let c = cycle d code x in ap (λ r. c.row ∷ r) (ih c.machine (known_after d known x c))

  pub rows_seen : (n : ℕ) (x : Machine) (known : Known) → rows_of (seen d code n x known) ≡ rows d code n x
  rows_seen zero x known = refl
  rows_seen (suc n) x known = rows_next n x known x.end (λ y k. rows_seen n y k)
