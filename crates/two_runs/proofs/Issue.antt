-- What Issue does to two machines, where the load and the division that it takes ask for the same.
use Rattle.std.proofs.Common.{◌≡◌, ℕ, ◌+◌, List, [], Option, Some, None, refl, ap, ap₂, sym, ◌∙◌}
use Rattle.rv_types.specs.Causes.{load_misaligned, load_outside}
use Rattle.rv_types.specs.Memory.{load_fault}
use Rattle.rv_types.specs.Value.{div_time}
use Rattle.machine_desc.specs.declared.Desc.{Desc}
use Rattle.window_model.specs.declared.Divider.{Divider}
use Rattle.window_model.specs.declared.Entry.{Entry}
use Rattle.window_model.specs.declared.lookup.Access.{Access}
use Rattle.window_model.specs.State.{Machine}
use Rattle.window_model.specs.Access.{access, access_at, cache_after, misses_after, second_after}
use Rattle.window_model.specs.Around.{around}
use Rattle.window_model.specs.Issue.{access_of, after_load, divider_after, issue, oldest_at, taken_for, time_of}
use Rattle.window_model.specs.MayIssue.{effect_of, first_operand}
use Rattle.window_model.specs.Order.{Place, sources}
use Rattle.window_model.specs.Ports.{DivPort, LoadPort, Port, may_at}
use Rattle.window_model.specs.Retire.{byte_count, op_of}
use Rattle.window_model.specs.Shape.{SameShape}
use Rattle.window_model.proofs.LookedUp.{same_access_at}
use Rattle.window_model.proofs.Memory.{same_fault}
use Rattle.window_model.proofs.Places.{Found}
use Rattle.two_runs.specs.Masks.{AnswerAlike, LeftAlike, Mask, MaskedAlike, SamePlace, without_contents}
use Rattle.two_runs.specs.Seen.{SeenEntries, without_outcome}
use Rattle.two_runs.proofs.Choices.{Both, by_both}
use Rattle.two_runs.proofs.Looking.{same_forward}
use Rattle.two_runs.proofs.Masks.{first_same, where_found}

module _ (d : Desc) (x x2 : Machine) (o : without_contents x ≡ without_contents x2) where
  module _ (b b2 : List Entry) (s : SeenEntries d.stt_model b b2) (e e2 : Entry) (h : without_outcome e ≡ without_outcome e2) where
    -- what a load's access comes to is equal in both runs, where memory lies in one place and its address is equal
    pub same_access_of : SameShape x.ram x2.ram → (effect_of x.regs b e).addr ≡ (effect_of x2.regs b2 e2).addr → access_of d (around x) b e ≡ access_of d (around x2) b2 e2
    same_access_of place q =
        let a = (effect_of x.regs b e).addr in
        let n = byte_count e in
        same_access_at d (around x) (around x2) (ap (λ (t : Machine). t.cache) o) (ap (λ (t : Machine). t.second) o) (ap (λ (t : Machine). t.misses) o) (ap₂ (λ u v. u + v) (sym place.base) (sym place.size)) b b2 a n (load_fault x.ram a n)
        (same_forward d.stt_model b b2 a n s)
        ∙ ap (access_at d (around x2) b2 a n) (sym (same_fault load_misaligned load_outside x.ram x2.ram a n place))
        ∙ ap₂ (access d (around x2) b2) q (ap byte_count h)

    -- a division takes the same time in both runs, where its dividend is equal
    pub same_time : first_operand x.regs b (sources e) ≡ first_operand x2.regs b2 (sources e2) → time_of x.regs b e ≡ time_of x2.regs b2 e2
    same_time q = ap₂ (λ a (u : Entry). time_with u a) q h
      where
        time_with : Entry → ℕ → ℕ
        time_with u a = div_time (op_of u.item.instr) a

    -- a division takes the divider alike in both runs, where it takes the same time
    pub same_taken : time_of x.regs b e ≡ time_of x2.regs b2 e2 → taken_for (around x) b e ≡ taken_for (around x2) b2 e2
    same_taken q =
        let D : ℕ → ℕ → Entry → Divider = λ c t u. record { free_from = c + t; user = Some u.serial } in
        ap₂ (λ c u. D c (time_of x.regs b e) u) (ap (λ (t : Machine). t.cycle) o) h ∙ ap (λ t. D x2.cycle t e2) q

  -- both runs have the same load and the same division, or none, and both ask for the same
  abbrev pub LoadsAsk : Place → Place → Type 0
  LoadsAsk p p2 = access_of d (around x) p.before p.entry ≡ access_of d (around x2) p2.before p2.entry

  abbrev pub DivisionsAsk : Place → Place → Type 0
  DivisionsAsk p p2 = taken_for (around x) p.before p.entry ≡ taken_for (around x2) p2.before p2.entry

  -- the oldest entry that may issue at a port stands at one place in both runs, and asks there for the same
  abbrev pub AsksAt : {M : Type 0} → (M → Mask) → List M → (List Entry → List Entry → Type 0) → Port →
      (Place → Place → Type 0) → Type 0
  AsksAt mask ms S port R =
      (p p2 : Place) → SamePlace mask S ms p p2 → Found (may_at d (around x) port) [] x.window p → R p p2

  -- Issue leaves two machines alike under masks, where who may issue is seen alike, the load and the division that it
  -- takes ask for the same, and the entries that it leaves are alike
  pub issue_left : {M : Type 0} (mask : M → Mask) (ms ns : List M) (S : List Entry → List Entry → Type 0) →
      MaskedAlike mask ms x.window x2.window →
      ((port : Port) → AnswerAlike (may_at d (around x) port) (may_at d (around x2) port) S [] [] x.window x2.window) →
      AsksAt mask ms S LoadPort LoadsAsk → AsksAt mask ms S DivPort DivisionsAsk →
      (issue d x).events ≡ (issue d x2).events → MaskedAlike mask ns (issue d x).machine.window (issue d x2).machine.window →
      LeftAlike mask ns (issue d x) (issue d x2)
  issue_left mask ms ns S w answers load division events window =
      let oldest : (port : Port) (R : Place → Place → Type 0) → AsksAt mask ms S port R → Both R (oldest_at d port x) (oldest_at d port x2) = λ port R f.
      where_found (may_at d (around x) port) (may_at d (around x2) port) x.window x2.window (SamePlace mask S ms) R f (first_same mask _ _ S [] ms [] [] x.window x2.window tt w (answers port)) in
      let T : Access → Machine → Machine = λ a u. record u { cache = cache_after a d u.cache; second = second_after a d u.second; misses = misses_after a d u.cycle u.misses } in
      let l = by_both LoadsAsk (λ q q2. without_contents (after_load d q x) ≡ without_contents (after_load d q2 x2)) o (λ p p2 s. ap₂ T s o) (oldest_at d LoadPort x) (oldest_at d LoadPort x2) (oldest LoadPort LoadsAsk load) in
      let v = by_both DivisionsAsk (λ q q2. divider_after x q ≡ divider_after x2 q2) (ap (λ (t : Machine). t.divider) o) (λ p p2 s. s) (oldest_at d DivPort x) (oldest_at d DivPort x2) (oldest DivPort DivisionsAsk division) in
      record { events = events; others = ap₂ (λ (u : Machine) v. let w : Machine = record u { divider = v } in w) l v; window = window }

-- what Issue leaves of a machine besides: its registers, its memory and its cycle
pub record IssueLeaves (x y : Machine) : Type 0 where
  pub kept : (y.regs ≡ x.regs) × (y.ram ≡ x.ram)
  pub cycle : y.cycle ≡ x.cycle

-- Issue leaves registers, memory and the cycle as they are
pub issue_leaves : (d : Desc) (x : Machine) → IssueLeaves x (issue d x).machine
issue_leaves d x = let l = by_load (oldest_at d LoadPort x) in record { kept = l.kept; cycle = l.cycle }
  where
    by_load : (o : Option Place) → IssueLeaves x (after_load d o x)
    by_load None = record { kept = (refl, refl); cycle = refl }
    by_load (Some p) = record { kept = (refl, refl); cycle = refl }
