-- States whose paths leak alike lead to such states, and what is visible stands there.
use Rattle.std.proofs.Common.{◌≡◌, ℕ, zero, suc, ◌+◌, true, List, [], length, Some, ap, sym, ◌∙◌, subst, arith}
use Rattle.rv_types.specs.Memory.{Code}
use Rattle.rv_types.specs.Isa.{Hart, Step, Goes}
use Rattle.machine_desc.specs.declared.Desc.{Desc}
use Rattle.window_model.specs.declared.Entry.{Entry}
use Rattle.window_model.specs.State.{Machine}
use Rattle.window_model.specs.Along.{Behind}
use Rattle.window_model.specs.Committed.{Aligned}
use Rattle.window_model.specs.Fetch.{instr_at}
use Rattle.window_model.specs.Path.{path}
use Rattle.window_model.specs.Retire.{hart_of}
use Rattle.window_model.specs.Taint.{protects, visible}
use Rattle.committed_state.specs.Consistent.{EntryInvariant, IsItem, bank_in}
use Rattle.committed_state.specs.Replay.{Bank, bank}
use Rattle.noninterference.proofs.Onward.{LeadsTo}
use Rattle.noninterference.proofs.OneRun.{Linked, reaches}
use Rattle.noninterference.proofs.Faults.{hart}
use Rattle.noninterference.proofs.PathLink.{leads_to}
use Rattle.constant_time.specs.Leaks.{BothGo, LeakAlike, leak, leak_as}

-- states that leak alike do so behind a step
pub goes_on : (step : Code → Hart → Step) (code : Code) (n : ℕ) (s s2 t t2 : Hart) (p p2 : List ℕ) → LeakAlike step code (suc n) s s2 → step code s ≡ Goes t p → step code s2 ≡ Goes t2 p2 → LeakAlike step code n t t2
goes_on step code n s s2 t t2 p p2 h g g2 =
    let R : Hart → Hart → Type 0 = λ t t2. LeakAlike step code n t t2 in
    subst (λ q. BothGo q (Goes t2 p2) R) g (subst (λ q. BothGo (step code s) q R) g2 h.2)

-- states that leak alike do so behind any number of steps
pub leads_on : (step : Code → Hart → Step) (code : Code) (k n : ℕ) (s s2 t t2 : Hart) → LeakAlike step code (n + k) s s2 → LeadsTo (step code) s n t → LeadsTo (step code) s2 n t2 → LeakAlike step code k t t2
leads_on step code k zero s s2 t t2 h l l2 =
    let z : zero + k ≡ k = omega arith in
    subst (λ u. LeakAlike step code k u t2) l (subst (λ u. LeakAlike step code k s u) l2 (subst (λ j. LeakAlike step code j s s2) z h))
leads_on step code k (suc n) s s2 t t2 h l l2 =
    let e : suc n + k ≡ n + suc k = omega arith in
    let u = leads_on step code (suc k) n s s2 l.0 l2.0 (subst (λ j. LeakAlike step code j s s2) e h) l.1 l2.1 in
    goes_on step code k l.0 l2.0 t t2 [] [] u l.2 l2.2

-- what leaks at an item is told by its kind and instruction
leak_is : (code : Code) (e : Entry) (s : Bank) → IsItem code e.item → leak code (hart e.item.pc s) ≡ leak_as e.item.kind (hart e.item.pc s) e.item.instr
leak_is code e s i = ap (λ k. leak_as k (hart e.item.pc s) (instr_at (code e.item.pc))) (sym i.kind) ∙ ap (leak_as e.item.kind (hart e.item.pc s)) (sym i.instr)

-- what one run knows of the entries before one
pub record Stands (now : ℕ) (d : Desc) (code : Code) (x : Machine) (before : List Entry) (e : Entry) : Type 0 where
  pub behind : Behind (EntryInvariant d code (bank_in (hart_of x)) now) before
  pub here : EntryInvariant d code (bank_in (hart_of x)) now before e
  pub linked : Linked x.pc before
  pub at : reaches x.pc before ≡ Some e.item.pc

module _ (now : ℕ) (d : Desc) (protected : protects d.stt_model ≡ true) (code : Code) (aligned : Aligned code) (x x2 : Machine) (n : length x.regs ≡ 32) (n2 : length x2.regs ≡ 32) where
  -- what a visible entry leaks is equal in both runs
  pub leaks_at : (before before2 : List Entry) (e e2 : Entry) → Stands now d code x before e → Stands now d code x2 before2 e2 → e.item ≡ e2.item → length before ≡ length before2 →
      visible d.stt_model before ≡ true → visible d.stt_model before2 ≡ true → LeakAlike (path d.stt_model) code (length before + 1) (hart_of x) (hart_of x2) →
      leak_as e.item.kind (hart e.item.pc (bank (bank_in (hart_of x)) before)) e.item.instr ≡ leak_as e.item.kind (hart e.item.pc (bank (bank_in (hart_of x2)) before2)) e.item.instr
  leaks_at before before2 e e2 w w2 i l v v2 h =
      let s = bank_in (hart_of x) in
      let s2 = bank_in (hart_of x2) in
      let to = leads_to now d protected code aligned s n x.pc before e.item.pc w.behind w.linked w.here.through v w.at in
      let to2 = leads_to now d protected code aligned s2 n2 x2.pc before2 e2.item.pc w2.behind w2.linked w2.here.through v2 w2.at in
      let to3 : LeadsTo (path d.stt_model code) (hart x2.pc s2) (length before) (hart e2.item.pc (bank s2 before2)) = subst (λ k. LeadsTo (path d.stt_model code) (hart x2.pc s2) k (hart e2.item.pc (bank s2 before2))) (sym l) to2 in
      let there = leads_on (path d.stt_model) code 1 (length before) (hart_of x) (hart_of x2) (hart e.item.pc (bank s before)) (hart e2.item.pc (bank s2 before2)) h to to3 in
      sym (leak_is code e (bank s before) w.here.item) ∙ there.1 ∙ leak_is code e2 (bank s2 before2) w2.here.item
      ∙ sym (ap (λ t. leak_as t.kind (hart t.pc (bank s2 before2)) t.instr) i)
