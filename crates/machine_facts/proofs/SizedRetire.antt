-- Retire keeps sizes and entries, and leaves memory where it is.
use Rattle.std.proofs.Common.{◌≡◌, ℕ, true, not, List, ◌∷◌, length, Option, Some, None, ap, sym, ◌∙◌, subst}
use Rattle.std.specs.Prelude.{is_some}
use Rattle.std.specs.List.{AllByRecursion as Each}
use Rattle.rv_types.specs.Memory.{Ram, store_fault}
use Rattle.rv_types.specs.Regs.{writes_of}
use Rattle.rv_types.specs.declared.End.{End}
use Rattle.rv_types.specs.declared.Kind.TheVariants.{Store}
use Rattle.machine_desc.specs.declared.Desc.{Desc}
use Rattle.machine_desc.specs.Ranges.{IsDesc}
use Rattle.window_model.specs.declared.Entry.{Entry}
use Rattle.window_model.specs.declared.Outcome.{Outcome}
use Rattle.window_model.specs.Shape.{SameShape}
use Rattle.window_model.specs.State.{Machine}
use Rattle.window_model.specs.Order.{is_store, is_done, has_address, has_data, value_of, fault_of}
use Rattle.window_model.specs.Retire.{retire, head_leaves, addr_of, lines_in, stored_of, byte_count, may_leave, trap_of}
use Rattle.window_model.proofs.Booleans.{both, done_waits}
use Rattle.window_model.proofs.Lists.{each_then}
use Rattle.window_model.proofs.Memory.{same_shape, shape_then, store_keeps, same_fault}
use Rattle.window_model.proofs.Registers.{length_with}
use Rattle.window_model.proofs.Counts.{rest_thins}
use Rattle.window_model.proofs.Walks.{heads_keep}
use Rattle.machine_facts.specs.Sized.{Sized, FaultIs, HasParts}
use Rattle.machine_facts.proofs.Parts.{WindowFits, IsEntry, CacheFits, parts, whole}
use Rattle.machine_facts.proofs.Caches.{lines_fit}
use Rattle.machine_facts.proofs.SizedWindow.{thinner}
use Rattle.window_model.proofs.Leaving.{gone, head_by, no_trap}

-- ---- an entry over memory of the same shape

fault_is : (ram ram2 : Ram) (width : ℕ) (o : Option Outcome) → SameShape ram ram2 → FaultIs ram width o → FaultIs ram2 width o
fault_is ram ram2 width None k h = tt
fault_is ram ram2 width (Some o) k h = h ∙ sym (same_fault _ _ ram ram2 o.addr width k)

over_shape : (d : Desc) (ram ram2 : Ram) → SameShape ram ram2 → (e : Entry) → IsEntry d ram e → IsEntry d ram2 e
over_shape d ram ram2 k e h = record { kind = h.kind; memory = λ s a. fault_is ram ram2 (byte_count e) e.outcome k (h.memory s a); outcome = h.outcome; parts = h.parts; together = h.together }

-- the address part of a store that is Done has issued, since the store doesn't wait
pub stored_at : (e : Entry) → HasParts e → is_store e.item.kind ≡ true → is_done e.state ≡ true → has_address e ≡ true
stored_at e h s l = (both (has_address e) (has_data e) (h s ∙ ap not (done_waits e.state l))).0

-- ---- what a head leaves

-- the state has its sizes, and memory lies where it did at first
record Lies (d : Desc) (ram : Ram) (x : Machine) : Type 0 where
  sized : Sized d x
  shape : SameShape ram x.ram

-- memory takes what a store writes whose outcome fits memory and has no fault
pub no_fault : (ram : Ram) (width : ℕ) (o : Option Outcome) → FaultIs ram width o → is_some o ≡ true → fault_of o ≡ None → store_fault ram (addr_of o) width ≡ None
no_fault ram width None h s f = absurd (cc)
no_fault ram width (Some o) h s f = sym h ∙ f

module _ (d : Desc) (ram : Ram) where
  lies_gone : (x : Machine) (e : Entry) (rest : List Entry) (regs : List ℕ) (pc : ℕ) (ram2 : Ram) (cache : List (List ℕ)) (retired : ℕ) (end : Option End) → x.window ≡ e ∷ rest → length regs ≡ length x.regs → SameShape x.ram ram2 → CacheFits d cache → Lies d ram x →
      Lies d ram (gone x rest regs pc ram2 cache retired end)
  lies_gone x e rest regs pc ram2 cache retired end w n k c h =
      let f = parts d x h.sized in
      record {
        sized = whole d (gone x rest regs pc ram2 cache retired end) (record {
          window = thinner d (e ∷ rest) rest (rest_thins e rest) (subst (WindowFits d) w f.window);
          entries = each_then (IsEntry d x.ram) (IsEntry d ram2) (over_shape d x.ram ram2 k) rest (subst (Each (IsEntry d x.ram)) w f.entries).1;
          queue = f.queue;
          predictor = f.predictor;
          cache = c;
          second = f.second;
          misses = f.misses;
          dependence = f.dependence;
          registers = n ∙ f.registers;
        });
        shape = shape_then ram x.ram ram2 h.shape k;
      }

  -- a store at the head that is Done without fault writes inside memory
  stores : (x : Machine) (e : Entry) (rest : List Entry) → e.item.kind ≡ Store → x.window ≡ e ∷ rest → is_done e.state ≡ true → fault_of e.outcome ≡ None → Lies d ram x →
      store_fault x.ram (addr_of e.outcome) (byte_count e) ≡ None
  stores x e rest q w l t h =
      let own : IsEntry d x.ram e = (subst (Each (IsEntry d x.ram)) w (parts d x h.sized).entries).0 in
      let st : is_store e.item.kind ≡ true = ap is_store q in
      let a = stored_at e own.parts st l in
      no_fault x.ram (byte_count e) e.outcome (own.memory st a) (own.outcome st a) t

  leaves : (x : Machine) (e : Entry) (rest : List Entry) → x.window ≡ e ∷ rest → may_leave e ≡ true → trap_of e ≡ None → Lies d ram x → Lies d ram (head_leaves e.item.kind d e rest x).machine
  leaves x e rest w l t h =
      let cache = (parts d x h.sized).cache in
      let n = length_with x.regs (writes_of e.item.instr) (value_of e.outcome) in
      head_by d e rest x (Lies d ram) h
      (λ s end f. lies_gone x e rest s.regs s.pc s.ram x.cache _ end w f.registers (subst (SameShape x.ram) (sym f.ram) (same_shape x.ram)) cache h)
      (lies_gone x e rest _ _ _ _ _ _ w n (same_shape x.ram) cache h)
      e.item.kind (λ q.
      let inside = stores x e rest q w (both (is_done e.state) _ l).0 (no_trap e.item.kind e t).1 h in
      lies_gone x e rest _ _ _ _ _ _ w n (store_keeps x.ram (addr_of e.outcome) (byte_count e) (stored_of e.outcome) inside) (lines_fit d (lines_in d e) x.cache cache) h)

  ends : (x : Machine) (end : End) → Lies d ram x → Lies d ram (record x { end = Some end })
  ends x end h =
      let f = parts d x h.sized in
      record { sized = whole d _ (record { window = f.window; entries = f.entries; queue = f.queue; predictor = f.predictor; cache = f.cache; second = f.second; misses = f.misses; dependence = f.dependence; registers = f.registers }); shape = h.shape }

  retire_lies : (x : Machine) → Lies d ram x → Lies d ram (retire d x).machine
  retire_lies = heads_keep d (Lies d ram) leaves ends

-- a machine keeps its sizes over Retire
pub sized_retire : (d : Desc) (x : Machine) → IsDesc d → Sized d x → Sized d (retire d x).machine
sized_retire d x i s = (retire_lies d x.ram x (record { sized = s; shape = same_shape x.ram })).sized

-- Retire leaves base and size of memory
pub memory_stays_retire : (d : Desc) (x : Machine) → Sized d x → SameShape x.ram (retire d x).machine.ram
memory_stays_retire d x s = (retire_lies d x.ram x (record { sized = s; shape = same_shape x.ram })).shape
