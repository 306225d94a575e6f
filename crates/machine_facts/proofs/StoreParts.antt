-- What Issue makes of an entry is still what its instruction says: an outcome as its parts have it, and both parts once
-- it doesn't wait.
use Rattle.std.proofs.Common.{◌≡◌, ℕ, ◌+◌, Bool, true, false, not, ◌&&◌, List, Option, Some, None, refl, ap, sym, subst, ◌∙◌}
use Rattle.std.specs.Prelude.{is_some}
use Rattle.rv_types.specs.Isa.{Effect}
use Rattle.rv_types.specs.Memory.{Ram}
use Rattle.machine_desc.specs.declared.Desc.{Desc}
use Rattle.window_model.specs.declared.Entry.{Entry}
use Rattle.window_model.specs.declared.Item.{Item}
use Rattle.window_model.specs.declared.Outcome.{Outcome}
use Rattle.window_model.specs.declared.Progress.{Progress}
use Rattle.window_model.specs.Around.{Around}
use Rattle.window_model.specs.Order.{is_waiting, is_store, has_address, has_data}
use Rattle.window_model.specs.Retire.{byte_count}
use Rattle.window_model.specs.MayIssue.{effect_of}
use Rattle.window_model.specs.Issue.{issue_entry, busy_until_both, so_far, with_address, with_data}
use Rattle.window_model.proofs.Booleans.{both}
use Rattle.window_model.proofs.Issuing.{by_issue, begin_goes, gone_parts}
use Rattle.machine_facts.specs.Sized.{HasKind, FitsMemory, FaultIs, HasOutcome, HasParts}
use Rattle.machine_facts.proofs.Parts.{IsEntry}
use Rattle.machine_facts.proofs.Together.{together_issued}

-- what holds of an entry alone, whatever the version
record StoreInvariant (ram : Ram) (e : Entry) : Type 0 where
  kind : HasKind e.item
  memory : FitsMemory ram e
  outcome : HasOutcome e
  parts : HasParts e

stands : (d : Desc) (ram : Ram) (e : Entry) → IsEntry d ram e → StoreInvariant ram e
stands d ram e h = record { kind = h.kind; memory = h.memory; outcome = h.outcome; parts = h.parts }

-- ---- an entry in one piece

begun_stands : (ram : Ram) (e r : Entry) → r.item ≡ e.item → is_store e.item.kind ≡ false → StoreInvariant ram e → StoreInvariant ram r
begun_stands ram e r q n h =
    let no : is_store r.item.kind ≡ false = ap (λ (i : Item). is_store i.kind) q ∙ n in
    record { kind = subst HasKind (sym q) h.kind; memory = λ s. absurd (cc); outcome = λ s. absurd (cc); parts = λ s. absurd (cc) }

-- ---- a store of which a part issues

-- a store of which a part issues waits until both are there
address_parts : (a c : Option ℕ) (n : ℕ) (s : Progress) → (is_some a && is_some c) ≡ not (is_waiting s) → is_some c ≡ not (is_waiting (busy_until_both (Some n) c s))
address_parts a (Some m) n s h = refl
address_parts (Some m) None n s h = h
address_parts None None n s h = h

data_parts : (a c : Option ℕ) (n : ℕ) (s : Progress) → (is_some a && is_some c) ≡ not (is_waiting s) → (is_some a && true) ≡ not (is_waiting (busy_until_both a (Some n) s))
data_parts (Some m) c n s h = refl
data_parts None c n s h = h

-- the address part sets the fault that memory has
address_stands : (now : Around) (f : Effect) (e : Entry) → StoreInvariant now.ram e → StoreInvariant now.ram (with_address now f e)
address_stands now f e h = record {
  kind = h.kind;
  memory = λ s a. refl;
  outcome = λ s a. refl;
  parts = λ s. address_parts e.addr_due e.data_due (now.cycle + 1) e.state (h.parts s);
}

-- the data part leaves the fault as it is
fault_stays : (ram : Ram) (width : ℕ) (o : Option Outcome) (next stored : ℕ) → is_some o ≡ true → FaultIs ram width o → FaultIs ram width (Some (record (so_far o next) { stored = stored }))
fault_stays ram width None next stored s h = absurd (cc)
fault_stays ram width (Some o) next stored s h = h

data_stands : (now : Around) (f : Effect) (e : Entry) → StoreInvariant now.ram e → StoreInvariant now.ram (with_data now f e)
data_stands now f e h = record {
  kind = h.kind;
  memory = λ s a. fault_stays now.ram (byte_count e) e.outcome f.next f.stored (h.outcome s a) (h.memory s a);
  outcome = λ s a. refl;
  parts = λ s. data_parts e.addr_due e.data_due (now.cycle + 1) e.state (h.parts s);
}

gone_stands : (now : Around) (b : List Entry) (e : Entry) (a c : Bool) → StoreInvariant now.ram e → StoreInvariant now.ram (gone_parts now b a c e)
gone_stands now b e true true h = let f = effect_of now.regs b e in data_stands now f (with_address now f e) (address_stands now f e h)
gone_stands now b e true false h = address_stands now (effect_of now.regs b e) e h
gone_stands now b e false true h = data_stands now (effect_of now.regs b e) e h
gone_stands now b e false false h = h

-- ---- Issue of any entry

-- an entry that doesn't wait stays as it is
pub issued_stays : (d : Desc) (now : Around) (b : List Entry) (e : Entry) → HasParts e → is_waiting e.state ≡ false → (issue_entry d now b e).entry ≡ e
issued_stays d now b e p w =
    by_issue d now b e (λ r. r ≡ e) refl (λ s m. absurd (waits_not m.waits)) (λ s a c g k.
    let h = both (has_address e) (has_data e) (p s ∙ ap not w) in
    none_goes a c (λ q. there (has_address e) h.0 (g q).fresh) (λ q. there (has_data e) h.1 (k q).fresh))
  where
    waits_not : is_waiting e.state ≡ true → ⊥
    waits_not q = absurd (cc)

    there : (h : Bool) → h ≡ true → h ≡ false → ⊥
    there h p q = absurd (cc)

    none_goes : (a c : Bool) → (a ≡ true → ⊥) → (c ≡ true → ⊥) → gone_parts now b a c e ≡ e
    none_goes false false g k = refl
    none_goes true c g k = absurd (g refl)
    none_goes false true g k = absurd (k refl)

issue_stands : (d : Desc) (now : Around) (b : List Entry) (e : Entry) → StoreInvariant now.ram e → StoreInvariant now.ram (issue_entry d now b e).entry
issue_stands d now b e h = by_issue d now b e (StoreInvariant now.ram) h (λ s m. begun_stands now.ram e _ (begin_goes e.item.kind d now b e).item s h) (λ s a c g k. gone_stands now b e a c h)

-- Issue keeps what is known of each entry's parts, outcome and fault
pub issue_sizes : (d : Desc) (now : Around) (b : List Entry) (e : Entry) → IsEntry d now.ram e → IsEntry d now.ram (issue_entry d now b e).entry
issue_sizes d now b e h =
    let s = issue_stands d now b e (stands d now.ram e h) in
    record { kind = s.kind; memory = s.memory; outcome = s.outcome; parts = s.parts; together = together_issued d now b e h.together }
