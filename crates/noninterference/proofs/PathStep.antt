-- A step of the path at an entry that permits younger ones to be visible is what the replay says.
use Rattle.std.proofs.Common.{◌≡◌, ℕ, Bool, true, false, not, ◌&&◌, [], Option, Some, None, refl, ap, sym, ◌∙◌, subst}
use Rattle.std.specs.Prelude.{if◌then◌else◌, is_some}
use Rattle.rv_types.specs.Decode.{decode}
use Rattle.rv_types.specs.Kind.{kind_of}
use Rattle.rv_types.specs.Memory.{Code}
use Rattle.rv_types.specs.Isa.{Goes, effect, first_of, second_of, isa_step}
use Rattle.rv_types.specs.Path.{pass_at, pass_step}
use Rattle.rv_types.specs.declared.Cause.{Cause}
use Rattle.rv_types.specs.declared.Instr.{Instr}
use Rattle.rv_types.specs.declared.Kind.{Kind}
use Rattle.rv_types.specs.declared.Kind.TheVariants.{Load, Store, Branch, Jalr, Call, Stop}
use Rattle.machine_desc.specs.declared.SttModel.{SttModel}
use Rattle.machine_desc.specs.declared.SttModel.TheVariants.{Spectre, Futuristic, Off}
use Rattle.window_model.specs.declared.Entry.{Entry}
use Rattle.window_model.specs.declared.Item.{Item}
use Rattle.window_model.specs.declared.Outcome.{Outcome}
use Rattle.window_model.specs.declared.Progress.{Progress}
use Rattle.window_model.specs.declared.Progress.TheVariants.{Waiting, Busy, Done}
use Rattle.window_model.specs.Order.{fault_of, has_address, has_data, is_control, is_done, is_faulty, sources}
use Rattle.window_model.specs.Resolve.{next_of}
use Rattle.window_model.specs.Taint.{permits, protects, safe_as, settled_as}
use Rattle.window_model.specs.Rename.{at_once}
use Rattle.window_model.specs.Committed.{Aligned}
use Rattle.window_model.specs.Path.{path}
use Rattle.window_model.proofs.Booleans.{both, not_true, some_of}
use Rattle.committed_state.specs.Consistent.{FitsParts, FitsState, IsItem, Predicts, all_issued, is_issued}
use Rattle.committed_state.specs.Links.{entry_link}
use Rattle.committed_state.specs.Computed.{Bank, ComesTo, as_known}
use Rattle.committed_state.specs.Replay.{bank_after, replay_outcome}
use Rattle.committed_state.proofs.Bytes.{some_is}
use Rattle.committed_state.proofs.Computed.{is_access}
use Rattle.committed_state.proofs.Heads.{item_of, goes_on}
use Rattle.committed_state.proofs.Known.{done_has, issued_of, known_all}
use Rattle.committed_state.proofs.Onward.{of_item}
use Rattle.committed_state.proofs.Turn.{item_eq, step_as, replayed_next}
use Rattle.noninterference.proofs.Loads.{word_of}
use Rattle.noninterference.proofs.Paths.{path_goes}
use Rattle.noninterference.proofs.Faults.{hart, entry_of, no_fault, passed_over}

module _ (code : Code) (aligned : Aligned code) (s : Bank) (e : Entry) (n : ℕ) (item : IsItem code e.item) (f : FitsState e.state e) (parts : FitsParts e.item.kind (has_address e) (has_data e) (is_issued e)) (r : ComesTo e.outcome (as_known e (replay_outcome s e))) (g : at_once e.item.kind ≡ false) (l : (entry_link e).next ≡ Some n) where
  abbrev O : Outcome
  O = replay_outcome s e

  abbrev Steps : SttModel → Type 0
  Steps model = path model code (hart e.item.pc s) ≡ Goes (hart n (bank_after e s)) []

  of_isa : (model : SttModel) → O.fault ≡ None → n ≡ O.next → Steps model
  unfolding isa_step
  of_isa model h q =
      path_goes model code (hart e.item.pc s) _ [] (step_as (code e.item.pc) (hart e.item.pc s) e refl item.instr item.kind g None h)
      ∙ ap (λ m. Goes (hart m (bank_after e s)) []) (sym q)

  word_there : (w : ℕ) × (code e.item.pc ≡ Some w) × (e.item.instr ≡ decode w) × (e.item.kind ≡ kind_of (decode w))
  word_there = word_of code e (λ k. not (at_once k)) item (λ c. refl) (ap not g)

  abbrev i : Instr
  i = decode word_there.0

  item_is : e.item ≡ item_of e.item.pc i e.item
  item_is = item_eq e.item e.item.pc i refl word_there.2 word_there.3

  outcome_is : O ≡ replay_outcome s (entry_of s e.item.pc e.item i)
  outcome_is = ap (λ t. replay_outcome s (of_item t)) item_is

  -- what isn't a branch or JALR goes on at its prediction, and so does the replay
  unresolved : (t : Progress) (b : Bool) → is_control e.item.kind ≡ false → FitsState t (record e { resolved = b }) → b ≡ false
  unresolved Waiting b c f = f.1
  unresolved (Busy due) b c f = f.1
  unresolved Done false c f = refl
  unresolved Done true c f = absurd (let d = f.1 refl in cc)

  predicted_next : is_control e.item.kind ≡ false → n ≡ O.next
  predicted_next c =
      let u = unresolved e.state e.resolved c f in
      let q : (entry_link e).next ≡ e.item.predicted = rw u refl in
      let a = first_of (sources e) s.regs in
      let b = second_of (sources e) s.regs in
      let at_i = λ (k : Kind). k ≡ kind_of i in
      let to = goes_on i e.item.pc a b e.item (subst (λ (t : Item). Predicts t.kind t) item_is item.next) (ap is_control (sym word_there.3) ∙ c) (ap at_once (sym word_there.3) ∙ g) in
      some_of n O.next (sym l ∙ q ∙ to ∙ ap (λ j. Some (effect e.item.pc j a b).next) (sym word_there.2) ∙ ap Some (sym (replayed_next e.item.kind s e)))

  -- an entry of which all has issued has the replay's outcome
  whole : all_issued e ≡ true → e.outcome ≡ Some O
  whole a =
      let k = e.item.kind in
      some_is e.outcome O (subst (ComesTo e.outcome) (known_all k (has_address e) (has_data e) (is_issued e) O a) r) (issued_of k (has_address e) (has_data e) (is_issued e) parts a)

  -- a branch or JALR that is resolved has the replay's outcome
  issued_when : (t : Progress) → FitsState t e → e.resolved ≡ true → all_issued e ≡ true
  issued_when Waiting f q = absurd (let d = f.1 in cc)
  issued_when (Busy due) f q = absurd (let d = f.1 in cc)
  issued_when Done f q = f.0 ∙ ap not g

  no_fault_if : (c : Option Cause) (m : ℕ) → (if is_some c then None else Some m) ≡ Some n → (c ≡ None) × (n ≡ m)
  no_fault_if None m h = (refl, sym (some_of m n h))
  no_fault_if (Some c) m h = absurd (cc)

  resolved_goes : (model : SttModel) → e.resolved ≡ true → Steps model
  resolved_goes model q =
      let o = whole (issued_when e.state f q) in
      let to : (entry_link e).next ≡ (if is_some (fault_of e.outcome) then None else Some (next_of e.outcome)) = rw q refl in
      let there = no_fault_if O.fault O.next (ap (λ t. if is_some (fault_of t) then None else Some (next_of t)) (sym o) ∙ sym to ∙ l) in
      of_isa model there.0 there.1

  -- a load or store that is safe has no fault, and its step goes on
  none_of : (c : Option Cause) → is_some c ≡ false → c ≡ None
  none_of None h = refl
  none_of (Some c) h = absurd (cc)

  safe_goes : (model : SttModel) → is_control e.item.kind ≡ false → (is_done e.state && not (is_faulty e)) ≡ true → Steps model
  safe_goes model c v =
      let ds = both (is_done e.state) _ v in
      let o = whole ((done_has e.state e f ds.0).0 ∙ ap not g) in
      of_isa model (ap fault_of (sym o) ∙ none_of (fault_of e.outcome) (not_true _ ds.1)) (predicted_next c)

  -- under the spectre model a load or store is a step of the path, which passes it over where it faults
  access_goes : is_control e.item.kind ≡ false → is_access e.item.kind ≡ true → Steps Spectre
  unfolding pass_step
  access_goes c k = by_fault O.fault refl
    where
      by_fault : (o : Option Cause) → O.fault ≡ o → Steps Spectre
      by_fault None h = of_isa Spectre h (predicted_next c)
      by_fault (Some cause) h =
          let over = passed_over s e.item.pc e.item i cause (ap is_access (sym word_there.3) ∙ k) (ap (λ (o : Outcome). o.fault) (sym outcome_is) ∙ h) in
          ap (λ o. pass_at o (hart e.item.pc s)) word_there.1 ∙ over
          ∙ ap (λ m. Goes (hart m (bank_after (entry_of s e.item.pc e.item i) s)) []) (ap (λ (o : Outcome). o.next) (sym outcome_is) ∙ sym (predicted_next c))
          ∙ ap (λ b. Goes (hart n b) []) (ap (λ t. bank_after (of_item t) s) (sym item_is))

  plain_goes : (model : SttModel) → is_control e.item.kind ≡ false → is_access e.item.kind ≡ false → Steps model
  plain_goes model c k =
      let h = no_fault s e.item.pc e.item i (ap at_once (sym word_there.3) ∙ g) (ap is_control (sym word_there.3) ∙ c) (ap is_access (sym word_there.3) ∙ k) (aligned e.item.pc word_there.0 word_there.1) in
      of_isa model (ap (λ (o : Outcome). o.fault) outcome_is ∙ h) (predicted_next c)

  by_settled : (k : Kind) → e.item.kind ≡ k → settled_as k e.resolved e.cleared ≡ true → Steps Spectre
  by_settled Load q v = access_goes (ap is_control q) (ap is_access q)
  by_settled Store q v = access_goes (ap is_control q) (ap is_access q)
  by_settled Branch q v = resolved_goes Spectre v
  by_settled Jalr q v = resolved_goes Spectre v
  by_settled Call q v = absurd (let t = ap at_once q in cc)
  by_settled (Stop c) q v = absurd (let t = ap at_once q in cc)
  by_settled _ q v = plain_goes Spectre (ap is_control q) (ap is_access q)

  by_safe : (k : Kind) → e.item.kind ≡ k → safe_as k e ≡ true → Steps Futuristic
  by_safe Load q v = safe_goes Futuristic (ap is_control q) v
  by_safe Store q v = safe_goes Futuristic (ap is_control q) (both (is_done e.state && not (is_faulty e)) _ v).0
  by_safe Branch q v = resolved_goes Futuristic (both e.resolved _ v).0
  by_safe Jalr q v = resolved_goes Futuristic (both e.resolved _ v).0
  by_safe Call q v = absurd (let t = ap at_once q in cc)
  by_safe (Stop c) q v = absurd (let t = ap at_once q in cc)
  by_safe _ q v = plain_goes Futuristic (ap is_control q) (ap is_access q)

  -- under a model that protects, an entry that permits younger ones to be visible is a step of its path
  pub permitted_steps : (model : SttModel) → protects model ≡ true → permits model e ≡ true → path model code (hart e.item.pc s) ≡ Goes (hart n (bank_after e s)) []
  permitted_steps Spectre p v = by_settled e.item.kind refl v
  permitted_steps Futuristic p v = by_safe e.item.kind refl v
  permitted_steps Off p v = absurd (cc)
