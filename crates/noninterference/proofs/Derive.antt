-- What two runs may look at is equal: it comes from equal registers and from visible loads.
use Rattle.std.proofs.Common.{◌≡◌, ℕ, true, List, [], ◌∷◌, ap, sym, ◌∙◌, subst}
use Rattle.std.specs.Prelude.{is_some}
use Rattle.rv_types.specs.Memory.{Code}
use Rattle.rv_types.specs.Isa.{Effect}
use Rattle.machine_desc.specs.declared.Desc.{Desc}
use Rattle.machine_desc.specs.declared.SttModel.{SttModel}
use Rattle.window_model.specs.declared.Entry.{Entry}
use Rattle.window_model.specs.State.{Machine}
use Rattle.window_model.specs.Order.{is_load, is_store}
use Rattle.window_model.specs.Retire.{hart_of}
use Rattle.window_model.specs.Taint.{visible}
use Rattle.window_model.specs.MayIssue.{effect_of}
use Rattle.window_model.specs.Shape.{SameShape}
use Rattle.window_model.proofs.Booleans.{or_true}
use Rattle.committed_state.specs.Computed.{Bank, ComesTo, as_known, outcome_behind}
use Rattle.committed_state.specs.Consistent.{bank_in}
use Rattle.committed_state.proofs.Onward.{of_item}
use Rattle.noninterference.specs.Alike.{without_outcome}
use Rattle.noninterference.specs.Outcomes.{SameOutcomes}
use Rattle.noninterference.proofs.Operands.{effects_alike, addresses_alike}
use Rattle.noninterference.proofs.Loads.{by_base, load_untainted}
use Rattle.noninterference.proofs.OneRun.{OneRun, older}
use Rattle.noninterference.proofs.Replays.{entry_same}

-- two entries are equal but for their outcomes, which both have or neither, and visible loads have read the same
pub record SameReads (model : SttModel) (before : List Entry) (e e2 : Entry) : Type 0 where
  pub but_outcome : without_outcome e ≡ without_outcome e2
  pub issued : is_some e.outcome ≡ is_some e2.outcome
  pub reads : is_load e.item.kind ≡ true → visible model before ≡ true → e.outcome ≡ e2.outcome

-- two lists of entries, youngest first, are equal but for their outcomes, and visible loads have read the same
abbrev pub AllSameReads : SttModel → List Entry → List Entry → Type 0
AllSameReads model [] [] = Unit {0}
AllSameReads model (e ∷ before) (e2 ∷ before2) = SameReads model before e e2 × AllSameReads model before before2
AllSameReads model [] (e2 ∷ before2) = ⊥
AllSameReads model (e ∷ before) [] = ⊥

module _ (now : ℕ) (d : Desc) (code : Code) (x x2 : Machine) (regs : x.regs ≡ x2.regs) (place : SameShape x.ram x2.ram) where
  abbrev model : SttModel
  model = d.stt_model

  abbrev s : Bank
  s = bank_in (hart_of x)

  abbrev s2 : Bank
  s2 = bank_in (hart_of x2)

  -- the outcomes that may be looked at are equal in both runs, where visible loads have read the same
  pub derive : (b b2 : List Entry) → AllSameReads model b b2 → OneRun now d code x b → OneRun now d code x2 b2 → SameOutcomes model b b2
  derive [] [] a w w2 = tt
  derive (e ∷ b) (e2 ∷ b2) a w w2 =
      let same = derive b b2 a.1 (older now d code x e b w) (older now d code x2 e2 b2 w2) in
      let h = a.0.but_outcome in
      let st = w.stands.0 in
      let item = ap (λ (t : Entry). t.item) h in
      let c2 : ComesTo e2.outcome (as_known e (outcome_behind s2 b2 e)) = subst (ComesTo e2.outcome) (sym (ap (λ (t : Entry). as_known t (outcome_behind s2 b2 t)) h)) w2.stands.0.computed in
      let of_x2 : effect_of x2.regs b2 e2 ≡ effect_of x2.regs b2 e = ap (λ i. effect_of x2.regs b2 (of_item i)) (sym item) in (
        record {
          but_outcome = h;
          issued = a.0.issued;
          outcomes = entry_same model s s2 b b2 e e2 place a.0.issued st.computed c2 a.0.reads
              (λ l i. load_untainted code model b e st.item l (w.guarded.0.load i l))
              (λ t. effects_alike model x x2 regs b b2 same e e2 h t ∙ of_x2)
              (λ k t. addresses_alike model x x2 regs b b2 same e e2 h (by_base code e st.item (or_true (is_load e.item.kind) (is_store e.item.kind) k)) t ∙ ap (λ (f : Effect). f.addr) of_x2);
        },
        same,
      )
  derive _ _ a w w2 = absurd a
