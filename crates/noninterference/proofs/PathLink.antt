-- What is visible stands on the path: the path leads from the retired state to it, and the replay says in which state.
use Rattle.std.proofs.Common.{◌≡◌, ℕ, Bool, true, false, not, ◌&&◌, ◌||◌, List, [], ◌∷◌, length, Some, refl, ap, ◌∙◌}
use Rattle.std.specs.List.{list_all}
use Rattle.rv_types.specs.Memory.{Code}
use Rattle.machine_desc.specs.declared.Desc.{Desc}
use Rattle.machine_desc.specs.declared.SttModel.{SttModel}
use Rattle.window_model.specs.declared.Entry.{Entry}
use Rattle.window_model.specs.Order.{is_store}
use Rattle.window_model.specs.Taint.{permits, protects, visible}
use Rattle.window_model.specs.Rename.{at_once}
use Rattle.window_model.specs.Along.{Behind}
use Rattle.window_model.specs.Committed.{Aligned}
use Rattle.window_model.specs.Path.{path}
use Rattle.window_model.proofs.Booleans.{both, not_true}
use Rattle.window_model.proofs.Permitting.{uncleared_fails}
use Rattle.committed_state.specs.Replay.{Bank, bank, is_clear}
use Rattle.committed_state.specs.Consistent.{EntryInvariant, goes_through}
use Rattle.committed_state.proofs.Known.{replayed_behind}
use Rattle.noninterference.proofs.Onward.{LeadsTo}
use Rattle.noninterference.proofs.OneRun.{Linked, reaches}
use Rattle.noninterference.proofs.Faults.{hart}
use Rattle.noninterference.proofs.PathStep.{permitted_steps}

-- an entry that lets younger ones be visible is no store, or a cleared one
permits_clear : (model : SttModel) (e : Entry) → protects model ≡ true → permits model e ≡ true → is_clear e ≡ true
permits_clear model e p v = by_store (is_store e.item.kind) e.cleared refl refl
  where
    by_store : (s c : Bool) → is_store e.item.kind ≡ s → e.cleared ≡ c → (not s || c) ≡ true
    by_store false c q r = refl
    by_store true true q r = refl
    by_store true false q r = absurd (let f = uncleared_fails model e p q r in cc)

-- before what is visible all stores are cleared
pub visible_clear : (model : SttModel) (before : List Entry) → protects model ≡ true → visible model before ≡ true → list_all is_clear before ≡ true
visible_clear model [] p v = refl
visible_clear model (e ∷ before) p v =
    let vs = both (permits model e) (visible model before) v in
    ap (λ c. c && list_all is_clear before) (permits_clear model e p vs.0) ∙ visible_clear model before p vs.1

module _ (now : ℕ) (d : Desc) (protected : protects d.stt_model ≡ true) (code : Code) (aligned : Aligned code) where
  -- what comes after visible entries that are no stop and no call is on the path
  pub leads_to : (s : Bank) → length s.regs ≡ 32 → (pc : ℕ) (before : List Entry) (n : ℕ) → Behind (EntryInvariant d code s now) before → Linked pc before → list_all goes_through before ≡ true → visible d.stt_model before ≡ true → reaches pc before ≡ Some n →
      LeadsTo (path d.stt_model code) (hart pc s) (length before) (hart n (bank s before))
  leads_to s m pc [] n b l t v r = ap (λ p. hart p s) (let e : Some pc ≡ Some n = r in cc)
  leads_to s m pc (e ∷ before) n b l t v r =
      let vs = both (permits d.stt_model e) (visible d.stt_model before) v in
      let through = b.0.through in (
        hart e.item.pc (bank s before),
        leads_to s m pc before e.item.pc b.1 l.1 through vs.1 l.0,
        permitted_steps code aligned (bank s before) e n b.0.item b.0.state b.0.parts ((replayed_behind d code s now m (e ∷ before) b).0 (visible_clear d.stt_model before protected vs.1)) (not_true (at_once e.item.kind) (both (goes_through e) (list_all goes_through before) t).0) r d.stt_model protected vs.0,
      )
