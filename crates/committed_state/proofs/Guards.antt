-- What has issued waited for untainted operands: every phase, a cycle and a run keep this.
use Rattle.std.proofs.Common.{List, [], ◌∷◌, ◌++◌, refl, sym, subst, append_assoc}
use Rattle.std.specs.Prelude.{reverse}
use Rattle.rv_types.specs.Memory.{Code}
use Rattle.machine_desc.specs.declared.Desc.{Desc}
use Rattle.window_model.specs.declared.Entry.{Entry}
use Rattle.window_model.specs.State.{Machine, opening}
use Rattle.window_model.specs.Order.{Place}
use Rattle.window_model.specs.Fill.{fill, complete, after_completion}
use Rattle.window_model.specs.Clear.{clear, cleared_one}
use Rattle.window_model.specs.Resolve.{resolve}
use Rattle.window_model.specs.Retire.{retire}
use Rattle.window_model.specs.Around.{around}
use Rattle.window_model.specs.Issue.{Begun, issue, issue_entry}
use Rattle.window_model.specs.Rename.{rename}
use Rattle.window_model.specs.Fetch.{fetch}
use Rattle.window_model.proofs.EntryByEntry.{map_each, map_is_each, each_on, along_front}
use Rattle.window_model.proofs.Clearing.{Cleared, clear_keep}
use Rattle.window_model.proofs.Placing.{place_keep}
use Rattle.window_model.proofs.Walks.{head_drops, retire_keep, rename_keep, fetch_keep, cycle_keep, run_keep}
use Rattle.committed_state.specs.Guarded.{IsGuarded, AllGuarded, CycleGuards, RunGuards}
use Rattle.window_model.specs.Along.{Fact}
use Rattle.committed_state.proofs.Clears.{Clears, clears_same}
use Rattle.committed_state.proofs.Untainted.{cleared_on, guarded_on, guarded_drops, guarded_new, guarded_completed, guarded_issued, resolved_on}

module _ (d : Desc) where
  abbrev W : List Entry → Type 0
  W = AllGuarded d.stt_model

  abbrev G : Fact
  G = IsGuarded d.stt_model

  abbrev P : Machine → Type 0
  P x = W x.window

  -- Fill keeps that what has issued had untainted operands
  pub guarded_fill : (x : Machine) → W x.window → W (fill d x).machine.window
  guarded_fill x h = h

  -- Complete keeps that what has issued had untainted operands
  pub guarded_complete : (x : Machine) → W x.window → W (complete x).machine.window
  guarded_complete x h = subst W (map_is_each (after_completion x.cycle) [] x.window) (each_on G Clears clears_same (guarded_on d.stt_model) (λ b e. after_completion x.cycle e) (λ b e u k. guarded_completed d.stt_model x.cycle b e k) [] [] x.window tt tt h)

  -- Issue keeps that what has issued had untainted operands
  pub guarded_issue : (x : Machine) → W x.window → W (issue d x).machine.window
  guarded_issue x h = subst W (sym (map_each (λ (t : Begun). t.entry) (issue_entry d (around x)) [] x.window)) (each_on G Clears clears_same (guarded_on d.stt_model) (λ b e. (issue_entry d (around x) b e).entry) (λ b e u k. guarded_issued d.stt_model d (around x) refl b e k) [] [] x.window tt tt h)

  -- Resolve keeps that what has issued had untainted operands
  pub guarded_resolve : (x : Machine) → W x.window → W (resolve d x).machine.window
  guarded_resolve = place_keep d W (along_front G []) (λ b e ys m h. resolved_on d.stt_model (reverse b) ys e m.done h)

  -- the store that is cleared, with what is younger
  cleared_here : (x : Machine) (p : Place) → Cleared d x p → W x.window → W (reverse p.before ++ cleared_one p.entry ∷ p.younger)
  cleared_here x p t h = cleared_on d.stt_model (reverse p.before) p.younger p.entry (subst W t.window h)

  -- Clear keeps that what has issued had untainted operands
  pub guarded_clear : (x : Machine) → W x.window → W (clear d x).machine.window
  guarded_clear =
      clear_keep d P cleared_here
      (λ x p q t u h.
      along_front G [] (reverse p.before ++ cleared_one p.entry ∷ reverse q.before) (q.entry ∷ q.younger)
      (subst W (sym (append_assoc (reverse p.before) (cleared_one p.entry ∷ reverse q.before) (q.entry ∷ q.younger))) (subst (λ ys. W (reverse p.before ++ cleared_one p.entry ∷ ys)) u.younger (cleared_here x p t h))))

  -- Retire keeps that what has issued had untainted operands
  pub guarded_retire : (x : Machine) → W x.window → W (retire d x).machine.window
  guarded_retire = retire_keep d P (head_drops W (guarded_drops d.stt_model) d) (λ x end h. h)

  -- Rename keeps that what has issued had untainted operands
  pub guarded_rename : (x : Machine) → W x.window → W (rename d x).machine.window
  guarded_rename = rename_keep d P (λ x i rest q f h. guarded_new d.stt_model d [] x.window x.next_serial i h)

  -- Fetch keeps that what has issued had untainted operands
  pub guarded_fetch : (code : Code) (x : Machine) → W x.window → W (fetch d code x).machine.window
  guarded_fetch code = fetch_keep d P code (λ x pc q r h. h)

-- a cycle keeps that what has issued had untainted operands
pub guarded_cycle : CycleGuards
guarded_cycle d code x h =
    cycle_keep d (P d) code (guarded_issue d) (guarded_rename d) (guarded_fetch d code) (guarded_resolve d) (guarded_clear d) (guarded_retire d) (λ x h. h) (guarded_fill d) (guarded_complete d) x h

-- in every state of a run what has issued had untainted operands
pub guarded_at : RunGuards
guarded_at d code entry ram k = run_keep d (P d) code (guarded_cycle d code) k (opening d entry ram) tt
