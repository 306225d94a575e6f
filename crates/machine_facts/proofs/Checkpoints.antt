-- History and stack stay as large as the description says, wherever they stand.
use Rattle.std.proofs.Common.{ℕ, Bool, true, false, List, [], ◌∷◌, ◌++◌, sym, subst, arith}
use Rattle.std.proofs.lemmas.List.{length-take, length-drop}
use Rattle.std.proofs.lemmas.Nat.{pow_pos}
use Rattle.std.specs.Prelude.{if◌then◌else◌, map, reverse}
use Rattle.std.specs.List.{AllByRecursion as Each}
use Rattle.rv_types.specs.Memory.{Code, Ram}
use Rattle.rv_types.specs.Word.{word_add}
use Rattle.rv_types.specs.declared.Instr.{Instr}
use Rattle.rv_types.specs.declared.Kind.{Kind}
use Rattle.rv_types.specs.declared.Kind.TheVariants.{Branch, Jal, Jalr}
use Rattle.machine_desc.specs.declared.Desc.{Desc}
use Rattle.window_model.specs.declared.Divider.{Divider}
use Rattle.window_model.specs.declared.Entry.{Entry}
use Rattle.window_model.specs.declared.Item.{Item}
use Rattle.window_model.specs.declared.Checkpoint.{Checkpoint}
use Rattle.window_model.specs.Around.{around}
use Rattle.window_model.specs.State.{Machine, opening}
use Rattle.window_model.specs.Order.{Place, each_from, first}
use Rattle.window_model.specs.Fill.{complete, after_completion}
use Rattle.window_model.specs.Resolve.{resolve}
use Rattle.window_model.specs.Retire.{retire}
use Rattle.window_model.specs.Ports.{LoadPort, may_at}
use Rattle.window_model.specs.Issue.{Begun, issue, issue_entry}
use Rattle.window_model.specs.Rename.{rename, entry_of_item}
use Rattle.window_model.specs.Fetch.{fetch, item_at}
use Rattle.window_model.specs.History.{after_jump, links, checkpoint_after, after_pop, after_push, returns, after_direction, stack}
use Rattle.window_model.specs.Cycle.{at, cycle}
use Rattle.window_model.proofs.Counts.{Evolves, map_evolves, completed_goes}
use Rattle.window_model.proofs.Issuing.{by_after_load, issue_evolves}
use Rattle.window_model.proofs.Leaving.{head_by}
use Rattle.window_model.proofs.Lists.{each_join, each_left, each_right, each_push}
use Rattle.window_model.proofs.Placing.{Taken, resolve_keep}
use Rattle.window_model.proofs.Resolving.{resolved_one}
use Rattle.window_model.proofs.Walks.{cycle_keep, fetch_keep, heads_keep, rename_keep, run_keep}
use Rattle.machine_facts.proofs.ClearPhases.{checkpoints_clear}
use Rattle.machine_facts.specs.Checkpoints.{FitsCheckpoint, FitCheckpoints}

-- ---- what an instruction makes of history and stack

module _ (d : Desc) where
  shifted_fits : (way : Bool) (m : Checkpoint) → FitsCheckpoint d m → FitsCheckpoint d (after_direction d way m)
  shifted_fits way m h = record { history = omega arith; stack = h.stack }

  pushed_fits : (a : ℕ) (m : Checkpoint) → FitsCheckpoint d m → FitsCheckpoint d (after_push d a m)
  pushed_fits a m h = let n = length-take d.predictor_returns (a ∷ stack m) in record { history = h.history; stack = omega (arith, n) }

  popped_fits : (m : Checkpoint) → FitsCheckpoint d m → FitsCheckpoint d (after_pop m)
  popped_fits m h =
      let n = length-take m.depth m.addresses in
      let k = length-drop 1 (stack m) in
      record { history = h.history; stack = omega (arith, n, k, h.stack) }

  jumped_fits : (pc : ℕ) (i : Instr) (m : Checkpoint) → FitsCheckpoint d m → FitsCheckpoint d (after_jump d pc i m)
  jumped_fits pc i m h = by (links i) (returns i)
    where
      by : (b c : Bool) → FitsCheckpoint d (if b then after_push d (word_add pc 4) m else if c then after_pop m else m)
      by true c = pushed_fits (word_add pc 4) m h
      by false true = popped_fits m h
      by false false = h

  pub fits_after : (k : Kind) (pc : ℕ) (i : Instr) (way : Bool) (m : Checkpoint) → FitsCheckpoint d m → FitsCheckpoint d (checkpoint_after k d pc i way m)
  fits_after Branch pc i way m h = shifted_fits way m h
  fits_after Jal pc i way m h = jumped_fits pc i m h
  fits_after Jalr pc i way m h = jumped_fits pc i m h
  fits_after _ pc i way m h = h

-- ---- what each phase keeps

module _ (d : Desc) where
  abbrev EntryFits : Entry → Type 0
  EntryFits e = FitsCheckpoint d e.item.checkpoint

  abbrev ItemFits : Item → Type 0
  ItemFits i = FitsCheckpoint d i.checkpoint

  -- entries that go on keep their items
  evolves_fits : (w w2 : List Entry) → Evolves w w2 → Each EntryFits w → Each EntryFits w2
  evolves_fits w [] v h = tt
  evolves_fits [] (e2 ∷ w2) v h = absurd v
  evolves_fits (e ∷ w) (e2 ∷ w2) v h = (subst ItemFits (sym v.0.item) h.0, evolves_fits w w2 v.1 h.1)

  pub checkpoints_opening : (entry : ℕ) (ram : Ram) → FitCheckpoints d (opening d entry ram)
  checkpoints_opening entry ram = record { next = record { history = pow_pos d.predictor_history; stack = omega arith }; entries = tt; items = tt }

  checkpoints_complete : (x : Machine) → FitCheckpoints d x → FitCheckpoints d (complete x).machine
  checkpoints_complete x h = record { next = h.next; entries = evolves_fits x.window _ (map_evolves (after_completion x.cycle) (completed_goes x.cycle) x.window) h.entries; items = h.items }

  -- entries fit whose older ones stay, whose younger ones stay or go, and of which one is resolved
  entries_at : (x : Machine) (p : Place) → Taken d x p → FitCheckpoints d x → (zs : List Entry) → (Each EntryFits p.younger → Each EntryFits zs) → Each EntryFits (reverse p.before ++ resolved_one p.entry ∷ zs)
  entries_at x p t h zs v =
      let all = subst (Each EntryFits) t.window h.entries in
      let behind = each_right EntryFits (reverse p.before) _ all in
      each_join EntryFits (reverse p.before) _ (each_left EntryFits (reverse p.before) _ all) (behind.0, v behind.1)

  checkpoints_resolve : (x : Machine) → FitCheckpoints d x → FitCheckpoints d (resolve d x).machine
  checkpoints_resolve =
      resolve_keep d (FitCheckpoints d)
      (λ x p t q h.
      let e = p.entry in
      let all = subst (Each EntryFits) t.window h.entries in
      let own = (each_right EntryFits (reverse p.before) _ all).0 in
      record { next = fits_after d e.item.kind e.item.pc e.item.instr _ e.item.checkpoint own; entries = entries_at x p t h [] (λ k. tt); items = tt })
      (λ x p t q h. record { next = h.next; entries = entries_at x p t h p.younger (λ k. k); items = h.items })

  checkpoints_retire : (x : Machine) → FitCheckpoints d x → FitCheckpoints d (retire d x).machine
  checkpoints_retire =
      heads_keep d (FitCheckpoints d) (λ x e rest w l t h.
      let left = (subst (Each EntryFits) w h.entries).1 in
      head_by d e rest x (FitCheckpoints d) h (λ s end f. record { next = h.next; entries = left; items = h.items }) (record { next = h.next; entries = left; items = h.items }) e.item.kind
      (λ q. record { next = h.next; entries = left; items = h.items }))
      (λ x end h. record { next = h.next; entries = h.entries; items = h.items })

  checkpoints_issue : (x : Machine) → FitCheckpoints d x → FitCheckpoints d (issue d x).machine
  checkpoints_issue x h =
      let now = around x in
      let window = map (λ (b : Begun). b.entry) (each_from (issue_entry d now) [] x.window) in
      let entries = evolves_fits x.window window (issue_evolves d now [] x.window) h.entries in
      by_after_load d x (λ y. (v : Divider) → FitCheckpoints d (record y { window = window; divider = v })) (λ c s m v. record { next = h.next; entries = entries; items = h.items }) (first (may_at d now LoadPort) x.window) _

  checkpoints_rename : (x : Machine) → FitCheckpoints d x → FitCheckpoints d (rename d x).machine
  checkpoints_rename =
      rename_keep d (FitCheckpoints d) (λ x i rest q f h.
      let items = subst (Each ItemFits) q h.items in
      record { next = h.next; entries = each_push EntryFits x.window (entry_of_item d x.next_serial i) h.entries items.0; items = items.1 })

  checkpoints_fetch : (code : Code) (x : Machine) → FitCheckpoints d x → FitCheckpoints d (fetch d code x).machine
  checkpoints_fetch code =
      fetch_keep d (FitCheckpoints d) code (λ x pc q r h.
      let i = item_at d code x pc in
      record { next = fits_after d i.kind i.pc i.instr _ x.checkpoint h.next; entries = h.entries; items = each_push ItemFits x.queue i h.items h.next })

  -- ---- a cycle, and a run

  pub checkpoints_cycle : (code : Code) (x : Machine) → FitCheckpoints d x → FitCheckpoints d (cycle d code x).machine
  checkpoints_cycle code x h =
      cycle_keep d (FitCheckpoints d) code checkpoints_issue checkpoints_rename (checkpoints_fetch code) checkpoints_resolve (checkpoints_clear d) checkpoints_retire
      (λ x h. record { next = h.next; entries = h.entries; items = h.items }) (λ x h. record { next = h.next; entries = h.entries; items = h.items }) checkpoints_complete x h

-- history and stack fit the description in every state of a run
pub checkpoints_at : (d : Desc) (code : Code) (entry : ℕ) (ram : Ram) (k : ℕ) → FitCheckpoints d (at d code entry ram k)
checkpoints_at d code entry ram k = run_keep d (FitCheckpoints d) code (checkpoints_cycle d code) k (opening d entry ram) (checkpoints_opening d entry ram)
