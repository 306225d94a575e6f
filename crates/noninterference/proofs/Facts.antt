-- What a run keeps for itself (`OwnFacts`) is kept by each phase.
use Rattle.std.proofs.Common.{◌≡◌, ℕ, ◌+◌, ◌≤◌, true, not, ◌&&◌, List, [], ◌∷◌, ◌++◌, length, map, None, ap, sym, ◌∙◌, subst, arith, length-append}
use Rattle.std.specs.Prelude.{nat_lt, reverse}
use Rattle.std.specs.List.{list_any}
use Rattle.rv_types.specs.Memory.{Code, Ram}
use Rattle.machine_desc.specs.declared.Desc.{Desc}
use Rattle.window_model.specs.declared.Entry.{Entry}
use Rattle.window_model.specs.declared.Item.{Item}
use Rattle.window_model.specs.State.{Machine, opening}
use Rattle.window_model.specs.Around.{around}
use Rattle.window_model.specs.Fill.{fill, complete, after_completion}
use Rattle.window_model.specs.Resolve.{resolve}
use Rattle.window_model.specs.Clear.{clear, cleared_one}
use Rattle.window_model.specs.Retire.{retire}
use Rattle.window_model.specs.Issue.{issue}
use Rattle.window_model.specs.Rename.{rename, entry_of_item, fits, fits_as, is_call}
use Rattle.window_model.specs.Fetch.{fetch}
use Rattle.window_model.specs.Cycle.{begins_cycle}
use Rattle.window_model.specs.Committed.{Aligned}
use Rattle.window_model.proofs.Booleans.{both, below}
use Rattle.window_model.proofs.Counts.{Evolves, evolves_same, evolves_thins, thins_length, map_evolves, place_evolves, completed_goes}
use Rattle.window_model.proofs.Clearing.{clear_keep}
use Rattle.window_model.proofs.Placing.{place_keep}
use Rattle.window_model.proofs.Resolving.{resolved_goes, resolved_one}
use Rattle.window_model.proofs.Walks.{head_drops, retire_keep, rename_keep, fetch_keep}
use Rattle.window_model.proofs.Issuing.{issue_evolves}
use Rattle.committed_state.specs.Consistent.{ConsistentIn}
use Rattle.committed_state.proofs.Clear.{consistent_clear}
use Rattle.committed_state.proofs.Complete.{consistent_fill, consistent_complete}
use Rattle.committed_state.proofs.Resolve.{consistent_resolve}
use Rattle.committed_state.proofs.Retire.{consistent_retire}
use Rattle.committed_state.proofs.Issue.{consistent_issue}
use Rattle.committed_state.proofs.Numbers.{issue_cycle}
use Rattle.committed_state.proofs.RenameFetch.{consistent_rename, consistent_fetch}
use Rattle.committed_state.proofs.Run.{consistent_opening}
use Rattle.committed_state.proofs.Guards.{guarded_fill, guarded_complete, guarded_resolve, guarded_clear, guarded_retire, guarded_issue, guarded_rename, guarded_fetch}
use Rattle.noninterference.specs.Together.{OwnFacts}

-- ---- no window is longer than the buffer

module _ (d : Desc) where
  abbrev Room : List Entry → Type 0
  Room w = length w ≤ d.core_rob

  abbrev HasRoom : Machine → Type 0
  HasRoom x = Room x.window

  evolves_room : (w w2 : List Entry) → Evolves w w2 → Room w → Room w2
  evolves_room w w2 v h = let l = thins_length w2 w (evolves_thins w w2 v) in omega arith

  complete_room : (x : Machine) → HasRoom x → HasRoom (complete x).machine
  complete_room x h = evolves_room x.window (map (after_completion x.cycle) x.window) (map_evolves (after_completion x.cycle) (completed_goes x.cycle) x.window) h

  issue_room : (x : Machine) → HasRoom x → HasRoom (issue d x).machine
  issue_room x h = evolves_room x.window _ (issue_evolves d (around x) [] x.window) h

  resolve_room : (x : Machine) → HasRoom x → HasRoom (resolve d x).machine
  resolve_room =
      place_keep d Room (λ front back h. let l = length-append front back in omega arith)
      (λ b e ys m h. evolves_room (reverse b ++ e ∷ ys) _ (place_evolves (reverse b) e (resolved_one e) ys ys (resolved_goes e) (evolves_same ys)) h)

  clear_room : (x : Machine) → HasRoom x → HasRoom (clear d x).machine
  clear_room =
      clear_keep d HasRoom
      (λ x p t h.
      let w = ap length t.window in
      let a = length-append (reverse p.before) (p.entry ∷ p.younger) in
      let b = length-append (reverse p.before) (cleared_one p.entry ∷ p.younger) in
      omega arith)
      (λ x p q t u h.
      let w = ap length t.window in
      let y = ap length u.younger in
      let a = length-append (reverse p.before) (p.entry ∷ p.younger) in
      let b = length-append (reverse q.before) (q.entry ∷ q.younger) in
      let c = length-append (reverse p.before) (cleared_one p.entry ∷ reverse q.before) in
      omega arith)

  retire_room : (x : Machine) → HasRoom x → HasRoom (retire d x).machine
  retire_room = retire_keep d HasRoom (head_drops Room (λ e rest h. omega arith) d) (λ x end h. h)

  push_room : (w : List Entry) (i : Item) (serial : ℕ) → fits d w i ≡ true → Room (w ++ entry_of_item d serial i ∷ [])
  push_room w i serial f =
      let a = both (nat_lt (length w) d.core_rob && not (list_any (λ e. is_call e.item.kind) w) && fits_as i.kind d w) _ f in
      let b = both (nat_lt (length w) d.core_rob && not (list_any (λ e. is_call e.item.kind) w)) _ a.0 in
      let c = both (nat_lt (length w) d.core_rob) _ b.0 in
      let lt = below (length w) d.core_rob c.0 in
      let n = length-append w (entry_of_item d serial i ∷ []) in
      omega arith

  rename_room : (x : Machine) → HasRoom x → HasRoom (rename d x).machine
  rename_room = rename_keep d HasRoom (λ x i rest q f h. push_room x.window i x.next_serial f)

  fetch_room : (code : Code) (x : Machine) → HasRoom x → HasRoom (fetch d code x).machine
  fetch_room code = fetch_keep d HasRoom code (λ x pc q r h. h)

-- ---- all that a run keeps for itself

module _ (now : ℕ) (d : Desc) (code : Code) where
  -- a run keeps its own facts as a cycle begins
  pub facts_begin : (x : Machine) → OwnFacts now d code x → OwnFacts now d code (begins_cycle x)
  facts_begin x f = record { consistent = f.consistent; guarded = f.guarded; fits = f.fits }

  -- a run keeps its own facts over Fill
  pub facts_fill : (x : Machine) → OwnFacts now d code x → OwnFacts now d code (fill d x).machine
  facts_fill x f = record { consistent = consistent_fill now code d x f.consistent; guarded = guarded_fill d x f.guarded; fits = f.fits }

  -- a run keeps its own facts over Complete
  pub facts_complete : (x : Machine) → OwnFacts now d code x → OwnFacts now d code (complete x).machine
  facts_complete x f = record { consistent = consistent_complete now code d x f.consistent; guarded = guarded_complete d x f.guarded; fits = complete_room d x f.fits }

  -- a run keeps its own facts over Resolve
  pub facts_resolve : (x : Machine) → OwnFacts now d code x → OwnFacts now d code (resolve d x).machine
  facts_resolve x f = record { consistent = consistent_resolve now code d x f.consistent; guarded = guarded_resolve d x f.guarded; fits = resolve_room d x f.fits }

  -- a run keeps its own facts over Clear
  pub facts_clear : (x : Machine) → OwnFacts now d code x → OwnFacts now d code (clear d x).machine
  facts_clear x f = record { consistent = consistent_clear now code d x f.consistent; guarded = guarded_clear d x f.guarded; fits = clear_room d x f.fits }

  -- a run that has not ended keeps its own facts over Retire, where instructions stand at multiples of 4
  pub facts_retire : Aligned code → (x : Machine) → x.end ≡ None → OwnFacts now d code x → OwnFacts now d code (retire d x).machine
  facts_retire aligned x n f = record { consistent = consistent_retire now code aligned d x f.consistent n; guarded = guarded_retire d x f.guarded; fits = retire_room d x f.fits }

  -- Issue of cycle `now` leaves what a run keeps for itself as Issue of the next cycle finds it
  pub facts_issue : (x : Machine) → x.cycle ≡ now → OwnFacts now d code x → OwnFacts (now + 1) d code (issue d x).machine
  facts_issue x q f =
      let next = consistent_issue code d x (subst (λ n. ConsistentIn n d code x) (sym q) f.consistent) in
      record {
        consistent = subst (λ n. ConsistentIn (n + 1) d code (issue d x).machine) (issue_cycle d x ∙ q) next;
        guarded = guarded_issue d x f.guarded;
        fits = issue_room d x f.fits;
      }

  -- a run keeps its own facts over Rename
  pub facts_rename : (x : Machine) → OwnFacts now d code x → OwnFacts now d code (rename d x).machine
  facts_rename x f = record { consistent = consistent_rename now code d x f.consistent; guarded = guarded_rename d x f.guarded; fits = rename_room d x f.fits }

  -- a run keeps its own facts over Fetch
  pub facts_fetch : (x : Machine) → OwnFacts now d code x → OwnFacts now d code (fetch d code x).machine
  facts_fetch x f = record { consistent = consistent_fetch now code d x f.consistent; guarded = guarded_fetch d code x f.guarded; fits = fetch_room d code x f.fits }

-- what a run keeps for itself holds of the first state
pub facts_opening : (d : Desc) (code : Code) (entry : ℕ) (ram : Ram) → OwnFacts 1 d code (opening d entry ram)
facts_opening d code entry ram = record { consistent = consistent_opening code d entry ram; guarded = tt; fits = omega arith }
