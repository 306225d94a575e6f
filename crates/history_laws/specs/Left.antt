-- What history and return stack have of all that was fetched (docs/theorems.md, "History and return stack").
use Rattle.std.specs.Prelude.{◌≡◌, ℕ, zero, suc, ◌+◌, ◌-◌, Bool, ◌&&◌, List, [], ◌∷◌, ◌++◌, length, map, take, drop, Some, if◌then◌else◌}
use Rattle.rv_types.specs.Word.{word_add}
use Rattle.rv_types.specs.Memory.{Code, Ram}
use Rattle.rv_types.specs.declared.Kind.{Kind}
use Rattle.rv_types.specs.declared.Kind.TheVariants.{Branch}
use Rattle.machine_desc.specs.declared.Desc.{Desc}
use Rattle.window_model.specs.declared.Entry.{Entry}
use Rattle.window_model.specs.declared.Item.{Item}
use Rattle.window_model.specs.declared.Checkpoint.{Checkpoint}
use Rattle.window_model.specs.History.{checkpoint_after, no_checkpoint}
use Rattle.window_model.specs.Fetch.{guess, target_of}
use Rattle.window_model.specs.Issue.{issue}
use Rattle.window_model.specs.Rename.{rename}
use Rattle.window_model.specs.Resolve.{is_taken, squashes}
use Rattle.window_model.specs.Retire.{retire, unless_ended}
use Rattle.window_model.specs.Cycle.{at, before_retire, begins_cycle, cycle}
use Rattle.window_model.specs.State.{Machine, opening}

-- ---- with which direction a branch counts

-- a branch that is predicted to go this way: fetching went on there
abbrev pub GoesBy : Kind → Item → Bool → Type 0
GoesBy Branch i way = i.predicted ≡ Some (if way then target_of i.pc i.instr else word_add i.pc 4)
GoesBy _ i way = Unit {0}

abbrev pub Goes : Item → Bool → Type 0
Goes i way = GoesBy i.kind i way

-- the resolution of an entry squashed
abbrev pub has_squashed : Entry → Bool
has_squashed e = e.resolved && squashes e

-- an entry whose resolution squashed counts with its true direction, any other with the predicted one
abbrev pub direction : Entry → Bool → Bool
direction e predicted = if has_squashed e then is_taken e.outcome else predicted

-- ---- over what history and stack go on

-- history and stack after an item that counts with this direction
abbrev pub after_item : Desc → Item → Bool → Checkpoint
after_item d i way = checkpoint_after i.kind d i.pc i.instr way i.checkpoint

-- items with these predicted directions lead from one checkpoint to another: each has the checkpoint to which those
-- before it lead
abbrev pub LeadsOver : Desc → Checkpoint → List Item → List Bool → Checkpoint → Type 0
LeadsOver d from [] [] to = to ≡ from
LeadsOver d from (i ∷ q) (way ∷ ways) to = (i.checkpoint ≡ from) × Goes i way × LeadsOver d (after_item d i way) q ways to
LeadsOver d from _ _ to = ⊥

-- entries with these predicted directions, and items behind them, lead from one checkpoint to another
abbrev pub Leads : Desc → Checkpoint → List Entry → List Item → List Bool → Checkpoint → Type 0
Leads d from [] q ways to = LeadsOver d from q ways to
Leads d from (e ∷ es) q (way ∷ ways) to = (e.item.checkpoint ≡ from) × Goes e.item way × Leads d (after_item d e.item (direction e way)) es q ways to
Leads d from (e ∷ es) q [] to = ⊥

-- ---- what is left of all that was fetched

-- the entries that retire in a cycle, oldest first
abbrev pub retiring : Desc → Machine → List Entry
retiring d x =
    let y = (before_retire d (begins_cycle x)).machine in
    take ((retire d y).machine.retired - y.retired) y.window

-- the entries that retire within k cycles
abbrev pub retired_in : Desc → Code → ℕ → Machine → List Entry
retired_in d code zero x = []
retired_in d code (suc k) x = unless_ended x.end [] (retiring d x ++ retired_in d code k (cycle d code x).machine)

-- ---- what was predicted of it

-- the machine as the last phase of a cycle begins; where the run ends in the cycle, as it ends
abbrev pub before_fetch : Desc → Machine → Machine
before_fetch d x =
    let y = (retire d (before_retire d (begins_cycle x)).machine).machine in
    unless_ended y.end y (rename d (issue d y).machine).machine

-- the directions that the counters predict of items
abbrev pub guesses : Desc → List ℕ → List Item → List Bool
guesses d counters items = map (λ i. guess i.kind d counters i.checkpoint i.pc) items

-- the directions of what is left after a cycle, with all that has retired: of as many as are left as its last phase
-- begins, and then those that are predicted of the items that it fetches
abbrev pub predicted_on : Desc → Code → List Entry → Machine → List Bool → List Bool
predicted_on d code gone x ways =
    let y = before_fetch d x in
    take (length (gone ++ y.window) + length y.queue) ways ++ guesses d y.counters (drop (length y.queue) (cycle d code x).machine.queue)

-- the directions that were predicted of what is left after k cycles
abbrev pub predicted_in : Desc → Code → ℕ → List Entry → Machine → List Bool → List Bool
predicted_in d code zero gone x ways = ways
predicted_in d code (suc k) gone x ways =
    unless_ended x.end ways (predicted_in d code k (gone ++ retiring d x) (cycle d code x).machine (predicted_on d code (gone ++ retiring d x) x ways))

-- in every state of a run what has retired, what is in flight and what is fetched lead from no checkpoint to the
-- present one, by what was predicted of each as it was fetched
abbrev pub FollowWhatIsLeft : Type 0
FollowWhatIsLeft = (d : Desc) (code : Code) (entry : ℕ) (ram : Ram) (k : ℕ) →
    let first = opening d entry ram in
    let x = at d code entry ram k in Leads d no_checkpoint (retired_in d code k first ++ x.window) x.queue (predicted_in d code k [] first []) x.checkpoint
