-- What a load waits for in the older stores, and whether it is let go (docs/machine.md, "Issue").
use Rattle.std.specs.Prelude.{ℕ, Bool, List, false, not, ◌&&◌, ◌||◌, if◌then◌else◌}
use Rattle.std.specs.List.{list_all, list_any}
use Rattle.rv_types.specs.declared.Kind.{Kind}
use Rattle.rv_types.specs.declared.Kind.TheVariants.{Div, Load}
use Rattle.machine_desc.specs.Questions.{stores_in_one}
use Rattle.window_model.specs.Around.{is_free}
use Rattle.window_model.specs.MayIssue.{bytes_of, passes_stores}
use Rattle.visibility.specs.Point.{is_hidden}
use Rattle.lsq.specs.declared.pending.Pending.{Pending}
use Rattle.lsq.specs.Pending.{pending_among, lacks_address}
use Rattle.lsq.specs.Queues.{is_known, older}
use Rattle.lsq.specs.declared.store.Store.{Store}
use Rattle.issue.specs.declared.candidate.Candidate.{Candidate}
use Rattle.issue.specs.declared.seen.Seen.{Seen}
use Rattle.issue.specs.State.{around_of, before_of}

-- the load in its place passes older stores whose address isn't known
abbrev pub passes_here : Seen → Candidate → Bool
passes_here s p = passes_stores s.desc.now (around_of s) p.entry.now

-- the stores of the queue that are older than the load in its place
abbrev pub older_here : Seen → Candidate → List Store
older_here s p = older p.entry.now.serial s.lsq.now.stores

-- the older stores keep the load in its place whatever its address: in version 1 where one lacks a part, in version 2
-- where one lacks its address, unless the load passes stores
abbrev pub stores_keep : Seen → Candidate → Bool
stores_keep s p = if stores_in_one s.desc.now then not (list_all is_known (older_here s p)) else not (passes_here s p) && list_any lacks_address (older_here s p)

-- an entry of this kind is kept whatever its operands are: a load by the older stores, a division by a divider that
-- isn't free
abbrev pub kept_as : Kind → Seen → Candidate → Bool
kept_as Load s p = stores_keep s p
kept_as Div s p = not (is_free (around_of s))
kept_as _ s p = false

-- the entry in its place is kept whatever its operands are, by its kind
abbrev pub is_kept : Seen → Candidate → Bool
is_kept s p = kept_as p.entry.now.item.kind s p

-- what the queue of stores says of the bytes that the load asks for
abbrev pub pending_here : Seen → Candidate → Pending
pending_here s p = pending_among (bytes_of (around_of s) (before_of s p) p.entry.now) (older_here s p)

-- no older store keeps the load: one whose address isn't known lets it go where the load passes stores, and none
-- without data covers a byte of the load or has a tainted address
abbrev pub lets_by : Bool → ℕ → Pending → Bool
lets_by passes point p = (passes || not p.address) && not p.overlap && not (is_hidden point p.root)
