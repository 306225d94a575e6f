-- What the queue of stores gives to a load is what the older entries give to it.
use Rattle.std.proofs.Common.{◌≡◌, ℕ, ◌≤◌, Bool, true, not, ◌&&◌, ◌||◌, List, Option, ap, ap₂, sym, ◌∙◌, arith}
use Rattle.std.specs.Prelude.{is_some, map, nat_le}
use Rattle.std.specs.List.{filter, list_any}
use Rattle.std.proofs.lemmas.Bool.Decides.{nat_tests}
use Rattle.rv_types.specs.Memory.{range}
use Rattle.rv_types.specs.declared.Cause.{Cause}
use Rattle.machine_desc.specs.declared.SttModel.{SttModel}
use Rattle.rv_types.specs.Value.{bytes_in}
use Rattle.rv_types.specs.Word.{from_le}
use Rattle.rv_types.specs.declared.Width.{Width}
use Rattle.window_model.specs.declared.Entry.{Entry}
use Rattle.window_model.specs.Access.{all_covered, any_store_hidden, load_bytes}
use Rattle.window_model.specs.MayIssue.{stores_let}
use Rattle.window_model.specs.Order.{before_at}
use Rattle.window_model.specs.Retire.{byte_count}
use Rattle.lsq.specs.Queues.{older, youngest_root}
use Rattle.lsq.specs.Merging.{all_forwarded, merged_bytes}
use Rattle.lsq.specs.Pending.{bytes_asked, lacks_address, lacks_data_for}
use Rattle.lsq.specs.declared.store.Store.{Store}
use Rattle.queue_laws.specs.Window.{StoresStandFor, hides, tainted_stores}
use Rattle.queue_laws.proofs.Letting.{lets_are}
use Rattle.queue_laws.proofs.Roots.{hidden_is}
use Rattle.queue_laws.proofs.Telling.{bytes_are, covered_is}
use Rattle.visibility.specs.Point.{is_hidden}
use Rattle.refinement.proofs.Queues.{hides_root, queues_stand, stores_before, tells_each_store}
use Rattle.issue.specs.declared.seen.Seen.{Seen}
use Rattle.issue.specs.State.{IssueInvariant, StandsAt, flight_of}

-- what is older than a visible entry is visible
down : (point a b : ℕ) → a ≤ b → nat_le b point ≡ true → nat_le a point ≡ true
down point a b le h = grind (arith, nat_tests)

module _ (s : Seen) (i : ℕ) (e : Entry) (t : IssueInvariant s) (h : StandsAt s i e) where
  abbrev before : List Entry
  before = before_at s.rob.now.entries i

  -- the stores that are older
  abbrev pub stores : List Store
  stores = older e.serial s.lsq.now.stores

  abbrev model : SttModel
  model = s.desc.now.stt_model

  pub stand : StoresStandFor stores before
  stand = stores_before s.lsq.now s.rob.now.entries i e (queues_stand (flight_of t.next t.writes s) t.refines) t.refines.rise h

  -- the root of each older store tells whether its address is tainted
  each_told : map (λ s2. hides (λ root. nat_le root s.point.now.serial) s2.root) stores ≡ tainted_stores model before
  each_told = tells_each_store (flight_of t.next t.writes s) i e t.refines t.advanced h ∙ ap (λ m. tainted_stores m before) t.model

  -- a load goes behind them where the queue says so
  pub let_is : (passes : Bool) (fault : Option Cause) (a n : ℕ) →
      stores_let model passes (bytes_asked fault a n) before
      ≡ ((passes || not (list_any lacks_address stores)) && not (list_any (lacks_data_for (bytes_asked fault a n)) stores) && not (is_hidden s.point.now.serial (youngest_root (filter (λ s. not (is_some s.stored)) stores))))
  let_is passes fault a n =
      lets_are model passes (λ root. nat_le root s.point.now.serial) (down s.point.now.serial) stores before fault a n stand each_told
      ∙ ap (λ b. (passes || not (list_any lacks_address stores)) && not (list_any (lacks_data_for (bytes_asked fault a n)) stores) && not b) (hides_root s.point.now.serial (youngest_root (filter (λ s. not (is_some s.stored)) stores)))

  -- the number that the queue merges for a load is that of the bytes that the definition loads
  pub number_is : (passes : Bool) (a : ℕ) (w : Width) → bytes_in w ≡ byte_count e → stores_let model passes (range a (byte_count e)) before ≡ true →
      from_le (merged_bytes s.ram.now stores a (bytes_in w)) ≡ from_le (load_bytes s.ram.now before a (byte_count e))
  number_is passes a w n d =
      ap from_le (bytes_are model passes s.ram.now stores before a (bytes_in w) stand (ap (λ n. stores_let model passes (range a n) before) n ∙ d))
      ∙ ap (λ n. from_le (load_bytes s.ram.now before a n)) n

  pub forwarded_is : (passes : Bool) (a : ℕ) (w : Width) (b c : Bool) → bytes_in w ≡ byte_count e → stores_let model passes (range a (byte_count e)) before ≡ true →
      b ≡ all_forwarded stores a (bytes_in w) → c ≡ is_hidden s.point.now.serial (youngest_root stores) →
      (b && not c) ≡ (all_covered before a (byte_count e) && not (any_store_hidden model before))
  forwarded_is passes a w b c n d p q =
      let covered = p ∙ covered_is model passes stores before a (bytes_in w) stand (ap (λ n. stores_let model passes (range a n) before) n ∙ d) ∙ ap (all_covered before a) n in
      let hidden = q ∙ sym (hides_root s.point.now.serial (youngest_root stores)) ∙ hidden_is model (λ root. nat_le root s.point.now.serial) (down s.point.now.serial) stores before each_told in
      ap₂ (λ b c. b && not c) covered hidden
