-- Every phase but Retire keeps that what is left leads to the present checkpoint.
use Rattle.std.proofs.Common.{◌≡◌, ℕ, ◌+◌, Bool, true, false, ◌&&◌, List, [], ◌∷◌, ◌++◌, Some, refl, ap, sym, ◌∙◌, subst, append_assoc}
use Rattle.std.proofs.lemmas.List.{append-nil, map-append}
use Rattle.std.specs.Prelude.{if◌then◌else◌, map, reverse, nat_lt, length, ◌==◌}
use Rattle.std.specs.List.{AllByRecursion as Each, AllZip}
use Rattle.rv_types.specs.Memory.{Code}
use Rattle.rv_types.specs.declared.Kind.{Kind}
use Rattle.rv_types.specs.declared.Kind.TheVariants.{Branch, Store}
use Rattle.machine_desc.specs.declared.Desc.{Desc}
use Rattle.window_model.specs.declared.Divider.{Divider}
use Rattle.window_model.specs.declared.Entry.{Entry}
use Rattle.window_model.specs.declared.Item.{Item}
use Rattle.window_model.specs.declared.Progress.TheVariants.{Done}
use Rattle.window_model.specs.Order.{Place, each_from, first, is_control, is_store, is_waiting, value_of}
use Rattle.window_model.specs.Around.{Around, around}
use Rattle.window_model.specs.Fill.{fill, complete, after_completion, completes}
use Rattle.window_model.specs.Resolve.{resolve, squash, keep, squashes}
use Rattle.window_model.specs.Clear.{clear, cleared_one, clears, violates}
use Rattle.window_model.specs.Ports.{LoadPort, may_at}
use Rattle.window_model.specs.Issue.{Begun, executing_until, issue, issue_entry}
use Rattle.window_model.specs.Rename.{rename, rename_one, entry_of_item, fits}
use Rattle.window_model.specs.Fetch.{fetch, fetch_one, guess, item_at, kind_at, predicted_pc}
use Rattle.window_model.specs.History.{no_checkpoint}
use Rattle.window_model.specs.State.{Machine}
use Rattle.window_model.proofs.Booleans.{done_waits}
use Rattle.window_model.proofs.Clearing.{Cleared, Violated, clear_keep}
use Rattle.window_model.proofs.Issuing.{Comes, Remains, Begins, begin_comes, by_after_load, by_issue, gone_parts}
use Rattle.window_model.proofs.Lists.{each_push, each_join, each_left, each_right}
use Rattle.window_model.proofs.Placing.{Taken, resolve_keep, taught}
use Rattle.window_model.proofs.Resolving.{resolved_one}
use Rattle.window_model.proofs.Walks.{rename_keep, fetch_keep}
use Rattle.history_laws.specs.Left.{GoesBy, Leads, after_item, guesses}
use Rattle.history_laws.proofs.Leading.{GoesOn, LeadsBy, goes_same, fresh_goes, leads_push, leads_rename, leads_behind, leads_cut, leads_stop}

-- ---- what every phase keeps

-- the entry isn't resolved where it waits, nor where it is a store
pub record Fresh (e : Entry) : Type 0 where
  pub waits : is_waiting e.state ≡ true → e.resolved ≡ false
  pub store : is_store e.item.kind ≡ true → e.resolved ≡ false

-- what has retired, what is in flight and what is fetched lead from no checkpoint to the present one, by these
-- directions
pub record Left (d : Desc) (gone : List Entry) (ways : List Bool) (x : Machine) : Type 0 where
  pub leads : Leads d no_checkpoint (gone ++ x.window) x.queue ways x.checkpoint
  pub fresh : Each Fresh x.window

-- what is left leads to the present checkpoint by the first of these directions
pub record LeftBy (d : Desc) (gone : List Entry) (ways : List Bool) (x : Machine) : Type 0 where
  pub first : List Bool
  pub others : List Bool
  pub whole : ways ≡ first ++ others
  pub left : Left d gone first x

pub by_all : (d : Desc) (gone : List Entry) (ways : List Bool) (x : Machine) → Left d gone ways x → LeftBy d gone ways x
by_all d gone ways x h = record { first = ways; others = []; whole = sym (append-nil ways); left = h }

pub left_then : (d : Desc) (gone gone2 : List Entry) (ways : List Bool) (x y : Machine) → LeftBy d gone ways x → ((ways : List Bool) → Left d gone ways x → LeftBy d gone2 ways y) → LeftBy d gone2 ways y
left_then d gone gone2 ways x y h more =
    let m = more h.first h.left in record { first = m.first; others = m.others ++ h.others; whole = h.whole ∙ ap (λ ways. ways ++ h.others) m.whole ∙ append_assoc m.first m.others h.others; left = m.left }

-- ---- Complete

completed_goes : (cycle : ℕ) (e : Entry) → GoesOn e (after_completion cycle e)
completed_goes cycle e = by_due (completes cycle e)
  where
    by_due : (b : Bool) → GoesOn e (if b then record e { state = Done } else e)
    by_due true = record { item = refl; counts = λ way. refl }
    by_due false = goes_same e

completed_fresh : (cycle : ℕ) (e : Entry) → Fresh e → Fresh (after_completion cycle e)
completed_fresh cycle e f = by_due (completes cycle e)
  where
    by_due : (b : Bool) → Fresh (if b then record e { state = Done } else e)
    by_due true = record { waits = λ h. absurd (cc); store = f.store }
    by_due false = f

all_completed : (cycle : ℕ) (w : List Entry) → Each Fresh w → AllZip GoesOn w (map (after_completion cycle) w) × Each Fresh (map (after_completion cycle) w)
all_completed cycle [] f = (tt, tt)
all_completed cycle (e ∷ w) f =
    let rest = all_completed cycle w f.1 in
    ((completed_goes cycle e, rest.0), (completed_fresh cycle e f.0, rest.1))

module _ (d : Desc) (gone : List Entry) (ways : List Bool) where
  pub left_fill : (x : Machine) → Left d gone ways x → Left d gone ways (fill d x).machine
  left_fill x h = record { leads = h.leads; fresh = h.fresh }

  pub left_begin : (x : Machine) → Left d gone ways x → Left d gone ways (record x { cycle = x.cycle + 1 })
  left_begin x h = record { leads = h.leads; fresh = h.fresh }

  pub left_complete : (x : Machine) → Left d gone ways x → Left d gone ways (complete x).machine
  left_complete x h =
      let all = all_completed x.cycle x.window h.fresh in
      record { leads = leads_behind d no_checkpoint x.checkpoint gone x.window (map (after_completion x.cycle) x.window) x.queue ways all.0 h.leads; fresh = all.1 }

-- ---- Resolve keeps what is left

zip_same : (w : List Entry) → AllZip GoesOn w w
zip_same [] = tt
zip_same (e ∷ w) = (goes_same e, zip_same w)

control_stores : (k : Kind) → is_control k ≡ true → is_store k ≡ true → ⊥
control_stores Store c s = absurd (cc)
control_stores _ c s = absurd (cc)

resolved_fresh : (e : Entry) → is_control e.item.kind ≡ true → is_waiting e.state ≡ false → Fresh (resolved_one e)
resolved_fresh e c w = record { waits = λ h. absurd (cc); store = λ s. absurd (control_stores e.item.kind c s) }

-- an entry that squashed counts with its true direction
squashed_counts : (e : Entry) (b : Bool) → b ≡ true → (way : Bool) → (if true && b then value_of e.outcome == 1 else way) ≡ (value_of e.outcome == 1)
squashed_counts e true q way = refl
squashed_counts e false q way = absurd (cc)

-- one that did not, with its predicted one as before
kept_counts : (r s true_way way : Bool) → r ≡ false → s ≡ false → (if true && s then true_way else way) ≡ (if r && s then true_way else way)
kept_counts false false true_way way q t = refl
kept_counts true s true_way way q t = absurd (cc)
kept_counts false true true_way way q t = absurd (cc)

module _ (d : Desc) (gone : List Entry) (ways : List Bool) (x : Machine) (p : Place) (t : Taken d x p) (h : Left d gone ways x) where
  here : Leads d no_checkpoint ((gone ++ reverse p.before) ++ p.entry ∷ p.younger) x.queue ways x.checkpoint
  here =
      subst (λ w. Leads d no_checkpoint w x.queue ways x.checkpoint) (sym (append_assoc gone (reverse p.before) (p.entry ∷ p.younger)))
      (subst (λ w. Leads d no_checkpoint (gone ++ w) x.queue ways x.checkpoint) t.window h.leads)

  all : Each Fresh (reverse p.before ++ p.entry ∷ p.younger)
  all = subst (Each Fresh) t.window h.fresh

  one : Fresh (resolved_one p.entry)
  one = resolved_fresh p.entry t.parts.control (done_waits p.entry.state t.parts.done)

  fresh_to : (zs : List Entry) → (Each Fresh p.younger → Each Fresh zs) → Each Fresh (reverse p.before ++ resolved_one p.entry ∷ zs)
  fresh_to zs f =
      let behind = each_right Fresh (reverse p.before) _ all in
      each_join Fresh (reverse p.before) _ (each_left Fresh (reverse p.before) _ all) (one, f behind.1)

  squashed : squashes p.entry ≡ true → LeftBy d gone ways (squash d p (taught d p x)).machine
  squashed q =
      let true_way = value_of p.entry.outcome == 1 in
      let cut = leads_cut d no_checkpoint x.checkpoint (gone ++ reverse p.before) p.younger p.entry (resolved_one p.entry) x.queue ways true_way refl (squashed_counts p.entry (squashes p.entry) q) here in
      record {
        first = cut.first;
        others = cut.others;
        whole = cut.whole;
        left = record {
          leads = subst (λ w. Leads d no_checkpoint w [] cut.first (after_item d p.entry.item true_way)) (append_assoc gone (reverse p.before) (resolved_one p.entry ∷ [])) cut.leads;
          fresh = fresh_to [] (λ k. tt);
        };
      }

  kept : squashes p.entry ≡ false → Left d gone ways (keep p (taught d p x)).machine
  kept q = record {
    leads =
        subst (λ w. Leads d no_checkpoint w x.queue ways x.checkpoint) (append_assoc gone (reverse p.before) (resolved_one p.entry ∷ p.younger))
        (leads_behind d no_checkpoint x.checkpoint (gone ++ reverse p.before) (p.entry ∷ p.younger) (resolved_one p.entry ∷ p.younger) x.queue ways
        (record { item = refl; counts = λ way. kept_counts p.entry.resolved (squashes p.entry) (value_of p.entry.outcome == 1) way t.parts.fresh q }, zip_same p.younger) here);
    fresh = fresh_to p.younger (λ k. k);
  }

pub left_resolve : (d : Desc) (gone : List Entry) (ways : List Bool) (x : Machine) → LeftBy d gone ways x → LeftBy d gone ways (resolve d x).machine
left_resolve d gone ways =
    resolve_keep d (LeftBy d gone ways) (λ x p t q h. left_then d gone gone ways x (squash d p (taught d p x)).machine h (λ ways l. squashed d gone ways x p t l q))
    (λ x p t q h. let y = (keep p (taught d p x)).machine in left_then d gone gone ways x y h (λ ways l. by_all d gone ways y (kept d gone ways x p t l q)))

-- ---- Clear keeps what is left

module _ (d : Desc) (gone : List Entry) (ways : List Bool) (x : Machine) (p : Place) (t : Cleared d x p) (h : Left d gone ways x) where
  abbrev front : List Entry
  front = gone ++ reverse p.before

  marked : Leads d no_checkpoint (front ++ cleared_one p.entry ∷ p.younger) x.queue ways x.checkpoint
  marked =
      leads_behind d no_checkpoint x.checkpoint front (p.entry ∷ p.younger) (cleared_one p.entry ∷ p.younger) x.queue ways (record { item = refl; counts = λ way. refl }, zip_same p.younger)
      (subst (λ w. Leads d no_checkpoint w x.queue ways x.checkpoint) (sym (append_assoc gone (reverse p.before) (p.entry ∷ p.younger)))
      (subst (λ w. Leads d no_checkpoint (gone ++ w) x.queue ways x.checkpoint) t.window h.leads))

  fresh_here : (zs : List Entry) → (Each Fresh p.younger → Each Fresh zs) → Each Fresh (reverse p.before ++ cleared_one p.entry ∷ zs)
  fresh_here zs f =
      let all = subst (Each Fresh) t.window h.fresh in
      let behind = each_right Fresh (reverse p.before) _ all in
      each_join Fresh (reverse p.before) _ (each_left Fresh (reverse p.before) _ all) (record { waits = behind.0.waits; store = behind.0.store }, f behind.1)

  cleared : Left d gone ways (clears p x).machine
  cleared = record {
    leads = subst (λ w. Leads d no_checkpoint w x.queue ways x.checkpoint) (append_assoc gone (reverse p.before) (cleared_one p.entry ∷ p.younger)) marked;
    fresh = fresh_here p.younger (λ k. k);
  }

  -- what is left in front of the violated load leads to the load's checkpoint
  stopped : (q : Place) → Violated p q → LeadsBy d no_checkpoint (front ++ cleared_one p.entry ∷ reverse q.before) ways q.entry.item.checkpoint
  stopped q u =
      leads_stop d no_checkpoint x.checkpoint (front ++ cleared_one p.entry ∷ reverse q.before) q.younger q.entry x.queue ways
      (subst (λ w. Leads d no_checkpoint w x.queue ways x.checkpoint) (sym (append_assoc front (cleared_one p.entry ∷ reverse q.before) (q.entry ∷ q.younger)))
      (subst (λ w. Leads d no_checkpoint (front ++ cleared_one p.entry ∷ w) x.queue ways x.checkpoint) u.younger marked))

  violated : (q : Place) → Violated p q → LeftBy d gone ways (violates d p q x).machine
  violated q u =
      let stop = stopped q u in
      record {
        first = stop.first;
        others = stop.others;
        whole = stop.whole;
        left = record {
          leads = subst (λ w. Leads d no_checkpoint w [] stop.first q.entry.item.checkpoint) (append_assoc gone (reverse p.before) (cleared_one p.entry ∷ reverse q.before)) stop.leads;
          fresh = fresh_here (reverse q.before) (λ k. each_left Fresh (reverse q.before) _ (subst (Each Fresh) u.younger k));
        };
      }

pub left_clear : (d : Desc) (gone : List Entry) (ways : List Bool) (x : Machine) → LeftBy d gone ways x → LeftBy d gone ways (clear d x).machine
left_clear d gone ways =
    clear_keep d (LeftBy d gone ways) (λ x p t h. let y = (clears p x).machine in left_then d gone gone ways x y h (λ ways l. by_all d gone ways y (cleared d gone ways x p t l)))
    (λ x p q t u h. left_then d gone gone ways x (violates d p q x).machine h (λ ways l. violated d gone ways x p t l q u))

-- ---- Issue keeps what is left

-- what Issue makes of an entry: it goes on, and isn't resolved where it waits or is a store
pub record Issues (e e2 : Entry) : Type 0 where
  pub on : GoesOn e e2
  pub fresh : Fresh e2

begins_on : (e r : Entry) → Comes e r → Fresh e → e.resolved ≡ false → Issues e r
begins_on e r (Remains q) f n = subst (Issues e) (sym q) (record { on = goes_same e; fresh = f })
begins_on e r (Begins cycle due o q) f n = subst (Issues e) (sym q) (record { on = fresh_goes e (executing_until cycle e due o) refl n n; fresh = record { waits = λ h. n; store = λ h. n } })

parts_on : (now : Around) (b : List Entry) (e : Entry) (a c : Bool) → e.resolved ≡ false → Issues e (gone_parts now b a c e)
parts_on now b e true true n = record { on = fresh_goes e _ refl n n; fresh = record { waits = λ h. n; store = λ h. n } }
parts_on now b e true false n = record { on = fresh_goes e _ refl n n; fresh = record { waits = λ h. n; store = λ h. n } }
parts_on now b e false true n = record { on = fresh_goes e _ refl n n; fresh = record { waits = λ h. n; store = λ h. n } }
parts_on now b e false false n = record { on = goes_same e; fresh = record { waits = λ h. n; store = λ h. n } }

issues : (d : Desc) (now : Around) (b : List Entry) (e : Entry) → Fresh e → Issues e (issue_entry d now b e).entry
issues d now b e f =
    by_issue d now b e (Issues e) (record { on = goes_same e; fresh = f }) (λ s m. begins_on e _ (begin_comes e.item.kind d now b e) f (f.waits m.waits)) (λ s a c g h. parts_on now b e a c (f.store s))

all_issue : (d : Desc) (now : Around) (b w : List Entry) → Each Fresh w →
    let w2 = map (λ (t : Begun). t.entry) (each_from (issue_entry d now) b w) in AllZip GoesOn w w2 × Each Fresh w2
all_issue d now b [] f = (tt, tt)
all_issue d now b (e ∷ w) f =
    let one = issues d now b e f.0 in
    let rest = all_issue d now (e ∷ b) w f.1 in
    ((one.on, rest.0), (one.fresh, rest.1))

pub left_issue : (d : Desc) (gone : List Entry) (ways : List Bool) (x : Machine) → Left d gone ways x → Left d gone ways (issue d x).machine
left_issue d gone ways x h =
    let all = all_issue d (around x) [] x.window h.fresh in
    let w = map (λ (t : Begun). t.entry) (each_from (issue_entry d (around x)) [] x.window) in
    let leads = leads_behind d no_checkpoint x.checkpoint gone x.window w x.queue ways all.0 h.leads in
    by_after_load d x (λ y. (v : Divider) → Left d gone ways (record y { window = w; divider = v })) (λ c s m v. record { leads = leads; fresh = all.1 }) (first (may_at d (around x) LoadPort) x.window) _

-- ---- Rename and Fetch keep what is left

pub left_rename : (d : Desc) (gone : List Entry) (ways : List Bool) (x : Machine) → Left d gone ways x → Left d gone ways (rename d x).machine
left_rename d gone ways = rename_keep d (Left d gone ways) one
  where
    one : (x : Machine) (i : Item) (rest : List Item) → x.queue ≡ i ∷ rest → fits d x.window i ≡ true → Left d gone ways x → Left d gone ways (rename_one d i rest x).machine
    one x i rest q f h = record {
      leads =
          subst (λ w. Leads d no_checkpoint w rest ways x.checkpoint) (append_assoc gone x.window (entry_of_item d x.next_serial i ∷ []))
          (leads_rename d no_checkpoint x.checkpoint (gone ++ x.window) i rest ways x.next_serial (subst (λ q. Leads d no_checkpoint (gone ++ x.window) q ways x.checkpoint) q h.leads));
      fresh = each_push Fresh x.window (entry_of_item d x.next_serial i) h.fresh (record { waits = λ w. refl; store = λ s. refl });
    }

-- fetching goes on where an item is predicted to lead
goes : (k : Kind) (d : Desc) (t : _) (i : Item) (way : Bool) → i.predicted ≡ predicted_pc k d t i.checkpoint way i.pc i.instr → GoesBy k i way
goes Branch d t i way h = by_way way h
  where
    by_way : (way : Bool) → i.predicted ≡ predicted_pc Branch d t i.checkpoint way i.pc i.instr → GoesBy Branch i way
    by_way true h = h
    by_way false h = h
goes _ d t i way h = tt

-- items have been fetched since, and lead on by what the counters predict of them
pub record Fetches (d : Desc) (gone : List Entry) (ways : List Bool) (x y : Machine) : Type 0 where
  pub items : List Item
  pub queue : y.queue ≡ x.queue ++ items
  pub counters : y.counters ≡ x.counters
  pub left : Left d gone (ways ++ guesses d x.counters items) y

pub fetches : (d : Desc) (code : Code) (gone : List Entry) (ways : List Bool) (x : Machine) → Left d gone ways x → Fetches d gone ways x (fetch d code x).machine
fetches d code gone ways x h =
    fetch_keep d (Fetches d gone ways x) code one x
    (record { items = []; queue = sym (append-nil x.queue); counters = refl; left = subst (λ ways. Left d gone ways x) (sym (append-nil ways)) h })
  where
    one : (y : Machine) (pc : ℕ) → y.fetch_pc ≡ Some pc → nat_lt (length y.queue) d.core_queue ≡ true → Fetches d gone ways x y → Fetches d gone ways x (fetch_one d (item_at d code y pc) y).machine
    one y pc q r f =
        let i = item_at d code y pc in
        let way = guess (kind_at (code pc)) d y.counters y.checkpoint pc in
        let by_x : ways ++ guesses d x.counters (f.items ++ i ∷ []) ≡ (ways ++ guesses d x.counters f.items) ++ way ∷ [] =
        ap (λ all. ways ++ all) (map-append (λ (i : Item). guess i.kind d x.counters i.checkpoint i.pc) f.items (i ∷ []))
        ∙ ap (λ counters. ways ++ (guesses d x.counters f.items ++ guess (kind_at (code pc)) d counters y.checkpoint pc ∷ [])) (sym f.counters)
        ∙ sym (append_assoc ways (guesses d x.counters f.items) (way ∷ [])) in
        let next = fetch_one d i y in
        record {
          items = f.items ++ i ∷ [];
          queue = ap (λ q. q ++ i ∷ []) f.queue ∙ append_assoc x.queue f.items (i ∷ []);
          counters = f.counters;
          left = record {
            leads =
                subst (λ ways. Leads d no_checkpoint (gone ++ y.window) (y.queue ++ i ∷ []) ways next.machine.checkpoint) (sym by_x)
                (leads_push d no_checkpoint y.checkpoint (gone ++ y.window) y.queue (ways ++ guesses d x.counters f.items) i way f.left.leads refl (goes (kind_at (code pc)) d y.targets i way refl));
            fresh = f.left.fresh;
          };
        }
