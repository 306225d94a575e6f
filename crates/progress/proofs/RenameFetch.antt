-- What Rename and Fetch leave: the time, what is shared, and the oldest entries; and what comes where there was none.
use Rattle.std.proofs.Common.{◌≡◌, ℕ, zero, suc, ◌≤◌, true, List, [], ◌∷◌, ◌++◌, Some, refl, ap, sym, ◌∙◌, arith, append_assoc, append-nil}
use Rattle.std.specs.Prelude.{nat_lt}
use Rattle.std.specs.Cmp.Derive.{both_true}
use Rattle.rv_types.specs.Memory.{Code}
use Rattle.rv_types.specs.declared.Kind.{Kind}
use Rattle.rv_types.specs.declared.Kind.TheVariants.{Load, Store, Call}
use Rattle.machine_desc.specs.declared.Desc.{Desc}
use Rattle.machine_desc.specs.Ranges.{IsDesc}
use Rattle.window_model.specs.declared.Entry.{Entry}
use Rattle.window_model.specs.declared.Item.{Item}
use Rattle.window_model.specs.State.{Machine}
use Rattle.window_model.specs.Rename.{at_once, fits, fits_as, entry_of_item, rename_one, rename_up_to, rename}
use Rattle.window_model.specs.Fetch.{item_at, fetch_one, fetch_up_to, fetch}
use Rattle.window_model.proofs.Walks.{rename_keep, by_renamed, by_fetched}
use Rattle.window_model.proofs.Booleans.{is_below, or_true}

-- time, miss registers and divider stay, and entries only come behind the others
pub record Appends (x y : Machine) : Type 0 where
  pub cycle : y.cycle ≡ x.cycle
  pub misses : y.misses ≡ x.misses
  pub divider : y.divider ≡ x.divider
  pub window : (r : List Entry) × (y.window ≡ x.window ++ r)

-- a machine appends nothing to itself
pub appends_same : (x : Machine) → Appends x x
appends_same x = record { cycle = refl; misses = refl; divider = refl; window = ([], sym (append-nil x.window)) }

-- two phases that append, one after the other, append together
pub appends_then : (x y z : Machine) → Appends x y → Appends y z → Appends x z
appends_then x y z p q = record {
  cycle = q.cycle ∙ p.cycle;
  misses = q.misses ∙ p.misses;
  divider = q.divider ∙ p.divider;
  window = (p.window.0 ++ q.window.0, q.window.1 ∙ ap (λ w. w ++ q.window.0) p.window.1 ∙ append_assoc x.window p.window.0 q.window.0);
}

-- ---- Rename appends entries to the window

module _ (d : Desc) where
  one_renamed : (i : Item) (rest : List Item) (x : Machine) → Appends x (rename_one d i rest x).machine
  one_renamed i rest x = record { cycle = refl; misses = refl; divider = refl; window = (entry_of_item d x.next_serial i ∷ [], refl) }

  -- however many items are renamed, entries only come behind the others
  renamed_up_to : (n : ℕ) (x : Machine) → Appends x (rename_up_to d n x).machine
  renamed_up_to =
      by_renamed d (λ n x a. Appends x a.machine) (λ n x. appends_same x)
      (λ n x i rest q f more. let y = (rename_one d i rest x).machine in appends_then x y (rename_up_to d n y).machine (one_renamed i rest x) more)

  pub rename_appends : (x : Machine) → Appends x (rename d x).machine
  unfolding rename
  rename_appends x = renamed_up_to d.core_fetch_width x

  -- with no item nothing is renamed
  pub rename_none : (x : Machine) → (rename d (record x { queue = [] })).machine ≡ record x { queue = [] }
  rename_none x =
      let none : Machine = record x { queue = [] } in
      rename_keep d (λ y. y ≡ none) (λ y j rest q f h. absurd (let e = ap (λ (m : Machine). m.queue) h in cc)) none refl

  -- into a window with no entry the first item fits
  module _ (i : IsDesc d) where
    kind_fits : (k : Kind) → fits_as k d [] ≡ true
    kind_fits Load = is_below 0 d.core_loads (omega (arith, i.loads.0))
    kind_fits Store = is_below 0 d.core_stores (omega (arith, i.stores.0))
    kind_fits Call = refl
    kind_fits _ = refl

    first_fits : (j : Item) → fits d [] j ≡ true
    first_fits j =
        both_true (both_true (both_true (is_below 0 d.core_rob (omega (arith, i.rob.0))) refl) (kind_fits j.kind))
        (or_true (at_once j.kind) (nat_lt 0 d.core_stations) (is_below 0 d.core_stations (omega (arith, i.stations.0))))

    first_up_to : (n : ℕ) (j : Item) (rest : List Item) (x : Machine) → 1 ≤ n →
        Appends (rename_one d j rest (record x { window = []; queue = j ∷ rest })).machine (rename_up_to d n (record x { window = []; queue = j ∷ rest })).machine
    first_up_to zero j rest x h = absurd (omega arith)
    first_up_to (suc n) j rest x h =
        let alone : Machine = record x { window = []; queue = j ∷ rest } in
        let y = (rename_one d j rest alone).machine in
        rw (first_fits j) (renamed_up_to n y)

    pub rename_first : (j : Item) (rest : List Item) (x : Machine) →
        Appends (rename_one d j rest (record x { window = []; queue = j ∷ rest })).machine (rename d (record x { window = []; queue = j ∷ rest })).machine
    unfolding rename
    rename_first j rest x = first_up_to d.core_fetch_width j rest x i.fetch_width.0

-- ---- Fetch appends items to the queue

-- Fetch leaves time, miss registers, divider and window, and items only come behind the others
pub record Fetches (x y : Machine) : Type 0 where
  pub appends : Appends x y
  pub window : y.window ≡ x.window
  pub queue : (r : List Item) × (y.queue ≡ x.queue ++ r)

fetches_same : (x : Machine) → Fetches x x
fetches_same x = record { appends = appends_same x; window = refl; queue = ([], sym (append-nil x.queue)) }

fetches_then : (x y z : Machine) → Fetches x y → Fetches y z → Fetches x z
fetches_then x y z p q = record {
  appends = appends_then x y z p.appends q.appends;
  window = q.window ∙ p.window;
  queue = (p.queue.0 ++ q.queue.0, q.queue.1 ∙ ap (λ w. w ++ q.queue.0) p.queue.1 ∙ append_assoc x.queue p.queue.0 q.queue.0);
}

module _ (d : Desc) (code : Code) where
  one_fetched : (i : Item) (x : Machine) → Fetches x (fetch_one d i x).machine
  one_fetched i x = record {
    appends = record { cycle = refl; misses = refl; divider = refl; window = ([], sym (append-nil x.window)) };
    window = refl;
    queue = (i ∷ [], refl);
  }

  -- however many items are fetched, items only come behind the others
  fetched_up_to : (n : ℕ) (x : Machine) → Fetches x (fetch_up_to d code n x).machine
  fetched_up_to =
      by_fetched d code (λ n x a. Fetches x a.machine) (λ n x. fetches_same x)
      (λ n x pc q r more. let i = item_at d code x pc in let y = (fetch_one d i x).machine in fetches_then x y (fetch_up_to d code n y).machine (one_fetched i x) more)

  pub fetch_fetches : (x : Machine) → Fetches x (fetch d code x).machine
  unfolding fetch
  fetch_fetches x = fetched_up_to d.core_fetch_width x

  -- where there is a fetch pc, something comes into a queue with no item
  some_up_to : (n pc : ℕ) (x : Machine) → 1 ≤ d.core_queue → 1 ≤ n →
      Fetches (fetch_one d (item_at d code x pc) (record x { queue = []; fetch_pc = Some pc })).machine (fetch_up_to d code n (record x { queue = []; fetch_pc = Some pc })).machine
  some_up_to zero pc x q h = absurd (omega arith)
  some_up_to (suc n) pc x q h =
      let y = (fetch_one d (item_at d code x pc) (record x { queue = []; fetch_pc = Some pc })).machine in
      rw (is_below 0 d.core_queue (omega arith)) (fetched_up_to n y)

  pub fetch_some : (pc : ℕ) (x : Machine) → IsDesc d →
      Fetches (fetch_one d (item_at d code x pc) (record x { queue = []; fetch_pc = Some pc })).machine (fetch d code (record x { queue = []; fetch_pc = Some pc })).machine
  unfolding fetch
  fetch_some pc x i = some_up_to d.core_fetch_width pc x i.queue.0 i.fetch_width.0
