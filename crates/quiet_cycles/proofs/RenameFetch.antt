-- Rename and Fetch where nothing happens in them.
use Rattle.std.proofs.Common.{◌≡◌, ℕ, zero, suc, Bool, true, false, List, [], ◌∷◌, length, Option, Some, None, refl}
use Rattle.std.specs.Prelude.{if◌then◌else◌, nat_lt}
use Rattle.rv_types.specs.Memory.{Code}
use Rattle.machine_desc.specs.declared.Desc.{Desc}
use Rattle.window_model.specs.declared.Item.{Item}
use Rattle.window_model.specs.State.{Machine, then_does, nothing}
use Rattle.window_model.specs.Rename.{rename, rename_up_to, rename_from, rename_one, fits}
use Rattle.window_model.specs.Fetch.{fetch, fetch_up_to, fetch_from, fetch_one, item_at}
use Rattle.quiet_cycles.specs.Still.{at_cycle}

-- ---- Rename where nothing happens

module _ (d : Desc) (c : ℕ) where
  by_fit : (n : ℕ) (b : Bool) (i : Item) (rest : List Item) (x : Machine) → (if b then then_does (rename_one d i rest x) (rename_up_to d n) else nothing x).events ≡ [] →
      (if b then then_does (rename_one d i rest (at_cycle c x)) (rename_up_to d n) else nothing (at_cycle c x)) ≡ nothing (at_cycle c x)
  by_fit n true i rest x h = absurd (cc)
  by_fit n false i rest x h = refl

  by_item : (n : ℕ) (q : List Item) (x : Machine) → (rename_from d q x (rename_up_to d n)).events ≡ [] → rename_from d q (at_cycle c x) (rename_up_to d n) ≡ nothing (at_cycle c x)
  by_item n [] x h = refl
  by_item n (i ∷ rest) x h = by_fit n (fits d x.window i) i rest x h

  renames_nothing : (n : ℕ) (x : Machine) → (rename_up_to d n x).events ≡ [] → rename_up_to d n (at_cycle c x) ≡ nothing (at_cycle c x)
  renames_nothing zero x h = refl
  renames_nothing (suc n) x h = by_item n x.queue x h

  -- where Rename has no event, it does nothing in any cycle
  pub rename_nothing : (x : Machine) → (rename d x).events ≡ [] → rename d (at_cycle c x) ≡ nothing (at_cycle c x)
  unfolding rename
  rename_nothing x h = renames_nothing d.core_fetch_width x h

-- ---- Fetch where nothing happens

module _ (d : Desc) (code : Code) (c : ℕ) where
  by_room : (n : ℕ) (b : Bool) (pc : ℕ) (x : Machine) → (if b then then_does (fetch_one d (item_at d code x pc) x) (fetch_up_to d code n) else nothing x).events ≡ [] →
      (if b then then_does (fetch_one d (item_at d code (at_cycle c x) pc) (at_cycle c x)) (fetch_up_to d code n) else nothing (at_cycle c x)) ≡ nothing (at_cycle c x)
  by_room n true pc x h = absurd (cc)
  by_room n false pc x h = refl

  by_pc : (n : ℕ) (o : Option ℕ) (x : Machine) → (fetch_from d code o x (fetch_up_to d code n)).events ≡ [] → fetch_from d code o (at_cycle c x) (fetch_up_to d code n) ≡ nothing (at_cycle c x)
  by_pc n None x h = refl
  by_pc n (Some pc) x h = by_room n (nat_lt (length x.queue) d.core_queue) pc x h

  fetches_nothing : (n : ℕ) (x : Machine) → (fetch_up_to d code n x).events ≡ [] → fetch_up_to d code n (at_cycle c x) ≡ nothing (at_cycle c x)
  fetches_nothing zero x h = refl
  fetches_nothing (suc n) x h = by_pc n x.fetch_pc x h

  -- where Fetch has no event, it does nothing in any cycle
  pub fetch_nothing : (x : Machine) → (fetch d code x).events ≡ [] → fetch d code (at_cycle c x) ≡ nothing (at_cycle c x)
  unfolding fetch
  fetch_nothing x h = fetches_nothing d.core_fetch_width x h
