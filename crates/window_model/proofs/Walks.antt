-- Retire, Rename and Fetch step by step, a cycle phase by phase, and a run cycle by cycle: what each step keeps, the
-- whole keeps.
use Rattle.std.proofs.Common.{◌≡◌, ℕ, zero, suc, ◌+◌, Bool, true, false, ◌||◌, List, [], ◌∷◌, length, Option, Some, None, refl, subst}
use Rattle.std.specs.Prelude.{if◌then◌else◌, nat_lt}
use Rattle.rv_types.specs.Memory.{Code}
use Rattle.rv_types.specs.Isa.{Step, Goes, Exits, Traps, call}
use Rattle.rv_types.specs.declared.Cause.{Cause}
use Rattle.rv_types.specs.declared.End.{End}
use Rattle.rv_types.specs.declared.End.TheVariants.{Trap}
use Rattle.rv_types.specs.declared.Kind.{Kind}
use Rattle.rv_types.specs.declared.Kind.TheVariants.{Store, Call}
use Rattle.machine_desc.specs.declared.Desc.{Desc}
use Rattle.window_model.specs.declared.Entry.{Entry}
use Rattle.window_model.specs.declared.Item.{Item}
use Rattle.window_model.specs.State.{Machine, After, then_does, nothing}
use Rattle.window_model.specs.Order.{is_store}
use Rattle.window_model.specs.Fill.{fill, complete}
use Rattle.window_model.specs.Resolve.{resolve}
use Rattle.window_model.specs.Clear.{clear}
use Rattle.window_model.specs.Issue.{issue}
use Rattle.window_model.specs.Cycle.{cycle, after_retire, after_cycles}
use Rattle.window_model.specs.Retire.{Retired, retire, turns, turn, head_turn, head_leaves, call_leaves, hart_of, then_retires, stays, unless_ended, may_leave, trap_of, store_waits, ends_with}
use Rattle.window_model.specs.Rename.{rename, rename_up_to, rename_from, rename_one, fits}
use Rattle.window_model.specs.Fetch.{fetch, fetch_up_to, fetch_from, fetch_one, item_at}

-- what holds of a window and of what is left without its head holds after a head of any kind
module _ (W : List Entry → Type 0) (drops : (e : Entry) (rest : List Entry) → W (e ∷ rest) → W rest) (d : Desc) where
  call_drops : (x : Machine) (e : Entry) (rest : List Entry) (t : Step) → x.window ≡ e ∷ rest → W x.window → W (call_leaves e rest x t).machine.window
  call_drops x e rest (Goes s piece) q h = drops e rest (subst W q h)
  call_drops x e rest (Exits v s) q h = drops e rest (subst W q h)
  call_drops x e rest (Traps c) q h = h

  -- what holds of a window and of what is left without its head holds of the window behind a head of any kind
  pub head_drops : (k : Kind) (x : Machine) (e : Entry) (rest : List Entry) → x.window ≡ e ∷ rest → W x.window → W (head_leaves k d e rest x).machine.window
  head_drops Call x e rest q h = call_drops x e rest (call (hart_of x)) q h
  head_drops Store x e rest q h = drops e rest (subst W q h)
  head_drops _ x e rest q h = drops e rest (subst W q h)

-- ---- turn by turn, item by item

-- why there is no turn, where a store has retired in this cycle or not
pub data Halts (n : ℕ) (stored : Bool) (x : Machine) : Type 0 where
  NoTurn : n ≡ 0 → Halts n stored x
  HasEnded : (e : End) → x.end ≡ Some e → Halts n stored x
  NoHead : x.window ≡ [] → Halts n stored x
  HeadStays : (e : Entry) (rest : List Entry) → x.window ≡ e ∷ rest → may_leave e ≡ false → Halts n stored x
  StoreWaits : (e : Entry) (rest : List Entry) → x.window ≡ e ∷ rest → store_waits stored e ≡ true → Halts n stored x

-- what holds of no turn, of an end, and of a turn with what follows it, holds of as many turns as Retire has
module _ (d : Desc) (Q : ℕ → Bool → Machine → Retired → Type 0)
    (stops : (n : ℕ) (stored : Bool) (x : Machine) → Halts n stored x → Q n stored x (stays x))
    (leaves : (n : ℕ) (stored : Bool) (x : Machine) (e : Entry) (rest : List Entry) → x.end ≡ None → x.window ≡ e ∷ rest → may_leave e ≡ true → trap_of e ≡ None → store_waits stored e ≡ false →
    (let y = (head_leaves e.item.kind d e rest x).machine in let s = stored || is_store e.item.kind in Q n s y (turns d n s y)) → Q (suc n) stored x (then_retires (head_leaves e.item.kind d e rest x) (turns d n (stored || is_store e.item.kind))))
    (ends : (n : ℕ) (stored : Bool) (x : Machine) (e : Entry) (rest : List Entry) (cause : Cause) → x.end ≡ None → x.window ≡ e ∷ rest → may_leave e ≡ true → trap_of e ≡ Some cause → Q n stored x (ends_with cause e x)) where
  abbrev Follow : ℕ → Type 0
  Follow n = (b : Bool) (y : Machine) → Q n b y (turns d n b y)

  by_trap : (n : ℕ) (stored : Bool) (o : Option Cause) (x : Machine) (e : Entry) (rest : List Entry) → x.end ≡ None → x.window ≡ e ∷ rest → may_leave e ≡ true → trap_of e ≡ o → Follow n → Q (suc n) stored x (turn d stored o e rest x (turns d n))
  by_trap n stored (Some cause) x e rest u q l t m = ends (suc n) stored x e rest cause u q l t
  by_trap n stored None x e rest u q l t m = waits_or (store_waits stored e) refl
    where
      waits_or : (b : Bool) → store_waits stored e ≡ b → Q (suc n) stored x (if b then stays x else then_retires (head_leaves e.item.kind d e rest x) (turns d n (stored || is_store e.item.kind)))
      waits_or true w = stops (suc n) stored x (StoreWaits e rest q w)
      waits_or false w = leaves n stored x e rest u q l t w (m (stored || is_store e.item.kind) (head_leaves e.item.kind d e rest x).machine)

  by_head : (n : ℕ) (stored : Bool) (w : List Entry) (x : Machine) → x.end ≡ None → x.window ≡ w → Follow n → Q (suc n) stored x (head_turn d stored w x (turns d n))
  by_head n stored [] x u q m = stops (suc n) stored x (NoHead q)
  by_head n stored (e ∷ rest) x u q m = leaves_or (may_leave e) refl
    where
      leaves_or : (b : Bool) → may_leave e ≡ b → Q (suc n) stored x (if b then turn d stored (trap_of e) e rest x (turns d n) else stays x)
      leaves_or true l = by_trap n stored (trap_of e) x e rest u q l refl m
      leaves_or false l = stops (suc n) stored x (HeadStays e rest q l)

  by_turns : (n : ℕ) → Follow n
  by_turns zero stored x = stops zero stored x (NoTurn refl)
  by_turns (suc n) stored x = by_end x.end refl (by_turns n)
    where
      by_end : (o : Option End) → x.end ≡ o → Follow n → Q (suc n) stored x (unless_ended o (stays x) (head_turn d stored x.window x (turns d n)))
      by_end None u m = by_head n stored x.window x u refl m
      by_end (Some e) u m = stops (suc n) stored x (HasEnded e u)

  -- what holds of no turn, of an end, and of a turn with what follows it, holds of what Retire does
  pub retire_by : (x : Machine) → Q d.core_retire_width false x (retire d x)
  unfolding retire
  retire_by x = by_turns d.core_retire_width false x

-- what holds of no item, and of a renamed item with what follows it, holds of as many items as Rename takes
module _ (d : Desc) (Q : ℕ → Machine → After → Type 0)
    (stops : (n : ℕ) (x : Machine) → Q n x (nothing x))
    (renames : (n : ℕ) (x : Machine) (i : Item) (rest : List Item) → x.queue ≡ i ∷ rest → fits d x.window i ≡ true →
    (let y = (rename_one d i rest x).machine in Q n y (rename_up_to d n y)) → Q (suc n) x (then_does (rename_one d i rest x) (rename_up_to d n))) where
  by_front : (n : ℕ) (q : List Item) (x : Machine) → x.queue ≡ q → ((y : Machine) → Q n y (rename_up_to d n y)) → Q (suc n) x (rename_from d q x (rename_up_to d n))
  by_front n [] x q m = stops (suc n) x
  by_front n (i ∷ rest) x q m = by_fit (fits d x.window i) refl
    where
      by_fit : (b : Bool) → fits d x.window i ≡ b → Q (suc n) x (if b then then_does (rename_one d i rest x) (rename_up_to d n) else nothing x)
      by_fit true f = renames n x i rest q f (m (rename_one d i rest x).machine)
      by_fit false f = stops (suc n) x

  -- what holds of no item, and of a renamed one with what follows it, holds of each number of items that Rename may
  -- take
  pub by_renamed : (n : ℕ) (x : Machine) → Q n x (rename_up_to d n x)
  by_renamed zero x = stops zero x
  by_renamed (suc n) x = by_front n x.queue x refl (by_renamed n)

  -- what holds of no item, and of a renamed one with what follows it, holds of what Rename does
  pub rename_by : (x : Machine) → Q d.core_fetch_width x (rename d x)
  unfolding rename
  rename_by x = by_renamed d.core_fetch_width x

-- what holds of no item, and of a fetched item with what follows it, holds of as many items as Fetch takes
module _ (d : Desc) (code : Code) (Q : ℕ → Machine → After → Type 0)
    (stops : (n : ℕ) (x : Machine) → Q n x (nothing x))
    (fetches : (n : ℕ) (x : Machine) (pc : ℕ) → x.fetch_pc ≡ Some pc → nat_lt (length x.queue) d.core_queue ≡ true →
    (let y = (fetch_one d (item_at d code x pc) x).machine in Q n y (fetch_up_to d code n y)) → Q (suc n) x (then_does (fetch_one d (item_at d code x pc) x) (fetch_up_to d code n))) where
  by_pc : (n : ℕ) (o : Option ℕ) (x : Machine) → x.fetch_pc ≡ o → ((y : Machine) → Q n y (fetch_up_to d code n y)) → Q (suc n) x (fetch_from d code o x (fetch_up_to d code n))
  by_pc n None x q m = stops (suc n) x
  by_pc n (Some pc) x q m = by_room (nat_lt (length x.queue) d.core_queue) refl
    where
      by_room : (b : Bool) → nat_lt (length x.queue) d.core_queue ≡ b → Q (suc n) x (if b then then_does (fetch_one d (item_at d code x pc) x) (fetch_up_to d code n) else nothing x)
      by_room true r = fetches n x pc q r (m (fetch_one d (item_at d code x pc) x).machine)
      by_room false r = stops (suc n) x

  -- what holds of no item, and of a fetched one with what follows it, holds of each number of items that Fetch may take
  pub by_fetched : (n : ℕ) (x : Machine) → Q n x (fetch_up_to d code n x)
  by_fetched zero x = stops zero x
  by_fetched (suc n) x = by_pc n x.fetch_pc x refl (by_fetched n)

  -- what holds of no item, and of a fetched one with what follows it, holds of what Fetch does
  pub fetch_by : (x : Machine) → Q d.core_fetch_width x (fetch d code x)
  unfolding fetch
  fetch_by x = by_fetched d.core_fetch_width x

-- ---- what one phase keeps

module _ (d : Desc) (P : Machine → Type 0) where
  -- what a head that may leave keeps, and an end, Retire keeps
  pub heads_keep : ((x : Machine) (e : Entry) (rest : List Entry) → x.window ≡ e ∷ rest → may_leave e ≡ true → trap_of e ≡ None → P x → P (head_leaves e.item.kind d e rest x).machine) →
      ((x : Machine) (end : End) → P x → P (record x { end = Some end })) → (x : Machine) → P x → P (retire d x).machine
  heads_keep leaves ends x h =
      retire_by d (λ n stored x r. P x → P r.machine) (λ n stored x s h. h) (λ n stored x e rest u q l t w more h. more (leaves x e rest q l t h)) (λ n stored x e rest cause u q l t h. ends x (Trap cause e.item.pc) h) x h

  -- what a head of any kind keeps as it retires, and an end, Retire keeps
  pub retire_keep : ((k : Kind) (x : Machine) (e : Entry) (rest : List Entry) → x.window ≡ e ∷ rest → P x → P (head_leaves k d e rest x).machine) →
      ((x : Machine) (end : End) → P x → P (record x { end = Some end })) → (x : Machine) → P x → P (retire d x).machine
  retire_keep leaves ends = heads_keep (λ x e rest q l t h. leaves e.item.kind x e rest q h) ends

  -- what an item keeps as it is renamed, Rename keeps
  pub rename_keep : ((x : Machine) (i : Item) (rest : List Item) → x.queue ≡ i ∷ rest → fits d x.window i ≡ true → P x → P (rename_one d i rest x).machine) → (x : Machine) → P x → P (rename d x).machine
  rename_keep renames x h = rename_by d (λ n x a. P x → P a.machine) (λ n x h. h) (λ n x i rest q f more h. more (renames x i rest q f h)) x h

  -- what an item keeps as it is fetched, Fetch keeps
  pub fetch_keep : (code : Code) → ((x : Machine) (pc : ℕ) → x.fetch_pc ≡ Some pc → nat_lt (length x.queue) d.core_queue ≡ true → P x → P (fetch_one d (item_at d code x pc) x).machine) → (x : Machine) → P x → P (fetch d code x).machine
  fetch_keep code fetches x h = fetch_by d code (λ n x a. P x → P a.machine) (λ n x h. h) (λ n x pc q r more h. more (fetches x pc q r h)) x h

  -- ---- a cycle, and a run

  -- what each phase after Retire keeps
  module _ (code : Code)
      (issues : (x : Machine) → P x → P (issue d x).machine)
      (renames : (x : Machine) → P x → P (rename d x).machine)
      (fetches : (x : Machine) → P x → P (fetch d code x).machine) where
    behind_keep : (o : Option End) (x : Machine) → P x → P (unless_ended o (nothing x) (then_does (issue d x) (λ y. then_does (rename d y) (fetch d code)))).machine
    behind_keep (Some e) x h = h
    behind_keep None x h = fetches (rename d (issue d x).machine).machine (renames (issue d x).machine (issues x h))

    pub after_keep : (x : Machine) → P x → P (after_retire d code x).machine
    after_keep x h = behind_keep x.end x h

    -- what Resolve, Clear and Retire keep, besides the phases after Retire
    module _ (resolves : (x : Machine) → P x → P (resolve d x).machine) (clears : (x : Machine) → P x → P (clear d x).machine) (retires : (x : Machine) → P x → P (retire d x).machine) where
      -- the state after a cycle has the property, where the state after Complete has it
      pub completed_keep : (x : Machine) → P (complete (fill d (record x { cycle = x.cycle + 1 })).machine).machine → P (cycle d code x).machine
      unfolding cycle
      completed_keep x h =
          let y = (clear d (resolve d (complete (fill d (record x { cycle = x.cycle + 1 })).machine).machine).machine).machine in
          after_keep (retire d y).machine (retires y (clears _ (resolves _ h)))

      -- what a new number of the cycle, Fill and Complete keep as well, a cycle keeps
      pub cycle_keep : ((x : Machine) → P x → P (record x { cycle = x.cycle + 1 })) → ((x : Machine) → P x → P (fill d x).machine) → ((x : Machine) → P x → P (complete x).machine) → (x : Machine) → P x → P (cycle d code x).machine
      cycle_keep begins fills completes x h =
          let x1 : Machine = record x { cycle = x.cycle + 1 } in
          completed_keep x (completes (fill d x1).machine (fills x1 (begins x h)))

  -- what a cycle keeps a run keeps
  pub run_keep : (code : Code) → ((x : Machine) → P x → P (cycle d code x).machine) → (k : ℕ) (x : Machine) → P x → P (after_cycles d code k x)
  run_keep code cycles zero x h = h
  run_keep code cycles (suc k) x h = by_end x.end (run_keep code cycles k (cycle d code x).machine (cycles x h))
    where
      by_end : (o : Option End) → P (after_cycles d code k (cycle d code x).machine) → P (unless_ended o x (after_cycles d code k (cycle d code x).machine))
      by_end None s = s
      by_end (Some e) s = h
