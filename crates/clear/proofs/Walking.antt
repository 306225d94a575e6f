-- The walk over the queue's stores, and that it finds the one that the definition takes.
use Rattle.std.proofs.Common.{◌≡◌, ℕ, zero, suc, ◌+◌, ◌<◌, ◌≤◌, true, false, List, [], ◌∷◌, length, Option, Some, None, refl, ap, sym, ◌∙◌, subst, arith, slice_get}
use Rattle.std.specs.Prelude.{◌^◌, drop, if◌then◌else◌}
use Rattle.std.specs.List.{find}
use Rattle.std.specs.Option.{option_map}
use Rattle.machine_desc.specs.declared.keys.Key.TheVariants.{CoreStores}
use Rattle.machine_desc.proofs.Newest.{in_newest}
use Rattle.window_model.specs.Clear.{clear}
use Rattle.machine_desc.specs.Questions.{loads_pass}
use Rattle.window_model.specs.Row.{Row}
use Rattle.window_model.specs.inner.Row.{with_events}
use Rattle.window_model.specs.State.{After}
use Rattle.std.proofs.lemmas.List.{append-nil}
use Rattle.lsq.specs.Clearing.{info_of}
use Rattle.lsq.specs.declared.clearing.StoreInfo.{StoreInfo}
use Rattle.lsq.specs.declared.store.Store.{Store}
use Rattle.visibility.specs.Point.{HasAdvanced}
use Rattle.core_parts.specs.Described.{Described}
use Rattle.core_parts.specs.Held.{Held, Sizes, Whole, described_of, in_flight}
use Rattle.refinement.proofs.Queues.{queues_stand}
use Rattle.clear.specs.Cleared.{clearing}
use Rattle.clear.specs.Clearable.{can_clear, may_clear_by}
use Rattle.clear.proofs.Clearable.{finds_clearable}
use Rattle.queue_laws.proofs.Keeping.{room_is}
use Rattle.clear.proofs.Effects.{none_is}

-- ---- the walk over the stores

pub within : (stores : List Store) (i : ℕ) (info : StoreInfo) → option_map info_of (slice_get stores i) ≡ Some info → i < length stores
within [] i info h = absurd (cc)
within (s ∷ stores) zero info h = omega arith
within (s ∷ stores) (suc i) info h = let l = within stores i info h in omega (arith, l)

-- a store that may not be cleared is passed
pub passed : (point : ℕ) (stores : List Store) (i : ℕ) (info : StoreInfo) → option_map info_of (slice_get stores i) ≡ Some info → may_clear_by point info ≡ false →
    find (can_clear point) (drop (i + 1) stores) ≡ find (can_clear point) (drop i stores)
passed point [] i info h n = absurd (cc)
passed point (s ∷ stores) zero info h n =
    let same : info ≡ info_of s = cc in
    let no : can_clear point s ≡ false = ap (may_clear_by point) (sym same) ∙ n in
    sym (ap (λ b. if b then Some s else find (can_clear point) stores) no)
passed point (s ∷ stores) (suc i) info h n =
    let next : suc i + 1 ≡ suc (i + 1) = omega arith in
    ap (λ k. find (can_clear point) (drop k (s ∷ stores))) next ∙ passed point stores i info h n

-- a store that may be cleared is found at its place
pub is_found : (point : ℕ) (stores : List Store) (i : ℕ) (info : StoreInfo) → option_map info_of (slice_get stores i) ≡ Some info → may_clear_by point info ≡ true →
    Some info.serial ≡ option_map (λ s. s.serial) (find (can_clear point) (drop i stores))
is_found point [] i info h n = absurd (cc)
is_found point (s ∷ stores) zero info h n =
    let same : info ≡ info_of s = cc in
    let yes : can_clear point s ≡ true = ap (may_clear_by point) (sym same) ∙ n in
    ap (λ (info : StoreInfo). Some info.serial) same ∙ sym (ap (λ b. option_map (λ (s : Store). s.serial) (if b then Some s else find (can_clear point) stores)) yes)
is_found point (s ∷ stores) (suc i) info h n = is_found point stores i info h n

-- behind the last there is none
pub none_left : (point : ℕ) (stores : List Store) (i : ℕ) → None ≡ option_map info_of (slice_get stores i) → None ≡ option_map (λ s. s.serial) (find (can_clear point) (drop i stores))
none_left point [] zero h = refl
none_left point [] (suc i) h = refl
none_left point (s ∷ stores) zero h = absurd (cc)
none_left point (s ∷ stores) (suc i) h = none_left point stores i h

-- ---- what the walk finds

-- the stores of the queue are so few that their places can be counted
pub few_stores : (h : Held) → Whole h → length h.queues.stores < 2 ^ 32
few_stores h w =
    let a = w.sized.stores_fit in
    let b = (room_is h.queues h.rob.entries (queues_stand (in_flight h) w.refines)).1 in
    let c : h.desc.core_stores ≤ 48 = (in_newest h.desc CoreStores).1 in
    omega (arith, a, b, c)

-- the store that the definition takes
pub finds : (h : Held) (v : Described) (o : Option ℕ) → Whole h → described_of h ≡ v → loads_pass v.desc ≡ true → HasAdvanced v.point v.machine.window →
    o ≡ option_map (λ s. s.serial) (find (can_clear h.point.serial) h.queues.stores) → o ≡ clearing v.desc v.machine
finds h v o w s a moved e =
    let here : HasAdvanced h.point h.rob.entries = subst (λ (v : Described). HasAdvanced v.point v.machine.window) (sym s) moved in
    let tracked = ap (λ (v : Described). loads_pass v.desc) s ∙ a in
    e
    ∙ finds_clearable h.desc (in_flight h) w.refines here (ap (λ (s : Sizes). s.model) w.made) tracked
    ∙ ap (λ (v : Described). clearing v.desc v.machine) s

-- ---- where nothing happens at all

-- where no store is found that may be cleared
module _ (v : Described) (row : Row) (n : None ≡ clearing v.desc v.machine) where
  pub none_shown : v ≡ record v { machine = (clear v.desc v.machine).machine }
  none_shown = ap (λ (a : After). record v { machine = a.machine }) (sym (none_is v.desc v.machine n))

  pub none_row : row ≡ with_events row (clear v.desc v.machine).events
  none_row = ap (λ es. record row { events = es }) (sym (append-nil row.events)) ∙ ap (λ (a : After). with_events row a.events) (sym (none_is v.desc v.machine n))
