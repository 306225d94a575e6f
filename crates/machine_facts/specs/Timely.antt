-- What every state keeps of times: serials rise, all that is under way ends soon, no store waits to be cleared where no
-- load passes one, and fetching stops only for a reason (docs/theorems.md, "What every state keeps").
use Rattle.std.specs.Prelude.{◌≡◌, ◌≢◌, ℕ, suc, ◌+◌, ◌*◌, ◌<◌, ◌≤◌, Bool, true, false, ◌&&◌, ◌||◌, List, [], ◌∷◌, Option, Some, None, is_some}
use Rattle.std.specs.List.{AllByRecursion as Each}
use Rattle.rv_types.specs.Isa.{reg}
use Rattle.rv_types.specs.declared.Kind.{Kind}
use Rattle.rv_types.specs.declared.Kind.TheVariants.{Load, Mul, Div}
use Rattle.machine_desc.specs.declared.Desc.{Desc}
use Rattle.window_model.specs.declared.Entry.{Entry}
use Rattle.window_model.specs.declared.Item.{Item}
use Rattle.window_model.specs.declared.Miss.{Miss}
use Rattle.window_model.specs.declared.Progress.{Progress}
use Rattle.window_model.specs.declared.Progress.TheVariants.{Busy}
use Rattle.window_model.specs.State.{Machine}
use Rattle.window_model.specs.Order.{is_busy, is_done, is_faulty, is_store}
use Rattle.window_model.specs.Rename.{is_stop}
use Rattle.window_model.specs.Dependence.{needs_clearing}

-- serials rise from `low` on, and all stay below `next`
abbrev pub Rises : ℕ → List Entry → ℕ → Type 0
Rises low [] next = low ≤ next
Rises low (e ∷ es) next = (low ≤ e.serial) × Rises (suc e.serial) es next

-- the most cycles that a division takes (docs/machine.md, "The time of a division")
abbrev pub longest_division : ℕ
longest_division = 35

-- the longest that an entry of a kind is busy (docs/machine.md, "Issue", "Loads")
abbrev pub latency : Kind → Desc → ℕ
latency Load d = d.cache_miss_latency
latency Mul d = d.units_mul_latency
latency Div d = longest_division
latency _ d = 1

-- the cycle `due` is later than `past`, and at most `longest` cycles after `cycle`
abbrev pub IsSoon : ℕ → ℕ → ℕ → ℕ → Type 0
IsSoon past cycle longest due = (past < due) × (due ≤ cycle + longest)

-- an entry of this progress, if it is busy, becomes Done soon
abbrev pub DueSoon : ℕ → ℕ → ℕ → Progress → Type 0
DueSoon past cycle longest (Busy due) = IsSoon past cycle longest due
DueSoon past cycle longest _ = Unit {0}

-- an entry that is a store waits, or is Done
abbrev pub WaitsOrDone : Entry → Type 0
WaitsOrDone e = is_store e.item.kind ≡ true → is_busy e.state ≡ false

-- the entry, if it is busy, becomes Done within its kind's latency
abbrev pub IsDue : Desc → ℕ → ℕ → Entry → Type 0
IsDue d past cycle e = DueSoon past cycle (latency e.item.kind d) e.state

-- a part that has issued is known in the next cycle at the latest
abbrev pub PartDue : ℕ → Option ℕ → Type 0
PartDue cycle None = Unit {0}
PartDue cycle (Some due) = due ≤ cycle + 1

-- what has issued of a store's two parts is known in the next cycle at the latest
abbrev pub PartsDue : ℕ → Entry → Type 0
PartsDue cycle e = PartDue cycle e.addr_due × PartDue cycle e.data_due

-- an entry that needs no clearing is cleared
abbrev pub StaysCleared : Desc → Entry → Type 0
StaysCleared d e = needs_clearing d e.item.kind ≡ false → e.cleared ≡ true

-- a miss register is freed within the latency of a miss
abbrev pub IsPending : Desc → ℕ → ℕ → Miss → Type 0
IsPending d past cycle m = IsSoon past cycle d.cache_miss_latency m.due

-- no line has two miss registers
abbrev pub Apart : List Miss → Type 0
Apart [] = Unit {0}
Apart (m ∷ ms) = Each (λ n. m.line ≢ n.line) ms × Apart ms

-- nothing is fetched after the entry: it is a stop, or a fault of it is known
abbrev pub is_last : Entry → Bool
is_last e = is_stop e.item.kind || is_done e.state && is_faulty e

-- whether nothing is fetched after the youngest of these entries, `none` where there is no entry
abbrev pub last_from : Bool → List Entry → Bool
last_from none [] = none
last_from none (e ∷ es) = last_from (is_last e) es

-- whether the youngest of these items is a stop, `none` where there is no item
abbrev pub last_item_from : Bool → List Item → Bool
last_item_from none [] = none
last_item_from none (i ∷ is) = last_item_from (is_stop i.kind) is

-- the youngest of window and queue is a stop or a known fault, or both are empty and the run has ended
abbrev pub stopped : Machine → Bool
stopped x = last_item_from (last_from (is_some x.end) x.window) x.queue

-- what holds of times in a state: misses end later than cycle `past_misses`, busy entries later than cycle `past`
pub record TimelyFrom (past_misses past : ℕ) (d : Desc) (x : Machine) : Type 0 where
  pub serials : Rises 0 x.window x.next_serial
  pub dues : Each (IsDue d past x.cycle) x.window
  pub parts : Each (PartsDue x.cycle) x.window
  pub cleared : Each (StaysCleared d) x.window
  pub misses : Each (IsPending d past_misses x.cycle) x.misses
  pub lines : Apart x.misses
  pub divider : x.divider.free_from ≤ x.cycle + longest_division
  -- there is a reason where there is no fetch pc
  pub fetches : x.fetch_pc ≡ None → stopped x ≡ true
  pub zero : reg x.regs 0 ≡ 0

-- between cycles all that is under way ends in a later cycle
abbrev pub Timely : Desc → Machine → Type 0
Timely d x = TimelyFrom x.cycle x.cycle d x

-- at most four instructions are renamed in a cycle, and at most four retire
pub record Counted (x : Machine) : Type 0 where
  pub serials : x.next_serial ≤ 4 * x.cycle
  pub retired : x.retired ≤ 4 * x.cycle
