-- The second part of the third phase: the oldest store that may be cleared is, and the oldest load that passed it
-- wrongly is fetched anew (docs/machine.md, "Clear").
use Rattle.std.specs.Prelude.{ℕ, ◌+◌, Bool, true, false, not, ◌&&◌, nat_lt, List, [], ◌∷◌, ◌++◌, length, reverse, Option, Some, None, if◌then◌else◌}
use Rattle.std.specs.List.{list_any}
use Rattle.rv_types.specs.Memory.{range}
use Rattle.machine_desc.specs.declared.Desc.{Desc}
use Rattle.window_model.specs.declared.Entry.{Entry}
use Rattle.window_model.specs.declared.Event.{Event}
use Rattle.window_model.specs.declared.Event.TheVariants as event
use Rattle.window_model.specs.declared.Item.{Item}
use Rattle.window_model.specs.State.{Machine, After, nothing}
use Rattle.window_model.specs.Order.{Place, first, is_load, is_store, is_faulty, has_address}
use Rattle.window_model.specs.Taint.{address_tainted}
use Rattle.window_model.specs.Resolve.{after_squash}
use Rattle.window_model.specs.Retire.{addr_of, byte_count}
use Rattle.window_model.specs.Access.{covers}
use Rattle.machine_desc.specs.Questions.{loads_pass}
use Rattle.window_model.specs.Dependence.{bit_index, bit_set}

-- ---- who may be cleared, and who is violated

-- a store that isn't cleared, whose address is known and untainted
abbrev pub may_clear : Desc → List Entry → Entry → Bool
may_clear d before e = is_store e.item.kind && not e.cleared && has_address e && not (address_tainted d.stt_model before e)

-- the first cycle is before the second; false where one of the two is not there
abbrev pub is_before : Option ℕ → Option ℕ → Bool
is_before (Some a) (Some b) = nat_lt a b
is_before _ _ = false

-- the load passed the store: it issued before the cycle in which the store's address became known
abbrev pub is_passed_by : Entry → Entry → Bool
is_passed_by store load = is_load load.item.kind && is_before load.issued store.addr_due

-- store and load are without fault and share a byte; false where the store's address isn't known
abbrev pub shares : Entry → Entry → Bool
shares store load = not (is_faulty load) && list_any (λ a. covers a store) (range (addr_of load.outcome) (byte_count load))

-- the load passed the store wrongly
abbrev pub is_violated : Entry → Entry → Bool
is_violated store load = is_passed_by store load && shares store load

-- ---- what Clear leaves of the window

-- the entry of a store, once it is cleared
abbrev pub cleared_one : Entry → Entry
cleared_one e = record e { cleared = true }

-- the store is cleared, and all that is younger stays
abbrev pub clears : Place → Machine → After
clears p x = record {
  machine = record x { window = reverse p.before ++ cleared_one p.entry ∷ p.younger };
  events = event.Clr p.entry.serial ∷ [];
}

-- what stays of the window where the violated load stands at q among the entries younger than the store: the store,
-- cleared, and all that is older than the load
abbrev pub older_than_load : Place → Place → List Entry
older_than_load p q = reverse p.before ++ cleared_one p.entry ∷ reverse q.before

-- the events of a violation: the store is cleared, the load violated, its bit set, and load, younger entries and
-- fetched items go
abbrev pub violation_events : Desc → Place → Place → List Item → List Event
violation_events d p q queue =
    event.Clr p.entry.serial ∷ event.Vio q.entry.serial ∷ event.Dp (bit_index d q.entry.item.pc) 1
    ∷ event.Sq (length q.younger + 1 + length queue) ∷ []

-- the store is cleared; the violated load, found at q among the younger entries, goes with all that is younger than it,
-- its bit is set, and fetch goes on at it, with history and stack as they were before it
abbrev pub violates : Desc → Place → Place → Machine → After
violates d p q x =
    let load = q.entry in
    let y = after_squash load.serial (older_than_load p q) (Some load.item.pc) load.item.checkpoint x in
    record {
      machine = record y { dependence = bit_set d load.item.pc x.dependence };
      events = violation_events d p q x.queue;
    }

-- what Clear leaves of a store that it clears, by the violated load, if there is one
abbrev pub clear_with : Desc → Place → Option Place → Machine → After
clear_with d p None x = clears p x
clear_with d p (Some q) x = violates d p q x

-- the oldest younger load that passed the store wrongly
abbrev pub violated_by : Place → Option Place
violated_by p = first (λ between e. is_violated p.entry e) p.younger

-- what Clear leaves, by the oldest store that may be cleared, if there is one
abbrev pub clear_at : Desc → Option Place → Machine → After
clear_at d None x = nothing x
clear_at d (Some p) x = clear_with d p (violated_by p) x

-- the oldest store that may be cleared is; at most one a cycle. Where no load passes a store there is nothing to clear
abbrev pub clear : Desc → Machine → After
clear d x = if loads_pass d then clear_at d (first (may_clear d) x.window) x else nothing x
