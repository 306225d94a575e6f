-- What goes with the entries that retire.
use Rattle.std.specs.Prelude.{◌≡◌, ◌-◌, true, List, [], ◌∷◌, length, take, None}
use Rattle.window_model.specs.declared.Entry.{Entry}
use Rattle.window_model.specs.Order.{is_store}
use Rattle.window_model.specs.Retire.{may_leave, trap_of}
use Rattle.rob_ring.specs.Ring.{Ring}
use Rattle.rename_taint.specs.declared.Write.{Write}
use Rattle.rename_taint.specs.Writes.{without_retired}
use Rattle.lsq.specs.Queues.{Queues, without}

-- the entries that left: the oldest that there were, as many as there are fewer now
abbrev pub leaving_entries : Ring → Ring → List Entry
leaving_entries old new = take (length old.entries - length new.entries) old.entries

-- the entry may retire, ends no run as a trap, and is cleared if it is a store
abbrev pub MayRetire : Entry → Type 0
MayRetire e = (may_leave e ≡ true) × (trap_of e ≡ None) × (is_store e.item.kind ≡ true → e.cleared ≡ true)

-- the writes that are held once these have retired, in this order
abbrev pub without_each : List Entry → List Write → List Write
without_each [] writes = writes
without_each (e ∷ es) writes = without_each es (without_retired e.serial writes)

-- the queues without the loads and stores of these entries
abbrev pub queues_without : List Entry → Queues → Queues
queues_without [] q = q
queues_without (e ∷ es) q = queues_without es (without e.serial q)
