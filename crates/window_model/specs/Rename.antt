-- The sixth phase: fetched items go into the window (docs/machine.md, "Rename").
use Rattle.std.specs.Prelude.{ℕ, zero, suc, ◌+◌, ◌≤◌, Bool, true, false, not, ◌&&◌, ◌||◌, nat_lt, List, [], ◌∷◌, ◌++◌, length, count_by, None, if◌then◌else◌}
use Rattle.std.specs.List.{list_any}
use Rattle.rv_types.specs.declared.Kind.{Kind}
use Rattle.rv_types.specs.declared.Kind.TheVariants.{Load, Store, Call, Stop}
use Rattle.machine_desc.specs.declared.Desc.{Desc}
use Rattle.window_model.specs.declared.Entry.{Entry}
use Rattle.window_model.specs.declared.Event.TheVariants as event
use Rattle.window_model.specs.declared.Item.{Item}
use Rattle.window_model.specs.declared.Progress.TheVariants.{Waiting, Done}
use Rattle.window_model.specs.State.{Machine, After, then_does, nothing}
use Rattle.window_model.specs.Order.{is_waiting, is_load, is_store}
use Rattle.window_model.specs.Dependence.{needs_clearing}

-- the kind is an ECALL's
abbrev pub is_call : Kind → Bool
is_call Call = true
is_call _ = false

-- the entry is an ECALL
abbrev pub calls : Entry → Bool
calls e = is_call e.item.kind

-- where there is a call, it is the only entry
abbrev pub CallAlone : List Entry → Type 0
CallAlone window = 1 ≤ count_by calls window → length window ≤ 1

-- the kind is that of an item that can only trap
abbrev pub is_stop : Kind → Bool
is_stop (Stop cause) = true
is_stop _ = false

-- an item of this kind is Done at once, and in no station
abbrev pub at_once : Kind → Bool
at_once k = is_call k || is_stop k

-- by its kind, an item has room: a load among the loads in flight, a store among the stores; a call goes alone
abbrev pub fits_as : Kind → Desc → List Entry → Bool
fits_as Load d window = nat_lt (count_by (λ e. is_load e.item.kind) window) d.core_loads
fits_as Store d window = nat_lt (count_by (λ e. is_store e.item.kind) window) d.core_stores
fits_as Call d [] = true
fits_as Call d (e ∷ es) = false
fits_as _ d window = true

-- the item can go into the window
abbrev pub fits : Desc → List Entry → Item → Bool
fits d window item =
    nat_lt (length window) d.core_rob
    && not (list_any calls window)
    && fits_as item.kind d window
    && (at_once item.kind || nat_lt (count_by (λ e. is_waiting e.state) window) d.core_stations)

-- the item as an entry
abbrev pub entry_of_item : Desc → ℕ → Item → Entry
entry_of_item d serial item =
    record {
      serial = serial;
      item = item;
      state = if at_once item.kind then Done else Waiting;
      outcome = None;
      resolved = false;
      issued = None;
      addr_due = None;
      data_due = None;
      cleared = not (needs_clearing d item.kind);
    }

-- the item goes behind the youngest entry, with the next serial
abbrev pub rename_one : Desc → Item → List Item → Machine → After
rename_one d item rest x = record {
  machine = record x { window = x.window ++ entry_of_item d x.next_serial item ∷ []; queue = rest; next_serial = x.next_serial + 1 };
  events = event.Ren x.next_serial item.pc ∷ [];
}

-- the oldest item goes, and then more, unless it can't go
abbrev pub rename_from : Desc → List Item → Machine → (Machine → After) → After
rename_from d [] x more = nothing x
rename_from d (item ∷ rest) x more = if fits d x.window item then then_does (rename_one d item rest x) more else nothing x

-- at most n items are renamed, one after the other
abbrev pub rename_up_to : Desc → ℕ → Machine → After
rename_up_to d zero x = nothing x
rename_up_to d (suc n) x = rename_from d x.queue x (rename_up_to d n)

-- the phase Rename: at most as many items as the description lets a cycle fetch
unfoldable pub rename : Desc → Machine → After
rename d x = rename_up_to d d.core_fetch_width x
