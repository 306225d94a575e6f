-- What the defence alone keeps from issuing, and in how many cycles it did (docs/formats.md, "The slots of a run").
use Rattle.std.specs.Prelude.{ℕ, ◌+◌, ◌%◌, nat_lt, Bool, true, not, ◌&&◌, ◌==◌, List, [], ◌∷◌, replicate, slice_set, slice_index_or, Option, Some, None, if◌then◌else◌}
use Rattle.std.specs.List.{list_all}
use Rattle.rv_types.specs.declared.Kind.{Kind}
use Rattle.rv_types.specs.declared.Kind.TheVariants as kind
use Rattle.machine_desc.specs.declared.Desc.{Desc}
use Rattle.window_model.specs.declared.Entry.{Entry}
use Rattle.window_model.specs.Delay.{may_show}
use Rattle.window_model.specs.Order.{Place, first, is_done, is_waiting, sources, writes}
use Rattle.window_model.specs.Ready.{ready}
use Rattle.window_model.specs.Taint.{address_tainted, any_tainted, visible}
use Rattle.run_counts.specs.Counted.{as_told}
use Rattle.slot_reasons.specs.declared.Kept.{Kept}

-- ---- One entry

-- the register's writer is Done, or there is none
abbrev pub is_made : List Entry → ℕ → Bool
is_made [] r = true
is_made (e ∷ before) r = if writes r e then is_done e.state else is_made before r

-- the writer of each source of the entry is Done, or there is none
abbrev pub has_operands : List Entry → Entry → Bool
has_operands before e = list_all (is_made before) (sources e)

-- by its kind, the entry may show those operands that tell an address or the time of a division
abbrev pub shows_as : Kind → Desc → List Entry → Entry → Bool
shows_as kind.Load d before e = not (address_tainted d.stt_model before e) && may_show d before
shows_as kind.Div d before e = not (any_tainted d.stt_model before e) && may_show d before
shows_as kind.Store d before e = may_show d before
shows_as _ d before e = true

-- the defence lets the entry issue: no operand is held back, and it may show what it shows
abbrev pub is_let : Desc → List Entry → Entry → Bool
is_let d before e = ready d before e && shows_as e.item.kind d before e

-- the entry waits although all that it reads is there, and it isn't visible: the defence may keep it
abbrev pub is_asked : Desc → List Entry → Entry → Bool
is_asked d before e = is_waiting e.state && (has_operands before e && not (visible d.stt_model before))

-- the serial of an entry that is asked, where the defence doesn't let it issue
abbrev pub serial_kept : Desc → List Entry → Entry → Option ℕ
serial_kept d before e = if is_let d before e then None else Some e.serial

-- the serial of an entry in its place, if there is one and the defence keeps it
abbrev pub kept_there : Desc → Option Place → Option ℕ
kept_there d None = None
kept_there d (Some p) = serial_kept d p.before p.entry

-- the serial of the oldest entry that is asked, if the defence keeps it
abbrev pub oldest_kept : Desc → List Entry → Option ℕ
oldest_kept d window = kept_there d (first (is_asked d) window)

-- ---- How long

-- the entry that a cycle counts for in which so many instructions retired: the oldest that is asked, if the defence
-- keeps it and a slot stays empty
abbrev pub counts_for : Desc → ℕ → List Entry → Option ℕ
counts_for d retired window = if nat_lt retired d.core_retire_width then oldest_kept d window else None

-- what a place holds before an entry comes there
abbrev pub none_kept : Kept
none_kept = record { serial = 0; cycles = 0 }

-- what is kept in mind before the first cycle: 64 places, none of which has an entry
abbrev pub first_kept : List Kept
first_kept = replicate 64 none_kept

-- the place of an entry, by its serial; it holds the last that was kept of the entries that share it
abbrev pub kept_place : ℕ → ℕ
kept_place serial = serial % 64

-- in how many cycles the entry of this serial was the oldest kept one, by what a place holds
abbrev pub times_held : Kept → ℕ → ℕ
times_held k serial = if k.serial == serial then k.cycles else 0

-- in how many cycles the entry of this serial was the oldest kept one, as far as is kept in mind
abbrev pub times_kept : List Kept → ℕ → ℕ
times_kept kept serial = times_held (slice_index_or kept (kept_place serial) none_kept) serial

-- what is kept in mind once the entry of this serial, if there is one, was the oldest kept one in one more cycle
abbrev pub note : Option ℕ → List Kept → List Kept
note None kept = kept
note (Some serial) kept =
    slice_set kept (kept_place serial) (record { serial = serial; cycles = as_told (times_kept kept serial + 1) })
