-- A table with a slot for each register, and an undo list: how they stand for the writes that are held.
use Rattle.std.specs.Prelude.{◌≡◌, ℕ, ◌<◌, Bool, false, ◌==◌, nat_le, if◌then◌else◌, List, [], ◌∷◌, Option, Some, None, map, reverse, slice_index_or, slice_get, length, drop, get_or, suc}
use Rattle.std.specs.List.{find, All}
use Rattle.std.specs.Option.{option_map, option_or}
use Rattle.rename_taint.specs.declared.Write.{Write}
use Rattle.rename_taint.specs.declared.Source.{Source}
use Rattle.rename_taint.specs.declared.Source.TheVariants.{Committed, Entry}
use Rattle.rename_taint.specs.Writes.{source_from, root_from}
use Rattle.rename_taint.specs.declared.slots.Slot.{Slot}
use Rattle.rename_taint.specs.declared.slots.Undo.{Undo}

-- the writes of an undo list
abbrev pub writes_of : List Undo → List Write
writes_of undo = map (λ u. u.write) undo

-- what a slot says of a register's last write
abbrev pub slot_of : Option Write → Slot
slot_of o = record { source = source_from o; root = root_from o }

-- what a slot says of a register that no held write writes
abbrev pub empty : Slot
empty = slot_of None

-- the serial of the oldest write that is held
abbrev pub oldest_of : List Undo → Option ℕ
oldest_of undo = option_map (λ u. u.write.serial) (slice_get undo 0)

-- the first write of the list passes the test
abbrev pub is_first : (Undo → Bool) → List Undo → Bool
is_first p [] = false
is_first p (u ∷ us) = p u

-- the last write of the list passes the test
abbrev pub is_last : (Undo → Bool) → List Undo → Bool
is_last p undo = is_first p (reverse undo)

-- a value stands with the entry of this serial
abbrev pub names : ℕ → Source → Bool
names serial Committed = false
names serial (Entry writer) = writer == serial

-- what a slot says once this entry has retired
abbrev pub slot_after_retirement : ℕ → Slot → Slot
slot_after_retirement serial s = if names serial s.source then empty else s

-- a value stands with an entry from this serial on
abbrev pub names_from : ℕ → Source → Bool
names_from oldest Committed = false
names_from oldest (Entry writer) = nat_le oldest writer

-- what a slot still says where this is the oldest serial that is held: nothing of a writer that has retired
abbrev pub slot_unless_retired : Option ℕ → Slot → Slot
slot_unless_retired None s = empty
slot_unless_retired (Some oldest) s = if names_from oldest s.source then s else empty

-- ---- the undo list from its youngest on

-- the last write of a register
abbrev pub last_of : ℕ → List Undo → Option Write
last_of r undo = find (λ w. w.register == r) (map (λ u. u.write) undo)

-- the serial of the oldest write of a list, which is youngest first
abbrev pub oldest_in : List Undo → Option ℕ
oldest_in [] = None
oldest_in (u ∷ older) = option_or (oldest_in older) (Some u.write.serial)

-- an undo entry restores the last write of its register among the older ones, and is younger than they are
abbrev pub LinkedTo : List Undo → Undo → Type 0
LinkedTo older u =
    (slot_unless_retired (oldest_in older) u.previous ≡ slot_of (last_of u.write.register older)) × (u.write.register < 32) × All (λ v. v.write.serial < u.write.serial) older

-- for an undo list, youngest first: every write is linked to the older ones
abbrev pub EachIsLinked : List Undo → Type 0
EachIsLinked undo = (i : ℕ) (d : Undo) → i < length undo → LinkedTo (drop (suc i) undo) (get_or undo i d)

-- a register's slot says what the last write of the register does
abbrev pub IsTable : List Slot → List Undo → Type 0
IsTable slots undo = (r : ℕ) → r < 32 → slice_index_or slots r empty ≡ slot_of (last_of r undo)

-- the slots stand for the writes of the undo list, which is oldest first
pub record Table (slots : List Slot) (undo : List Undo) : Type 0 where
  pub registers : length slots ≡ 32
  pub cells : IsTable slots (reverse undo)
  pub linked : EachIsLinked (reverse undo)
