-- The entries that wait, the places that they have and the places that are free.
use Rattle.std.specs.Prelude.{ℕ, ◌≡◌, ◌≢◌, ◌-◌, ◌<◌, ◌≤◌, ◌%◌, Bool, true, false, ◌||◌, ◌==◌, List, [], ◌∷◌, ◌++◌, map, length, Option, Some, None, slice_get, slice_index, slice_index_or, IsPermutation}
use Rattle.std.specs.Int.{bit_at}
use Rattle.std.specs.List.{range_with_len}
use Rattle.word_bits.specs.Bits.{one_if}
use Rattle.stations.specs.declared.occupant.Occupant.{Occupant}
use Rattle.stations.specs.declared.wants.Wants.{Wants}
use Rattle.stations.specs.declared.wants.Wants.TheVariants.{Whole}
use Rattle.stations.specs.Stations.{Rise, Station, able_as, is_able, strike}

-- for each of an entry's two sources the serial of the writer that it awaits, if it awaits one
abbrev pub awaited_serials : Occupant → List (Option ℕ)
awaited_serials o = o.first ∷ o.second ∷ []

-- an entry in a place, as it is seen
abbrev pub station : ℕ → Occupant → Station
station place o = record { serial = o.serial; wants = o.wants; awaits = awaited_serials o; place = place }

-- what stands in a place that no entry has had
abbrev pub nobody : Occupant
nobody = record { serial = 0; wants = Whole; first = None; second = None; came = 0 }

-- the entry in the place of this number
abbrev pub station_in : List Occupant → ℕ → Station
station_in places place = station place (slice_index_or places place nobody)

-- the entries in the places of these numbers
abbrev pub held_of : List Occupant → List ℕ → List Station
held_of places ages = map (station_in places) ages

-- an entry that awaits a serial no longer
abbrev pub after_wakeup : ℕ → Occupant → Occupant
after_wakeup serial o = record o { first = strike serial o.first; second = strike serial o.second }

-- every place is named once, as taken or as free, and nothing else is; serials rise with age
pub record Placed (places : List Occupant) (ages free : List ℕ) : Type 0 where
  pub once : IsPermutation (range_with_len 0 (length places)) (ages ++ free)
  pub rise : Rise (held_of places ages)

-- there is a station, and it meets the test
abbrev pub meets : (Station → Bool) → Option Station → Bool
meets test None = false
meets test (Some s) = test s

-- the youngest entry meets the test
abbrev pub is_youngest : (Station → Bool) → List Station → Bool
is_youngest test held = meets test (slice_get held (length held - 1))

-- a source awaits a serial of this group: those with one remainder by 256
abbrev pub is_in : ℕ → Option ℕ → Bool
is_in group None = false
is_in group (Some serial) = serial % 256 == group

-- the entry awaits a serial of this group
abbrev pub awaits_in : ℕ → Occupant → Bool
awaits_in group o = is_in group o.first || is_in group o.second

-- for each group there is a word, whose bits are set for the places where a serial of the group is awaited, and maybe
-- for others
abbrev pub NotesWaiters : List Occupant → List ℕ → Type 0
NotesWaiters places waiters = (group place : ℕ) → awaits_in group (slice_index_or places place nobody) ≡ true → bit_at (slice_index waiters group) place ≡ 1

-- an entry that needs something else from now on
abbrev pub wanting : Wants → Occupant → Occupant
wanting next o = record o { wants = next }

-- the entry, or a part of it, may issue
abbrev pub able_in : Occupant → Bool
able_in o = able_as o.wants (awaited_serials o)

-- a word's bits are set for the positions of the entries that may issue, or of which a part may, and for no others
abbrev pub NotesAble : List Station → ℕ → Type 0
NotesAble held able = (i : ℕ) → i < 128 → bit_at able i ≡ one_if (meets is_able (slice_get held i))

-- the word is right at each position, but maybe at that of the entry in one place, if it may issue, or a part of it
abbrev pub NotesAbleBut : ℕ → List Occupant → List ℕ → ℕ → Type 0
NotesAbleBut place places ages able = (i : ℕ) → i < 128 → (slice_get ages i ≡ Some place → able_in (slice_index_or places place nobody) ≡ false) → bit_at able i ≡ one_if (meets is_able (slice_get (held_of places ages) i))

-- a position from one on at which a place is among the taken ones, None where it is at none
abbrev pub IsPosition : List ℕ → ℕ → ℕ → Option ℕ → Type 0
IsPosition ages place from None = (k : ℕ) → from ≤ k → slice_get ages k ≢ Some place
IsPosition ages place from (Some i) = slice_get ages i ≡ Some place
