-- Flags beside the entries, as the bits of words: bit k % 64 of word k / 64 is set where the entry at position k has a
-- flag.
use Rattle.std.specs.Prelude.{ℕ, ◌≡◌, ◌≤◌, ◌/◌, ◌%◌, Bool, false, List, length, map, slice_index, slice_index_or}
use Rattle.std.specs.Int.{bit_at}
use Rattle.window_model.specs.declared.Entry.{Entry}
use Rattle.word_bits.specs.Bits.{one_if}
use Rattle.rob_ring.specs.Ring.{in_execution, is_open, is_unsafe}

-- the bit at a position
abbrev pub flag_at : List ℕ → ℕ → ℕ
flag_at words k = bit_at (slice_index words (k / 64)) (k % 64)

-- the words flag the entries that pass
abbrev pub FlagsOf : (Entry → Bool) → List Entry → List ℕ → Type 0
FlagsOf p entries words = (k : ℕ) → flag_at words k ≡ one_if (slice_index_or (map p entries) k false)

-- the words flag what they are to flag, and have a bit for each entry
pub record Flagged (entries : List Entry) (room : ℕ) (busy unsettled unsafes : List ℕ) : Type 0 where
  pub few : room ≤ 192
  pub within : length entries ≤ room
  pub busy_is : FlagsOf in_execution entries busy
  pub open_is : FlagsOf is_open entries unsettled
  pub unsafe_is : FlagsOf is_unsafe entries unsafes
