-- What a load finds in the stores before it and in memory (docs/machine.md, "Loads").
use Rattle.std.specs.Prelude.{ℕ, ◌+◌, ◌-◌, Bool, false, not, ◌&&◌, nat_le, nat_lt, if◌then◌else◌, List, [], ◌∷◌, map, slice_index, Option, Some, None, is_some}
use Rattle.std.specs.Option.{option_or}
use Rattle.std.specs.List.{list_all}
use Rattle.rv_types.specs.Word.{to_le}
use Rattle.rv_types.specs.Memory.{Ram, range}
use Rattle.rv_types.specs.Value.{bytes_in}
use Rattle.lsq.specs.declared.store.Span.{Span}
use Rattle.lsq.specs.declared.store.Store.{Store}

-- what a store writes reaches an address; with a fault it reaches none
abbrev pub reaches : ℕ → Span → Bool
reaches a k = not (is_some k.fault) && nat_le k.addr a && nat_lt a (k.addr + bytes_in k.width)

-- the byte at an address of a number that is written there, where both are known and it is reached
abbrev pub byte_in_span : ℕ → Option Span → Option ℕ → Option ℕ
byte_in_span a None stored = None
byte_in_span a (Some k) None = None
byte_in_span a (Some k) (Some stored) =
    if reaches a k then Some (slice_index (to_le (bytes_in k.width) stored) (a - k.addr)) else None

-- the byte that a store writes at an address, if both its parts are known and it reaches it
abbrev pub byte_by : ℕ → Store → Option ℕ
byte_by a s = byte_in_span a s.span s.stored

-- the byte that these stores, youngest first, give to a load at an address: that of the youngest that writes it
abbrev pub forwarded_byte : List Store → ℕ → Option ℕ
forwarded_byte [] a = None
forwarded_byte (s ∷ stores) a = option_or (byte_by a s) (forwarded_byte stores a)

-- a byte that is given, else the one that memory holds
abbrev pub byte_or_memory : Ram → ℕ → Option ℕ → ℕ
byte_or_memory ram a None = slice_index ram.bytes (a - ram.base)
byte_or_memory ram a (Some byte) = byte

-- the n bytes that a load finds from an address on, behind these stores
abbrev pub merged_bytes : Ram → List Store → ℕ → ℕ → List ℕ
merged_bytes ram stores a n = map (λ b. byte_or_memory ram b (forwarded_byte stores b)) (range a n)

-- stores give all n bytes from an address on
abbrev pub all_forwarded : List Store → ℕ → ℕ → Bool
all_forwarded stores a n = list_all (λ b. is_some (forwarded_byte stores b)) (range a n)

-- what a store writes reaches an address, where it is known by a cycle where it writes
abbrev pub reaches_by : ℕ → ℕ → Option Span → Bool
reaches_by cycle a None = false
reaches_by cycle a (Some k) = reaches a k && nat_le k.known_from cycle

-- the serial of the store that gives the byte at an address: of these stores, youngest first, of which it is known by a
-- cycle where they write, the youngest that writes it
abbrev pub giver : ℕ → List Store → ℕ → Option ℕ
giver cycle [] a = None
giver cycle (s ∷ stores) a = if reaches_by cycle a s.span then Some s.serial else giver cycle stores a
