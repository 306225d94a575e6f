-- What reads and writes of memory answer and leave.
use Rattle.std.specs.Prelude.{ℕ, ◌+◌, ◌-◌, nat_lt, if◌then◌else◌, List, ◌++◌, length, take, drop, slice_get, Option, Some, None, Result, Ok, Err}
use Rattle.rv_types.specs.Memory.{Ram, load_fault, store_fault, bytes_at, with_bytes}
use Rattle.rv_types.specs.Value.{bytes_in}
use Rattle.rv_types.specs.Word.{from_le, to_le}
use Rattle.rv_types.specs.declared.Cause.{Cause}
use Rattle.rv_types.specs.declared.Width.{Width}

-- the byte at an address, none outside
abbrev pub byte_of : Ram → ℕ → Option ℕ
byte_of ram addr = if nat_lt addr ram.base then None else slice_get ram.bytes (addr - ram.base)

-- the value, but for this fault
abbrev pub unless_fault : {T : Type 0} → Option Cause → T → Result T Cause
unless_fault None value = Ok value
unless_fault (Some cause) value = Err cause

-- what a read of this width answers: a fault, or the number of its bytes
abbrev pub get_of : Ram → ℕ → Width → Result ℕ Cause
get_of ram addr width = unless_fault (load_fault ram addr (bytes_in width)) (from_le (bytes_at ram addr (bytes_in width)))

-- memory after a write that has this fault, or none
abbrev pub put_by : Option Cause → Ram → Ram → Ram × Result (Unit {0}) Cause
put_by None old new = (new, Ok tt)
put_by (Some cause) old new = (old, Err cause)

-- what a write of this width leaves and answers: a fault, or the lowest bytes of the value in place of those there
abbrev pub put_of : Ram → ℕ → Width → ℕ → Ram × Result (Unit {0}) Cause
put_of ram addr width value = put_by (store_fault ram addr (bytes_in width)) ram (with_bytes ram addr (to_le (bytes_in width) value))

-- the bytes with others in the place of those from a place on
abbrev pub with_bytes_from : List ℕ → ℕ → List ℕ → List ℕ
with_bytes_from bytes at new = take at bytes ++ new ++ drop (at + length new) bytes
