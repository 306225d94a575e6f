-- Bytes of a file, in part replaced
use Rattle.std.specs.Prelude.{ℕ, ◌+◌, List, ◌++◌, length, take, drop}

-- the bytes with others in the place of as many from an offset on
abbrev pub with_bytes_at : List ℕ → ℕ → List ℕ → List ℕ
with_bytes_at bytes at new = take at bytes ++ new ++ drop (at + length new) bytes
