-- What a put leaves of a stream that tells the bytes that it holds, and what a read takes of one that tells those that
-- are left.
use Rattle.std.specs.Prelude.{◌<◌, ℕ, List, length, take, Option, Some, None, Result, MatchResult}
use Rattle.std.specs.Io.KnownBytes.{Appends, Consumes}
use Rattle.tool_io.specs.declared.Failed.{Failed}

-- The bytes that a stream holds, where it tells them, and how often a put on it has failed.
pub record StreamState : Type 0 where
  pub held : Option (List ℕ)
  pub faults : ℕ

-- The first bytes of the piece stand behind what the stream held, but not all of them.
pub record AppendsPart (piece : List ℕ) (old new : Option (List ℕ)) : Type 0 where
  pub sent : ℕ
  pub short : sent < length piece
  pub appended : Appends old new (take sent piece)

-- A put of the whole piece: all of it stands behind what the stream held, or a write failed before that.
abbrev pub PutsAll : List ℕ → Option (List ℕ) → Option (List ℕ) → Result (Unit {0}) Failed → Type 0
PutsAll piece old new result = MatchResult result (λ _. Appends old new piece) (λ _. AppendsPart piece old new)

-- A stream that tells what is left has given some of it.
abbrev pub HasGiven : Option (List ℕ) → Option (List ℕ) → Type 0
HasGiven old new = (given : List ℕ) × (0 < length given) × Consumes old new given

-- A stream that tells what is left has something to give.
abbrev pub GivesSome : Option (List ℕ) → Type 0
GivesSome None = Unit {0}
GivesSome (Some bytes) = 0 < length bytes
