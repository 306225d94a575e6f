-- What the tables are made of.
use Rattle.std.proofs.Common.{List}
use Rattle.std.specs.Prelude.{Bool, ℕ, codes}
use Rattle.std.specs.List.{list_all}
use Rattle.std.specs.Str.{bytes_eq}
use Prim.Native.String.{String}

-- all lines of a table hold
abbrev pub all : List Bool → Bool
all lines = list_all (λ line. line) lines

-- the bytes are this text
abbrev pub is_text : List ℕ → String → Bool
is_text bytes text = bytes_eq bytes (codes text)
