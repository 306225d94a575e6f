-- Entries that issue, before any of them does in its place (docs/machine.md, "Issue").
use Rattle.std.specs.Prelude.{ℕ, List}
use Rattle.core_parts.specs.declared.decided.Put.{Put}

-- the entries that issue, or of which a part does, oldest first
pub record Puts : Type 0 where
  pub items : List Put

-- the most entries that issue in a cycle, or of which a part does: four arithmetic ones, a multiplication, a division,
-- a load and two stores
abbrev pub most_begun : ℕ
most_begun = 9
