-- What Issue has decided before any entry issues in its place (docs/machine.md, "Issue").
use Rattle.std.specs.Prelude.{◌≡◌, [], None}
use Rattle.core_parts.specs.declared.decided.Decided.{Decided}

-- nothing, as the phase begins
pub record IsNothing (decided : Decided) : Type 0 where
  pub puts : decided.puts.items ≡ []
  pub load : decided.load ≡ None
  pub kept : decided.kept ≡ None
