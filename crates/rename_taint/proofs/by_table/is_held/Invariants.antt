use Rattle.std.proofs.Common.{◌≡◌, drop}
use Rattle.std.specs.Prelude.{◌==◌}
use Rattle.std.specs.List.{list_any}
use Rattle.rename_taint.specs.Table.{writes_of}
use Rattle.rename_taint.proofs.by_table.is_held.Given as goal

abbrev pub invariant-loop-i : goal.invariant-loop-i
invariant-loop-i l = list_any (λ w. w.serial == l.serial) (writes_of (drop l.i l.undo.items)) ≡ list_any (λ w. w.serial == l.serial) (writes_of l.undo.items)
