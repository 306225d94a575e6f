-- Which branch or JALR is resolved, by the point and the roots of its sources (docs/machine.md, "Resolve").
use Rattle.std.specs.Prelude.{ℕ, ◌+◌, Bool, not, ◌&&◌, List, [], ◌∷◌, Option, Some, None, if◌then◌else◌}
use Rattle.std.specs.List.{list_any}
use Rattle.machine_desc.specs.declared.Desc.{Desc}
use Rattle.window_model.specs.declared.Entry.{Entry}
use Rattle.window_model.specs.Order.{is_control, is_done}
use Rattle.visibility.specs.Gate.{may_show_by}
use Rattle.visibility.specs.Point.{is_hidden}

-- a branch or JALR that is Done and not resolved, none of whose sources has a tainted root, and that may show its
-- operands
abbrev pub can_resolve : Desc → ℕ → Entry → List (Option ℕ) → Bool
can_resolve d point e roots =
    is_control e.item.kind && is_done e.state && not e.resolved && (not (list_any (is_hidden point) roots) && may_show_by d point e.serial)

-- the position of the first of these entries that can be resolved, where they begin at position i, with the roots of
-- each
abbrev pub pick_from : Desc → ℕ → ℕ → List Entry → List (List (Option ℕ)) → Option ℕ
pick_from d point i [] roots = None
pick_from d point i (e ∷ es) [] = None
pick_from d point i (e ∷ es) (rs ∷ roots) = if can_resolve d point e rs then Some i else pick_from d point (i + 1) es roots
