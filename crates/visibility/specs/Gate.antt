-- What an entry may show of its sources, by the point and the youngest roots of them (docs/machine.md, "Issue").
use Rattle.std.specs.Prelude.{ℕ, Bool, true, not, ◌&&◌, ◌||◌, nat_le, List, take, Option}
use Rattle.std.specs.List.{list_any}
use Rattle.rv_types.specs.declared.Kind.{Kind}
use Rattle.rv_types.specs.declared.Kind.TheVariants.{Load, Div}
use Rattle.machine_desc.specs.declared.Desc.{Desc}
use Rattle.window_model.specs.Delay.{delays}
use Rattle.visibility.specs.Point.{is_hidden}

-- an entry with this serial may show its operands: the defence doesn't delay it, or the point has reached it
abbrev pub may_show_by : Desc → ℕ → ℕ → Bool
may_show_by d point serial = not (delays d.stt_defence) || nat_le serial point

-- a load that may show its operands may issue with an untainted base, the first source, and such a division with
-- untainted operands
abbrev pub may_transmit : Kind → Desc → ℕ → ℕ → List (Option ℕ) → Bool
may_transmit Load d point serial roots = not (list_any (is_hidden point) (take 1 roots)) && may_show_by d point serial
may_transmit Div d point serial roots = not (list_any (is_hidden point) roots) && may_show_by d point serial
may_transmit _ d point serial roots = true
