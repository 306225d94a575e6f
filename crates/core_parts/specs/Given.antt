-- Loads whose values are given from a move of the visibility point on (docs/machine.md, "Writers and roots").
use Rattle.std.specs.Prelude.{ℕ, Bool, ◌&&◌, nat_le, List, map, drop}
use Rattle.std.specs.List.{filter}
use Rattle.window_model.specs.declared.Entry.{Entry}
use Rattle.window_model.specs.Order.{is_done, is_load}

-- a load that is Done, with a serial up to this one
abbrev pub is_given : ℕ → Entry → Bool
is_given point e = is_load e.item.kind && is_done e.state && nat_le e.serial point

-- the serials of those from a position on
abbrev pub given_from : ℕ → ℕ → List Entry → List ℕ
given_from from point window = map (λ e. e.serial) (filter (is_given point) (drop from window))
