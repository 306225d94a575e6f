-- The sets of both levels of the cache once lines have entered (docs/machine.md, "Fill").
use Rattle.std.specs.Prelude.{ℕ, Bool, List, if◌then◌else◌}
use Rattle.std.specs.List.{fold}
use Rattle.window_model.specs.Fill.{with_line}
use Rattle.window_model.specs.SecondLevel.{second_with_line}
use Rattle.cache_tags.specs.Sets.{Cache}

-- the cache once these lines have entered, one after the other
abbrev pub with_lines : List ℕ → Cache → Cache
with_lines lines tags = record tags { sets = fold (with_line tags.desc) tags.sets lines }

-- the second level once these lines have entered, one after the other
abbrev pub with_second_lines : List ℕ → Cache → Cache
with_second_lines lines second = record second { sets = fold (second_with_line second.desc) second.sets lines }

-- the second level once a line has entered, if it comes from memory
abbrev pub with_second_line : Bool → ℕ → Cache → Cache
with_second_line memory line second =
    if memory then record second { sets = second_with_line second.desc second.sets line } else second
