-- The second level of the cache (docs/machine.md, "Second level").
use Rattle.std.specs.Prelude.{ℕ, Bool, List}
use Rattle.machine_desc.specs.declared.Desc.{Desc}
use Rattle.window_model.specs.Sets.{set_in, is_in, moved_up, with_front_line}

-- the set of the second level that a line belongs to
abbrev pub second_set_of : Desc → ℕ → ℕ
second_set_of d line = set_in d.cache_line d.cache_second_sets line

-- the second level has the line: none where it has no sets
abbrev pub second_has : Desc → List (List ℕ) → ℕ → Bool
second_has d second line = is_in second (second_set_of d line) line

-- the line moves to the front of its set, where it is there
abbrev pub second_touched : Desc → List (List ℕ) → ℕ → List (List ℕ)
second_touched d second line = moved_up second (second_set_of d line) line

-- the line enters the front of its set, whose last line goes where there are too many
abbrev pub second_with_line : Desc → List (List ℕ) → ℕ → List (List ℕ)
second_with_line d second line = with_front_line d.cache_second_ways second (second_set_of d line) line
