-- The second level's tags, as they are kept (docs/machine.md, "State").
use Rattle.std.specs.Prelude.{◌≡◌, ℕ, List, [], Option, Some, None}
use Rattle.machine_desc.specs.declared.Desc.{Desc}
use Rattle.cache_tags.specs.Sets.{Lines}

-- for each set its lines: none where there is no level
abbrev pub sets_of : Option Lines → List (List ℕ)
sets_of None = []
sets_of (Some l) = l.sets

-- the level has the sizes that the description gives the second one: there is none where it gives no sets
abbrev pub IsLevel : Desc → Option Lines → Type 0
IsLevel d None = d.cache_second_sets ≡ 0
IsLevel d (Some l) = (l.count ≡ d.cache_second_sets) × (l.ways ≡ d.cache_second_ways) × (l.bytes ≡ d.cache_line)
