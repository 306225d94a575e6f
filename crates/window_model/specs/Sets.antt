-- A level of a cache: for each set a list of lines, the most recently used first (docs/machine.md, "State").
use Rattle.std.specs.Prelude.{ℕ, ◌/◌, ◌%◌, Bool, not, ◌==◌, List, [], ◌∷◌, take, slice_set, slice_index_or, if◌then◌else◌}
use Rattle.std.specs.List.{filter, list_any}

-- the set that a line belongs to, by how many bytes a line has and how many sets there are
abbrev pub set_in : ℕ → ℕ → ℕ → ℕ
set_in bytes count line = line / bytes % count

-- set s has the line
abbrev pub is_in : List (List ℕ) → ℕ → ℕ → Bool
is_in sets s line = list_any (λ l. l == line) (slice_index_or sets s [])

-- the line moves to the front of set s, where it is there
abbrev pub moved_up : List (List ℕ) → ℕ → ℕ → List (List ℕ)
moved_up sets s line =
    if is_in sets s line then slice_set sets s (line ∷ filter (λ l. not (l == line)) (slice_index_or sets s [])) else sets

-- the line enters the front of set s, whose last line goes where there are more than so many ways
abbrev pub with_front_line : ℕ → List (List ℕ) → ℕ → ℕ → List (List ℕ)
with_front_line ways sets s line = slice_set sets s (take ways (line ∷ slice_index_or sets s []))
