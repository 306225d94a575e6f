-- What stands beside the entries, by position.
use Rattle.std.specs.Prelude.{ℕ, List, map, Option}
use Rattle.rob_ring.specs.declared.beside.Sources.{Sources}

-- the youngest roots of each entry's sources
abbrev pub each_roots : List Sources → List (List (Option ℕ))
each_roots sources = map (λ s. s.roots) sources

-- the serials of their writers
abbrev pub each_writers : List Sources → List (List (Option ℕ))
each_writers sources = map (λ s. s.writers) sources
