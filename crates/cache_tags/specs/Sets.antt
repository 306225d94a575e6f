-- The cache's tags, as they are kept (docs/machine.md, "State").
use Rattle.std.specs.Prelude.{ℕ, List, refl}
use Rattle.std.specs.Coded.{Coded, code_by, coded×, coded_ℕ, coded_list}
use Rattle.machine_desc.specs.contracts.Desc as desc
use Rattle.machine_desc.specs.declared.Desc.{Desc}
use Rattle.window_model.specs.Sets.{set_in}

-- a level of a cache: so many sets of so many ways, with lines of so many bytes; for each set its lines, the most
-- recently used first
pub record Lines : Type 0 where
  pub count : ℕ
  pub ways : ℕ
  pub bytes : ℕ
  pub sets : List (List ℕ)

-- a level is stored as how many sets it has, its ways, the bytes of a line, and its sets
abbrev pub lines_code : Coded Lines
lines_code =
    code_by (ℕ × (ℕ × (ℕ × List (List ℕ)))) (coded× coded_ℕ (coded× coded_ℕ (coded× coded_ℕ (coded_list (coded_list coded_ℕ)))))
    (λ l. (l.count, (l.ways, (l.bytes, l.sets)))) (λ p. record { count = p.0; ways = p.1.0; bytes = p.1.1.0; sets = p.1.1.1 }) (λ _. refl)

-- the set that a line belongs to
abbrev pub set_at : Lines → ℕ → ℕ
set_at l line = set_in l.bytes l.count line

-- the cache of a machine with this description: for each set its lines, the most recently used first
pub record Cache : Type 0 where
  pub desc : Desc
  pub sets : List (List ℕ)

-- a cache is stored as the description and its sets
abbrev pub cache_code : Coded Cache
cache_code =
    code_by (Desc × List (List ℕ)) (coded× desc.the_row.coded (coded_list (coded_list coded_ℕ))) (λ c. (c.desc, c.sets)) (λ p. record { desc = p.0; sets = p.1 }) (λ _. refl)
