-- Beside Slots.antt: what only clauses of the code and lemmas cite.
use Rattle.std.specs.Prelude.{ℕ, List, codes}
use Rattle.run_counts.specs.inner.Counting.{number_with, numbers_by}
use Rattle.slot_reasons.specs.Slots.{slot_names}

-- the numbers once the slots are added in which so many instructions retired
abbrev pub filled : ℕ → List ℕ → List ℕ
filled retired = numbers_by (λ name k. number_with name (codes "slots_base") retired k) slot_names
