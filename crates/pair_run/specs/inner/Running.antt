-- Beside Running.antt: what only clauses of the code and lemmas cite.
use Rattle.std.specs.Prelude.{◌≡◌, ◌≢◌, ℕ, ◌-◌, Option, Some, None}
use Rattle.rv_types.specs.Memory.{Code}
use Rattle.rv_types.specs.declared.Ending.{Ending}
use Rattle.machine_desc.specs.declared.Desc.{Desc}
use Rattle.window_model.specs.State.{Machine}
use Rattle.window_model.specs.Cycle.{rows, after_cycles}
use Rattle.pair_run.specs.Answer.{FirstUnequal}
use Rattle.pair_run.specs.declared.answer.Differ.{Differ}
use Rattle.pair_run.specs.declared.answer.Differ.TheVariants.{Same, Cycle, End}

-- the run of n cycles from x has come to y: the cycles that are left lead from y to where all of them lead from x
abbrev pub OnItsWay : Desc → Code → ℕ → Machine → Machine → Type 0
OnItsWay d code n x y = after_cycles d code (n - (y.cycle - x.cycle)) y ≡ after_cycles d code n x

-- where two runs of at most n cycles first have unequal rows, None where they have the same rows and the second is at
-- its end
abbrev pub ComparesRuns : Desc → Code → Desc → Code → ℕ → Machine → Machine → Machine → Option ℕ → Type 0
ComparesRuns d code d2 code2 n x x2 y2 (Some k) = FirstUnequal (rows d code n x) (rows d2 code2 n x2) k
ComparesRuns d code d2 code2 n x x2 y2 None = (rows d code n x ≡ rows d2 code2 n x2) × (y2 ≡ after_cycles d2 code2 n x2)

-- how two runs differ, by where their rows first do and by how they end
abbrev pub DiffersBy : Option ℕ → Ending → Ending → Differ → Type 0
DiffersBy (Some k) end end2 differ = differ ≡ Cycle k
DiffersBy None end end2 Same = end ≡ end2
DiffersBy None end end2 End = end ≢ end2
DiffersBy None end end2 (Cycle k) = ⊥
