-- What is written of two runs (docs/formats.md, "The comparison").
use Rattle.std.specs.Prelude.{ℕ, Bool, true, false, List, ◌++◌, codes, decimal}
use Rattle.pair_run.specs.declared.answer.Differ.{Differ}
use Rattle.pair_run.specs.declared.answer.Differ.TheVariants.{Same, Cycle, End}
use Rattle.pair_run.specs.declared.answer.PairAnswer.{PairAnswer}

-- whether the runs have to be the same
abbrev pub premise_line : Bool → List ℕ
premise_line true = codes "premise yes\n"
premise_line false = codes "premise no\n"

-- the line that says how two runs differ
unfoldable pub differ_line : Differ → List ℕ
differ_line Same = codes "equal\n"
differ_line (Cycle k) = codes "unequal " ++ decimal k ++ codes "\n"
differ_line End = codes "unequal end\n"

-- the line that says how long the first run was
unfoldable pub length_line : ℕ → ℕ → List ℕ
length_line retired cycles = codes "retired " ++ decimal retired ++ codes " cycles " ++ decimal cycles ++ codes "\n"

-- the three lines of a comparison
unfoldable pub comparison : PairAnswer → List ℕ
comparison a = premise_line a.premise ++ (differ_line a.first ++ length_line a.retired a.cycles)
