-- The last line of a report or a trace (docs/formats.md, "The last line").
use Rattle.std.specs.Prelude.{ℕ, List, [], ◌++◌, Option, Some, None, codes, decimal}
use Rattle.rv_types.specs.declared.End.{End}
use Rattle.rv_types.specs.declared.End.TheVariants.{Exit, Trap}
use Rattle.rv_types.specs.declared.Ending.{Ending}
use Rattle.line_text.specs.Digits.{hex8}

-- how the run ended: by an exit with its value, by a trap with its cause and its pc, or because the budget was used up
abbrev pub end_words : Option End → List ℕ
end_words (Some (Exit value)) = codes "end exit " ++ decimal value
end_words (Some (Trap cause pc)) = codes "end trap " ++ decimal cause.number ++ codes " " ++ hex8 pc
end_words None = codes "end budget"

-- how many cycles it took, where cycles are counted
abbrev pub cycles_words : Option ℕ → List ℕ
cycles_words None = []
cycles_words (Some cycles) = codes " cycles " ++ decimal cycles

-- the last line: how the run ended, the number of instructions that took effect, and the cycles
unfoldable pub end_line : Ending → List ℕ
end_line e = end_words e.end ++ codes " retired " ++ decimal e.retired ++ cycles_words e.cycles ++ codes "\n"
