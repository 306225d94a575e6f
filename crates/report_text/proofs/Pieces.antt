-- The text of a run's output, as the run goes on.
use Rattle.std.proofs.Common.{◌≡◌, ℕ, List, [], ◌∷◌, ◌++◌, Option, refl}
use Rattle.rv_types.specs.Isa.{with_piece, Run}
use Rattle.rv_types.specs.Memory.{Ram}
use Rattle.report_text.specs.Report.{piece_text, piece_lines, state_text, report_text}

-- the lines of pieces with one more in front, which may be empty
pub piece_lines_more : (p : List ℕ) (ps : List (List ℕ)) → piece_lines (with_piece p ps) ≡ piece_text p ++ piece_lines ps
unfolding piece_lines
piece_lines_more [] ps = refl
piece_lines_more (b ∷ bs) ps = refl

-- where there is no piece there is no line
pub piece_lines_none : piece_lines [] ≡ []
unfolding piece_lines
piece_lines_none = refl

-- a whole report is the lines of output, and then the state at the end
pub report_parts : (before : Ram) (run : Run) (cycles : Option ℕ)
    → report_text before run cycles ≡ piece_lines run.pieces ++ state_text run.last before (record { end = run.ended; retired = run.steps; cycles = cycles })
unfolding report_text
report_parts before run cycles = refl
