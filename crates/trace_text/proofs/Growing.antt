-- The text of a trace, as the run goes on.
use Rattle.std.proofs.Common.{◌≡◌, List, [], ◌∷◌, ◌++◌, refl}
use Rattle.line_text.specs.EndLine.{end_line}
use Rattle.window_model.specs.Row.{Row}
use Rattle.window_model.specs.Cycle.{Trace}
use Rattle.trace_text.specs.TraceText.{row_text, rows_text, ending_of, trace_text}

-- one more cycle in front
pub rows_text_more : (row : Row) (rest : List Row) → rows_text (row ∷ rest) ≡ row_text row ++ rows_text rest
unfolding rows_text
rows_text_more row rest = refl

-- where there is no cycle there is no line
pub rows_text_none : rows_text [] ≡ []
unfolding rows_text
rows_text_none = refl

-- a whole trace is the lines of the cycles, and then the last line
pub trace_parts : (trace : Trace) → trace_text trace ≡ rows_text trace.rows ++ end_line (ending_of trace)
unfolding trace_text
trace_parts trace = refl
