-- Beside Clocking.antt: what only clauses of the code and lemmas cite.
use Rattle.std.specs.Prelude.{◌≡◌, ℕ, List, Result, MatchResult}
use Rattle.rv_types.specs.Memory.{Code, Ram}
use Rattle.machine_desc.specs.declared.Desc.{Desc}
use Rattle.window_model.specs.State.{Machine}
use Rattle.window_model.specs.Cycle.{rows, pieces, after_cycles, trace_from}
use Rattle.report_text.specs.Report.{piece_lines}
use Rattle.trace_text.specs.TraceText.{rows_text, trace_text}
use Rattle.tool_io.specs.Outside.{Told, Wrote, WrotePrefix}
use Rattle.tool_io.specs.declared.Failed.{Failed}
use Rattle.stt_top.specs.declared.outcome.Ended.{Ended}
use Rattle.stt_top.specs.inner.Running.{Tells}
use Rattle.stt_top.specs.Clocking.{run_from, report_from}

-- a core came from x to the state after at most n cycles, and this text is written
pub record CameTo (text : List ℕ) (d : Desc) (code : Code) (n : ℕ) (x y : Machine) (old new : Told) : Type 0 where
  pub lines : Wrote text old new
  pub last : y ≡ after_cycles d code n x

-- the lines of the rows of at most n cycles are written, whole and with the core at their end, or in part
abbrev pub WritesRows : Desc → Code → ℕ → Machine → Machine → Told → Told → Result (Unit {0}) Failed → Type 0
WritesRows d code n x y old new result =
    MatchResult result (λ _. CameTo (rows_text (rows d code n x)) d code n x y old new) (λ _. WrotePrefix (rows_text (rows d code n x)) old new)

-- the lines of the output of at most n cycles are written likewise
abbrev pub WritesPieces : Desc → Code → ℕ → Machine → Machine → Told → Told → Result (Unit {0}) Failed → Type 0
WritesPieces d code n x y old new result =
    MatchResult result (λ _. CameTo (piece_lines (pieces d code n x)) d code n x y old new) (λ _. WrotePrefix (piece_lines (pieces d code n x)) old new)

-- the trace of a run of at most n cycles from a state is written, whole and with how the run ended, or in part
abbrev pub TellsTrace : Desc → Code → ℕ → Machine → Told → Told → Result Ended Failed → Type 0
TellsTrace d code n x old new result = Tells (trace_text (trace_from d code n x)) (trace_from d code n x).end old new result

-- the report of a core's run is written, whole and with how the run ended, or in part
abbrev pub TellsReport : Ram → Desc → Code → ℕ → Machine → Told → Told → Result Ended Failed → Type 0
TellsReport before d code n x old new result = Tells (report_from before d code n x) (run_from d code n x).ended old new result
