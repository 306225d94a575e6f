-- The rows from this one on are left to write.
use Rattle.std.proofs.Common.{◌/◌, ◌-◌, length}
use Rattle.tool_io.proofs.Writing.{WroteUpTo}
use Rattle.report_text.specs.Report.{each_from, row_text, row_lines}
use Rattle.report_text.proofs.rows.write_rows.Given as goal

abbrev pub invariant-loop-row : goal.invariant-loop-row
invariant-loop-row g l =
    WroteUpTo (row_lines l.before l.after) (each_from (row_text l.before l.after) l.row (length l.after.bytes / 16 - l.row)) (g.S.Sink.told l.initial.out) (g.S.Sink.told l.out)

abbrev pub decreases-loop-row : goal.decreases-loop-row
decreases-loop-row g l = length l.after.bytes / 16 - l.row
