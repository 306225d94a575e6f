use Rattle.tool_io.proofs.Writing.{wrote_then_part, part_more, writes_then, writes_part}
use Rattle.report_text.specs.Report.{state_text}
use Rattle.report_text.proofs.state.write_report.Goals as goal

pub returns-in_err-write_registers : goal.returns-in_err-write_registers
unfolding state_text
returns-in_err-write_registers g c =
    writes_part _ _ _ _ c.from_residual.ensures.0 (part_more _ _ _ _ c.in_err-write_registers.ensures)

pub returns-in_err-write_pc : goal.returns-in_err-write_pc
unfolding state_text
returns-in_err-write_pc g c =
    writes_part _ _ _ _ c.from_residual-in_err-write_pc.ensures.0
    (wrote_then_part _ _ _ _ _ c.in_ok-write_registers.ensures (part_more _ _ _ _ c.in_err-write_pc.ensures))

pub returns-in_err-write_rows : goal.returns-in_err-write_rows
unfolding state_text
returns-in_err-write_rows g c =
    writes_part _ _ _ _ c.from_residual-in_err-write_rows.ensures.0
    (wrote_then_part _ _ _ _ _ c.in_ok-write_registers.ensures
    (wrote_then_part _ _ _ _ _ c.in_ok-write_pc.ensures (part_more _ _ _ _ c.in_err-write_rows.ensures)))

pub returns : goal.returns
unfolding state_text
returns g c =
    writes_then _ _ _ _ _ _ c.in_ok-write_registers.ensures
    (writes_then _ _ _ _ _ _ c.in_ok-write_pc.ensures (writes_then _ _ _ _ _ _ c.in_ok-write_rows.ensures c.write_end.ensures))
