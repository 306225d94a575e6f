use Rattle.std.specs.Prelude.{slice_index}
use Rattle.tool_io.proofs.Writing.{writes_part}
use Rattle.report_text.specs.Report.{register_line}
use Rattle.report_text.proofs.Turns.{each_wrote, each_part, each_done}
use Rattle.report_text.proofs.state.write_registers.Goals as goal

pub returns-in_err-write_register : goal.returns-in_err-write_register
returns-in_err-write_register g c =
    writes_part _ _ _ _ c.from_residual.ensures.0
    (each_part _ (λ number. register_line number (slice_index c.args.regs.now number)) _ _ _ _ _ c.loop-number-test.true c.loop-number.invariant c.in_err-write_register.ensures)

pub loop-number-preserved : goal.loop-number-preserved
loop-number-preserved g c =
    each_wrote _ (λ number. register_line number (slice_index c.args.regs.now number)) _ _ _ _ _ c.loop-number-test.true c.loop-number.invariant c.in_ok-write_register.ensures

pub returns : goal.returns
returns g c =
    each_done _ (λ number. register_line number (slice_index c.args.regs.now number)) _ _ _ _ c.loop-number-test.false c.loop-number.invariant
