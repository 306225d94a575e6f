-- The registers from this one on are left to write.
use Rattle.std.proofs.Common.{◌-◌}
use Rattle.std.specs.Prelude.{slice_index}
use Rattle.tool_io.proofs.Writing.{WroteUpTo}
use Rattle.report_text.specs.Report.{each_from, register_line, register_lines}
use Rattle.report_text.proofs.state.write_registers.Given as goal

abbrev pub invariant-loop-number : goal.invariant-loop-number
invariant-loop-number g l =
    WroteUpTo (register_lines l.regs) (each_from (λ number. register_line number (slice_index l.regs number)) l.number (32 - l.number)) (g.S.Sink.told l.initial.out) (g.S.Sink.told l.out)
