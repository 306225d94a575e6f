-- The report is the output of the run, and then its last state.
use Rattle.std.proofs.Common.{◌∙◌, ap}
use Rattle.elf_loader.specs.inner.Code.{word_at}
use Rattle.stt_top.specs.Outcome.{ended_of}
use Rattle.stt_top.proofs.Turns.{output_part, report_whole, report_part, same_base, same_size}
use Rattle.stt_top.proofs.running.report.Goals as goal

pub returns-in-Err : goal.returns-in-Err
returns-in-Err g c = output_part _ _ _ _ c.in-Err.ensures

pub write_report-requires-clause-base : goal.write_report-requires-clause-base
write_report-requires-clause-base g c = same_base (word_at c.args.started.now.isa.code) c.args.started.now.isa.hart c.run.new.state.hart c.args.steps c.args.started.now.before c.ram.result.now c.requires.base c.in-Ok.ensures.hart_is c.ram.ensures

pub write_report-requires-clause-size : goal.write_report-requires-clause-size
write_report-requires-clause-size g c = same_size (word_at c.args.started.now.isa.code) c.args.started.now.isa.hart c.run.new.state.hart c.args.steps c.args.started.now.before c.ram.result.now c.requires.size c.in-Ok.ensures.hart_is c.ram.ensures

pub returns-in-Ok-write_report : goal.returns-in-Ok-write_report
returns-in-Ok-write_report g c = (
  report_whole _ _ _ _ _ _ _ _ _ _ _ c.in-Ok.ensures c.pc.ensures c.regs.ensures c.ram.ensures c.in-Ok-write_report.ensures,
  c.ended_of.ensures ∙ ap ended_of c.in-Ok.ensures.ended_is,
)

pub returns-in-Err-write_report : goal.returns-in-Err-write_report
returns-in-Err-write_report g c =
    report_part _ _ _ _ _ _ _ _ _ _ _ c.in-Ok.ensures c.pc.ensures c.regs.ensures c.ram.ensures c.in-Err-write_report.ensures
