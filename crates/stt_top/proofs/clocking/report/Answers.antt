-- The report is the output of the run, and then its last state.
use Rattle.std.proofs.Common.{◌∙◌, ap}
use Rattle.stt_top.specs.Outcome.{ended_of}
use Rattle.stt_top.proofs.CoreTexts.{output_alone, core_report_whole, core_report_cut, base_stays, size_stays}
use Rattle.stt_top.proofs.clocking.report.Goals as goal

pub returns-in-Err : goal.returns-in-Err
returns-in-Err g c = output_alone _ (g.C.Clocked.desc c.args.core.now) (g.C.Clocked.code c.args.core.now) c.args.cycles (g.C.Clocked.machine c.args.core.now) _ _ c.in-Err.ensures

pub write_report-requires-clause-base : goal.write_report-requires-clause-base
write_report-requires-clause-base g c = base_stays (g.C.Clocked.desc c.args.core.now) (g.C.Clocked.code c.args.core.now) c.args.cycles (g.C.Clocked.machine c.args.core.now) _ c.args.before.now c.ram.result.now c.requires.sized c.in-Ok.ensures.last c.requires.base c.ram.ensures

pub write_report-requires-clause-size : goal.write_report-requires-clause-size
write_report-requires-clause-size g c = size_stays (g.C.Clocked.desc c.args.core.now) (g.C.Clocked.code c.args.core.now) c.args.cycles (g.C.Clocked.machine c.args.core.now) _ c.args.before.now c.ram.result.now c.requires.sized c.in-Ok.ensures.last c.requires.size c.ram.ensures

pub returns-in-Ok-write_report : goal.returns-in-Ok-write_report
returns-in-Ok-write_report g c = (
  core_report_whole _ (g.C.Clocked.desc c.args.core.now) (g.C.Clocked.code c.args.core.now) c.args.cycles (g.C.Clocked.machine c.args.core.now) _ _ _ _ _ _ _ _ c.in-Ok.ensures c.pc.ensures c.regs.ensures c.ram.ensures c.ending_at-ending.ensures c.in-Ok-write_report.ensures,
  c.ended_of.ensures ∙ ap ended_of (c.end.ensures ∙ ap (λ m. m.end) c.in-Ok.ensures.last),
)

pub returns-in-Err-write_report : goal.returns-in-Err-write_report
returns-in-Err-write_report g c =
    core_report_cut _ (g.C.Clocked.desc c.args.core.now) (g.C.Clocked.code c.args.core.now) c.args.cycles (g.C.Clocked.machine c.args.core.now) _ _ _ _ _ _ _ _ c.in-Ok.ensures c.pc.ensures c.regs.ensures c.ram.ensures c.ending_at-ending.ensures c.in-Err-write_report.ensures
