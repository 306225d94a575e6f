-- The trace is the rows of the run, and then the last line.
use Rattle.std.proofs.Common.{◌∙◌, ap}
use Rattle.stt_top.specs.Outcome.{ended_of}
use Rattle.stt_top.proofs.CoreTexts.{rows_alone, trace_whole, trace_cut}
use Rattle.stt_top.proofs.clocking.trace.Goals as goal

pub returns-in-Err : goal.returns-in-Err
returns-in-Err g c = rows_alone (g.C.Clocked.desc c.args.core.now) (g.C.Clocked.code c.args.core.now) c.args.cycles (g.C.Clocked.machine c.args.core.now) _ _ c.in-Err.ensures

pub returns-in-Ok-write_end : goal.returns-in-Ok-write_end
returns-in-Ok-write_end g c = (
  trace_whole (g.C.Clocked.desc c.args.core.now) (g.C.Clocked.code c.args.core.now) c.args.cycles (g.C.Clocked.machine c.args.core.now) _ _ _ _ _ c.in-Ok.ensures c.ending_at.ensures c.in-Ok-write_end.ensures,
  c.ended_of.ensures ∙ ap ended_of (c.end.ensures ∙ ap (λ m. m.end) c.in-Ok.ensures.last),
)

pub returns-in-Err-write_end : goal.returns-in-Err-write_end
returns-in-Err-write_end g c = trace_cut (g.C.Clocked.desc c.args.core.now) (g.C.Clocked.code c.args.core.now) c.args.cycles (g.C.Clocked.machine c.args.core.now) _ _ _ _ _ c.in-Ok.ensures c.ending_at.ensures c.in-Err-write_end.ensures
