-- What a failing sink has taken is a part of the trace of the machine where the image begins.
use Rattle.run_inputs.specs.Loaded.{image_text}
use Rattle.stt_top.specs.Work.{trace_task}
use Rattle.stt_top.specs.inner.Work.{Performs}
use Rattle.run_inputs.proofs.Exits.{at_exit}
use Rattle.stt_top.proofs.Outcomes.{trace_part}
use Rattle.stt_top.proofs.performing.trace.Goals as goal

pub returns-in_err-ended : goal.returns-in_err-ended
returns-in_err-ended g c =
    let d = c.args.read.desc in
    let image = image_text c.args.read.image in
    at_exit (Performs (trace_task d image c.args.cycles) (g.O.Sink.told c.args.out.now) (g.O.Sink.told c.trace.new.out)) _ _ c.from_residual-in_err-ended.ensures.1
    (trace_part image d _ _ _ c.args.cycles _ _ c.in_ok-core.ensures c.in_err-ended.ensures)
