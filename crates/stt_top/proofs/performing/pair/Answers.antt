-- What is written is the comparison of what the pair answers.
use Rattle.run_inputs.proofs.Exits.{at_exit}
use Rattle.stt_top.proofs.Outcomes.{pair_answers, compared, compared_part}
use Rattle.run_inputs.specs.Loaded.{image_text}
use Rattle.stt_top.specs.Work.{pair_task}
use Rattle.stt_top.specs.inner.Work.{Performs}
use Rattle.stt_top.proofs.performing.pair.Goals as goal

pub returns-in_err-write_comparison : goal.returns-in_err-write_comparison
returns-in_err-write_comparison g c =
    let d = c.args.desc.now in
    at_exit (Performs (pair_task d (image_text c.args.one) (image_text c.args.two) c.args.cycles) (g.O.Sink.told c.args.out.now) (g.O.Sink.told c.write_comparison.new.out)) _ _
    c.from_residual-in_err-write_comparison.ensures.1
    (compared_part d (image_text c.args.one) (image_text c.args.two) c.args.cycles _ _ _ (pair_answers _ d c.args.one c.args.two c.args.cycles _ c.in_ok-build_pair.ensures c.run-answer.ensures.answers) c.in_err-write_comparison.ensures)

pub returns : goal.returns
returns g c =
    let d = c.args.desc.now in
    compared d (image_text c.args.one) (image_text c.args.two) c.args.cycles _ _ _ _ (pair_answers _ d c.args.one c.args.two c.args.cycles _ c.in_ok-build_pair.ensures c.run-answer.ensures.answers)
    c.in_ok-write_comparison.ensures c.compared_of.ensures
