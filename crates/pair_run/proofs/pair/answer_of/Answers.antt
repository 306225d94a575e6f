use Rattle.std.proofs.Common.{◌∙◌, ◌+◌, ap}
use Rattle.window_model.specs.State.{Machine}
use Rattle.pair_run.proofs.Answering.{at_end, counted_at_end, answers, hidden, is_premise}
use Rattle.pair_run.proofs.pair.answer_of.Goals as goal

pub steps_of-steps-requires : goal.steps_of-steps-requires
steps_of-steps-requires g c = record {
  counted = counted_at_end c.args.desc.now _ _ c.args.cycles c.requires.first_is _ c.run_both-first.ensures.last;
}

-- what is answered is said of the images
pub returns-clause-answers : goal.returns-clause-answers
returns-clause-answers g c =
    let d = c.args.desc.now in
    let held = c.requires in
    let last = at_end d _ _ c.args.cycles held.first_is _ c.run_both-first.ensures.last in
    let steps = c.steps_of-steps.ensures ∙ ap (λ (m : Machine). m.retired + d.core_rob) last in
    answers d _ _ _ _ _ _ c.args.cycles _ held steps _ _ _ _ _ last c.agree_for.ensures c.run_both-first.ensures.differ c.retired.ensures c.cycles.ensures

-- with the premise the law applies, where the model protects
pub returns-clause-hides : goal.returns-clause-hides
returns-clause-hides g c q t =
    let d = c.args.desc.now in
    let held = c.requires in
    let last = at_end d _ _ c.args.cycles held.first_is _ c.run_both-first.ensures.last in
    let steps = c.steps_of-steps.ensures ∙ ap (λ (m : Machine). m.retired + d.core_rob) last in
    hidden d _ _ _ _ c.args.cycles c.run_both-first.result q held.first_is held.second_is
    (is_premise d _ _ _ _ _ _ c.args.cycles _ held steps (c.agree_for.ensures.0 t)) c.run_both-first.ensures.differ
