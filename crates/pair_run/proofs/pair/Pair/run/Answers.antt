-- What is answered of the parts is said of the images.
use Rattle.std.proofs.Common.{◌≡◌, true, sym, subst}
use Rattle.window_model.specs.Taint.{protects}
use Rattle.pair_run.specs.Answer.{Answers}
use Rattle.pair_run.specs.inner.Images.{Images}
use Rattle.run_inputs.specs.Loaded.{image_text}
use Rattle.pair_run.proofs.pair.Pair.run.Goals as goal

pub returns-clause-answers : goal.returns-clause-answers
returns-clause-answers g c = subst (λ (p : Images). Answers p.desc (image_text p.one) (image_text p.two) c.args.cycles c.answer_of.result) c.self.view_is c.answer_of.ensures.answers

pub returns-clause-hides : goal.returns-clause-hides
returns-clause-hides g c q t = c.answer_of.ensures.hides (subst (λ (p : Images). protects p.desc.stt_model ≡ true) (sym c.self.view_is) q) t
