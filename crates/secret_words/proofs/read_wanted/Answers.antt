use Rattle.std.proofs.Common.{rules}
use Rattle.std.proofs.lemmas.Result.{IfOk-weaker, IfErr-weaker}
use Rattle.secret_words.proofs.Secrets.{empty_words, words_are, words_faulty}
use Rattle.secret_words.proofs.read_wanted.Goals as goal

pub returns-then-is_empty-clause-refused : goal.returns-then-is_empty-clause-refused
returns-then-is_empty-clause-refused c = λ _. empty_words _ _ (search rules)

pub returns-in-Err-clause-refused : goal.returns-in-Err-clause-refused
returns-in-Err-clause-refused c = λ e. words_faulty _ (c.in-Err.ensures.refused e)

pub returns-clause-ok : goal.returns-clause-ok
returns-clause-ok c = IfOk-weaker c.wanted_in.result _ _ (λ w h. words_are _ c.in-Ok.matches _ c.in-Ok.ensures.ok.0 c.in-Ok.ensures.ok.1 h) c.wanted_in.ensures.ok

pub returns-clause-refused : goal.returns-clause-refused
returns-clause-refused c = IfErr-weaker c.wanted_in.result _ _ (λ e h words. words_are _ c.in-Ok.matches _ c.in-Ok.ensures.ok.0 c.in-Ok.ensures.ok.1 (h words)) c.wanted_in.ensures.refused
