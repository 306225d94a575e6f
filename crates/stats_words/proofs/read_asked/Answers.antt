use Rattle.std.proofs.Common.{rules}
use Rattle.stats_words.proofs.Stats.{empty_words, words_are, words_faulty}
use Rattle.stats_words.proofs.read_asked.Goals as goal

pub returns-then-is_empty-clause-refused : goal.returns-then-is_empty-clause-refused
returns-then-is_empty-clause-refused c = λ _. empty_words _ _ (search rules)

pub returns-in-Err-clause-refused : goal.returns-in-Err-clause-refused
returns-in-Err-clause-refused c = λ e. words_faulty _ (c.in-Err.ensures.refused e)

pub returns-in-Some-clause-ok : goal.returns-in-Some-clause-ok
returns-in-Some-clause-ok c = words_are _ c.in-Ok.matches _ c.in-Ok.ensures.ok.0 c.in-Ok.ensures.ok.1 c.in-Some.ensures

pub returns-clause-refused : goal.returns-clause-refused
returns-clause-refused c = λ e. words_are _ c.in-Ok.matches _ c.in-Ok.ensures.ok.0 c.in-Ok.ensures.ok.1 c.in-None.ensures
