use Rattle.std.proofs.Common.{◌∙◌, sym}
use Rattle.secret_words.proofs.Naming.{streams_end, streams_more, streams_next, streams_none}
use Rattle.secret_words.proofs.streams.read_streams.Goals as goal

pub returns-in-None : goal.returns-in-None
returns-in-None c = sym (c.loop-text.invariant ∙ streams_next _ _ _ _ c.loop-text-test.true ∙ streams_none _ _ _ c.in-None.ensures)

pub loop-text-preserved : goal.loop-text-preserved
loop-text-preserved c = c.loop-text.invariant ∙ streams_next _ _ _ _ c.loop-text-test.true ∙ streams_more _ _ _ _ c.in-Some.ensures

pub returns : goal.returns
returns c = sym (c.loop-text.invariant ∙ streams_end _ _ _ c.loop-text-test.false)
