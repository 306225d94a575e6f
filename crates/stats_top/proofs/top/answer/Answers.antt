-- How what is asked for ends is how the program does.
use Rattle.std.proofs.Common.{List, ℕ, map}
use Rattle.run_inputs.specs.Told.{World, world}
use Rattle.stats_words.specs.inner.Words.{asked_text}
use Rattle.stats_top.proofs.Outcomes.{asked_end}
use Rattle.stats_top.proofs.top.answer.Goals as goal

pub returns-clause-ends : goal.returns-clause-ends
returns-clause-ends g c =
    let words : List (List ℕ) = map (λ w. w.now) c.args.words.now in
    let old : World = world (g.F.Files.shelf c.args.files.now) (g.O.Sink.told c.args.out.now) in
    let new : World = world (g.F.Files.shelf c.answer_asked.new.files) (g.O.Sink.told c.answer_asked.new.out) in
    asked_end words old new (asked_text c.in_ok-asked.asked) c.answer_asked.result c.in_ok-asked.ensures.ok c.answer_asked.ensures.ends
