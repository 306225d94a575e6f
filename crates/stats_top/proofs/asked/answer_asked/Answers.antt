-- What is read is refused, or what is told is told of the run that is asked for.
use Rattle.run_inputs.specs.Loaded.{image_text}
use Rattle.stats_words.specs.Words.{AskedText}
use Rattle.stats_words.specs.inner.Words.{asked_text}
use Rattle.stats_top.specs.Top.{Inputs}
use Rattle.stats_top.proofs.Outcomes.{inputs_refused, told_end}
use Rattle.stats_top.proofs.asked.answer_asked.Goals as goal

pub returns-in-Err-clause-ends : goal.returns-in-Err-clause-ends
returns-in-Err-clause-ends g c =
    let old = g.F.Files.shelf c.args.files.now in
    let new = g.F.Files.shelf c.read_described.new.files in
    inputs_refused (asked_text c.args.asked) old new (g.O.Sink.told c.args.out.now) _ c.in-Err.ensures.answer

pub returns-clause-ends : goal.returns-clause-ends
returns-clause-ends g c =
    let old = g.F.Files.shelf c.args.files.now in
    let new = g.F.Files.shelf c.read_described.new.files in
    let asked : AskedText = asked_text c.args.asked in
    let inputs : Inputs asked old new = record { desc = c.in-Ok.read.desc; image = image_text c.in-Ok.read.image; read = c.in-Ok.ensures.answer } in
    told_end asked old new (g.O.Sink.told c.args.out.now) (g.O.Sink.told c.perform.new.out) inputs c.perform.result c.perform.ensures
