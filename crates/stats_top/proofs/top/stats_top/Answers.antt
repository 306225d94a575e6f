-- What each status says follows from how the program ends.
use Rattle.std.proofs.Common.{List, ℕ, map}
use Rattle.run_inputs.specs.Told.{World, world}
use Rattle.stats_top.proofs.Statuses.{statuses_at}
use Rattle.stats_top.proofs.top.stats_top.Goals as goal

pub returns-clause-statuses : goal.returns-clause-statuses
returns-clause-statuses g c =
    let words : List (List ℕ) = map (λ w. w.now) c.args.words.now in
    let old : World = world (g.F.Files.shelf c.args.files.now) (g.O.Sink.told c.args.out.now) in
    let new : World = world (g.F.Files.shelf c.answer-outcome.new.files) (g.O.Sink.told c.answer-outcome.new.out) in
    statuses_at words old new c.answer-outcome.result c.status_of.result c.answer-outcome.ensures.ends c.status_of.ensures
