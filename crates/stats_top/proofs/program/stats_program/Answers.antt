-- What the statuses say follows from how the program ends.
use Rattle.std.proofs.Common.{map, string_bytes}
use Rattle.std.specs.Process.{exit_status}
use Rattle.run_inputs.specs.Told.{world}
use Rattle.run_inputs.proofs.OverWords.{if_ok}
use Rattle.stats_top.proofs.OverWords.{statuses_of}
use Rattle.stats_top.proofs.program.stats_program.Goals as goal

pub returns-clause-statuses : goal.returns-clause-statuses
returns-clause-statuses g c =
    let old = world (g.F.Files.shelf c.args.files.now) (g.O.Sink.told c.args.out.now) in
    let new = world (g.F.Files.shelf c.over_read.new.files) (g.O.Sink.told c.over_read.new.out) in
    if_ok c.args.words _ _
    (λ w e. statuses_of (map string_bytes w.items) old new (g.N.Sink.told c.args.note.now) (g.N.Sink.told c.over_read.new.note) (exit_status c.over_read.result) e)
    c.over_read.ensures.ends
