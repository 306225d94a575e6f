-- A program over words that were read ends as it does over the words.
use Rattle.std.proofs.Common.{map, string_bytes, ap, sym}
use Rattle.std.specs.Process.{exit_status}
use Rattle.run_inputs.specs.Told.{world}
use Rattle.run_inputs.proofs.OverWords.{at_ok, same_end}
use Rattle.run_inputs.proofs.program.over_read.Goals as goal

pub returns-in-Ok-clause-ends : goal.returns-in-Ok-clause-ends
returns-in-Ok-clause-ends g c =
    let old = world (g.F.Files.shelf c.args.files.now) (g.O.Sink.told c.args.out.now) in
    let new = world (g.F.Files.shelf c.over_words.new.files) (g.O.Sink.told c.over_words.new.out) in
    at_ok _ _ _ c.in-Ok.is
    (same_end g.P.Program.ends (map string_bytes c.as_slice.result.now) (map string_bytes c.in-Ok.words.items) old new (g.N.Sink.told c.args.note.now) (g.N.Sink.told c.over_words.new.note)
    c.over_words.result (exit_status c.from.result) (ap (map string_bytes) c.as_slice.ensures.value) (sym c.from.ensures) c.over_words.ensures.ends)
