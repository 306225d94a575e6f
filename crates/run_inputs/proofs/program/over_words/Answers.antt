-- The words are lent, or there was no memory to lend them.
use Rattle.std.proofs.Common.{map, string_bytes, ap, ◌∙◌, refl}
use Rattle.run_inputs.specs.Told.{world}
use Rattle.run_inputs.proofs.OverWords.{same_end, wants_memory}
use Rattle.run_inputs.proofs.program.over_words.Goals as goal

pub returns-in-Ok-clause-ends : goal.returns-in-Ok-clause-ends
returns-in-Ok-clause-ends g c =
    let old = world (g.F.Files.shelf c.args.files.now) (g.O.Sink.told c.args.out.now) in
    let new = world (g.F.Files.shelf c.top.new.files) (g.O.Sink.told c.top.new.out) in
    same_end g.P.Program.ends (map (λ w. w.now) c.as_slice.result.now) (map string_bytes c.args.words.now) old new (g.N.Sink.told c.args.note.now) (g.N.Sink.told c.top.new.note)
    c.top.result c.top.result (ap (map (λ w. w.now)) c.as_slice.ensures.value ∙ c.in-Ok.ensures.lent) refl c.top.ensures.ends

pub returns-in-Err-clause-ends : goal.returns-in-Err-clause-ends
returns-in-Err-clause-ends g c =
    wants_memory g.P.Program.ends g.met.P.Program.may_lack_memory string_bytes c.args.words.now (g.F.Files.shelf c.args.files.now) (g.O.Sink.told c.args.out.now) (g.N.Sink.told c.args.note.now) (g.N.Sink.told c.refuse.new.note)
    c.in-Err.refused c.from.result c.refuse.result c.in-Err.ensures.wanting c.from.ensures c.refuse.ensures.status c.refuse.ensures.line
