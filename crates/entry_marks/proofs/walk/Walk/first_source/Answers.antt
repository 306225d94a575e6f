use Rattle.std.proofs.Common.{◌<◌, sym, subst, ◌∙◌, arith}
use Rattle.std.proofs.lemmas.Option.{slice_get_within}
use Rattle.refinement.proofs.Room.{counts_sources}
use Rattle.refinement.proofs.Writers.{tells_writers}
use Rattle.window_model.specs.Order.{sources}
use Rattle.entry_marks.proofs.Sources.{sources_are}
use Rattle.entry_marks.proofs.walk.Walk.first_source.Goals as goal

pub sources_at-requires : goal.sources_at-requires
sources_at-requires c =
    let t = c.requires.stands in
    subst (λ n. c.args.i < n) (sym (counts_sources _ t.refines))
    (slice_get_within _ _ _ c.requires.at)

pub returns : goal.returns
returns c =
    let t = c.requires.stands in
    let w = c.args.self.now in
    let found = tells_writers _ c.args.i c.args.entry.now c.sources_at.result.now t.refines c.requires.at c.sources_at.ensures in
    let within = slice_get_within w.rob.now.entries c.args.i c.args.entry.now c.requires.at in
    c.source_marks.ensures
    ∙ (sources_are w.regs.now w.rob.now.entries w.marks.now.items t.refines.rise t.step c.args.i (omega (arith, within)) c.reads_of.result c.sources_at.result.now.writers _ _ (sources c.args.entry.now) c.reads_of.ensures found).0
