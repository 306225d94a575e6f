use Rattle.std.proofs.Common.{◌<◌, sym, subst}
use Rattle.std.proofs.lemmas.Option.{slice_get_within}
use Rattle.refinement.proofs.Room.{counts_sources}
use Rattle.shown_marks.proofs.seen.Seen.sources_of.Goals as goal

pub sources_at-requires : goal.sources_at-requires
sources_at-requires c =
    let t = c.requires.turn in
    subst (λ n. c.args.candidate.now.position < n) (sym (counts_sources _ t.stands.refines))
    (slice_get_within _ _ _ t.candidate.at)
