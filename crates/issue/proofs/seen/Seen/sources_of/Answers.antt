use Rattle.std.proofs.Common.{◌<◌, sym, subst}
use Rattle.std.proofs.lemmas.Option.{slice_get_within}
use Rattle.refinement.proofs.Room.{counts_sources}
use Rattle.issue.specs.State.{flight_of}
use Rattle.issue.proofs.seen.Seen.sources_of.Goals as goal

pub sources_at-requires : goal.sources_at-requires
sources_at-requires c =
    let t = c.requires.turn in
    let s = t.stands in
    subst (λ n. c.args.candidate.now.position < n) (sym (counts_sources (flight_of s.next s.writes c.args.self.now) s.refines)) (slice_get_within _ _ _ t.candidate.at)
