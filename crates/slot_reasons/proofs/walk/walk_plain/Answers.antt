-- One more item is fetched.
use Rattle.std.proofs.Common.{ℕ, ap}
use Rattle.run_counts.specs.Counted.{as_told}
use Rattle.slot_reasons.specs.declared.Walked.{Walked}
use Rattle.slot_reasons.proofs.walk.walk_plain.Goals as goal

pub returns-in-Fet-clause-plain : goal.returns-in-Fet-clause-plain
unfolding as_told
returns-in-Fet-clause-plain c =
    let with_fetched : ℕ → Walked = λ n. record { late = c.args.known.now.late; renamed = c.args.known.now.renamed; left = c.args.known.now.left; fetched = n } in
    λ p behind_bit. rw c.in-Fet.is (ap with_fetched c.saturating_add-known.ensures)
