-- Each part is what the definition says of it.
use Rattle.std.proofs.Common.{ℕ, ap, ap₂, ◌∙◌}
use Rattle.run_counts.specs.Counted.{as_told}
use Rattle.slot_reasons.specs.Reasons.{late_next}
use Rattle.slot_reasons.specs.declared.Past.{Past}
use Rattle.slot_reasons.specs.declared.Reason.{Reason}
use Rattle.slot_reasons.proofs.walk.past_by.Goals as goal

pub returns : goal.returns
unfolding as_told
returns c =
    let past : Reason → ℕ → Past = λ next queued. record { renamed = c.args.known.renamed; late = c.args.known.late; next = next; queued = queued } in
    ap₂ past (c.late_next.ensures ∙ ap (λ b. late_next b c.args.known.renamed c.args.known.late) c.stops_short.ensures) c.saturating_add.ensures
