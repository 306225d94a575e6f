-- The count at the entry's place rises by one.
use Rattle.std.proofs.Common.{ℕ, ◌+◌, ◌∙◌, ap, slice_set}
use Rattle.run_counts.specs.Counted.{as_told}
use Rattle.slot_reasons.specs.declared.Kept.{Kept}
use Rattle.slot_reasons.specs.Kept.{kept_place}
use Rattle.slot_reasons.proofs.keeping.note.Goals as goal

pub returns : goal.returns
unfolding as_told
returns c =
    let with_cycles : ℕ → Kept = λ n. record { serial = c.args.serial; cycles = n } in
    ap (λ n. slice_set c.args.kept.now (kept_place c.args.serial) (with_cycles n))
    (c.saturating_add-cycles.ensures ∙ ap (λ n. as_told (n + 1)) c.times_kept.ensures)
