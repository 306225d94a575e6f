-- The slots that stayed empty are counted behind the others of their cycle.
use Rattle.std.proofs.Common.{◌≡◌, ◌∙◌, ap₂, refl, rules}
use Rattle.std.specs.Prelude.{slice_get}
use Rattle.run_counts.specs.inner.Counting.{number_with, numbers_by}
use Rattle.slot_reasons.specs.Slots.{Charge, charged, reason_name, slot_names, slots}
use Rattle.slot_reasons.proofs.Counting.{cycle_counted}
use Rattle.slot_reasons.proofs.slots.Slots.lose.Goals as goal

pub returns : goal.returns
returns c =
    let charge : Charge = charged c.args.desc.now c.args.known.now c.args.now.now c.args.over.now (slice_get c.args.rob.now.entries 0) in
    let empty : c.add_at.new.numbers ≡ numbers_by (λ name k. number_with name (reason_name c.reason_of-reason.result) c.saturating_sub-empty.result k) slot_names c.self.inside.numbers =
    c.add_at.ensures (reason_name c.reason_of-reason.result) c.place_of.ensures.at in
    let same : c.self.inside.numbers ≡ c.args.self.now = search rules in
    λ cs e. cycle_counted cs charge (slots cs) _ _ (same ∙ e)
    (empty ∙ ap₂ (λ r n. numbers_by (λ name k. number_with name (reason_name r) n k) slot_names c.self.inside.numbers) c.reason_of-reason.ensures c.saturating_sub-empty.ensures) refl
