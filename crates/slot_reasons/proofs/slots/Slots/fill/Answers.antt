-- The number of the slots in which something retired has the first name.
use Rattle.std.proofs.Common.{◌≡◌, ◌∙◌, ap, codes, refl, rules}
use Rattle.slot_reasons.specs.Slots.{slot_names}
use Rattle.slot_reasons.specs.inner.Filled.{filled}
use Rattle.slot_reasons.proofs.slots.Slots.fill.Goals as goal

pub returns-clause-filled : goal.returns-clause-filled
unfolding slot_names
returns-clause-filled c =
    let same : c.self.inside.numbers ≡ c.args.self.now = search rules in
    c.add_at.ensures (codes "slots_base") refl ∙ ap (filled c.args.retired) same
