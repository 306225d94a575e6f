-- Where no slot stayed empty, the slots of the cycle are all counted.
use Rattle.std.proofs.Common.{◌≡◌, ◌∷◌, [], ◌-◌, ◌∙◌, ap, ap₂, sym}
use Rattle.std.proofs.lemmas.List.{map-append}
use Rattle.run_counts.specs.Counted.{numbers}
use Rattle.slot_reasons.specs.Slots.{Charge, Seen, slots}
use Rattle.slot_reasons.proofs.Counting.{full_counted}
use Rattle.stats_top.specs.Stats.{Numbers, numbers_of}
use Rattle.stats_top.specs.inner.Counting.{charge_by}
use Rattle.stats_top.proofs.numbers.Numbers.count.Goals as goal

pub returns-then-fill-eq0-clause-counted : goal.returns-then-fill-eq0-clause-counted
returns-then-fill-eq0-clause-counted g c = λ seen e.
    let charge : Charge = charge_by c.args.desc.now c.args.known.now c.args.row.now.events c.args.retired c.args.core.now.machine in
    let last : Seen = record { row = c.args.row.now; charge = charge } in
    let before : record { counts = c.self.inside.counts; slots = c.self.inside.slots } ≡ numbers_of seen = c.self.view_is ∙ e in
    let none : c.args.desc.now.core_retire_width - c.args.retired ≡ 0 = sym c.fill.ensures.empty ∙ c.if-fill-eq0.true in
    ap₂ (λ a b. record { counts = a; slots = b })
    (c.count_row-now.ensures.counts _ (ap (λ (n : Numbers). n.counts) before) ∙ ap numbers (sym (map-append (λ (s : Seen). s.row) seen (last ∷ []))))
    (full_counted _ charge c.self.inside.slots _ none c.fill.ensures.filled (ap (λ (n : Numbers). n.slots) before) ∙ ap slots (sym (map-append (λ (s : Seen). s.charge) seen (last ∷ []))))
