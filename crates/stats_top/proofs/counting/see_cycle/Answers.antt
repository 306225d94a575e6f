-- What is counted is what the core tells once the cycle is over.
use Rattle.std.proofs.Common.{◌≡◌, ◌-◌, ◌∷◌, ◌++◌, [], ◌∙◌, ap, ap₂, subst, sym}
use Rattle.elf_loader.specs.inner.Code.{word_at}
use Rattle.slot_reasons.specs.Slots.{Charge}
use Rattle.stats_top.specs.Stats.{Numbers, numbers_of}
use Rattle.stats_top.specs.inner.Counting.{Sound}
use Rattle.stats_top.proofs.Keeping.{sound_next, sound_rises}
use Rattle.stats_top.proofs.Seeing.{charge_is, known_is}
use Rattle.stats_top.proofs.counting.see_cycle.Given as given
use Rattle.stats_top.proofs.counting.see_cycle.Goals as goal

-- how many retired is what the cycle adds to the retired
many : (g : given.Over) (c : goal.After-count g) → c.saturating_sub-retired.result ≡ c.cycle.new.self.machine.retired - c.args.core.now.machine.retired
many g c =
    let y = c.cycle.new.self.machine in
    c.saturating_sub-retired.ensures ∙ ap₂ (λ a b. a - b) c.retired.ensures c.retired-before.ensures

pub count-requires-clause-desc : goal.count-requires-clause-desc
count-requires-clause-desc g c = c.requires.desc ∙ sym c.cycle.ensures.desc

pub count-requires-clause-rise : goal.count-requires-clause-rise
count-requires-clause-rise g c =
    sound_rises c.args.core.now.desc c.cycle.new.self.machine (sound_next c.args.core.now.desc (word_at c.args.core.now.code) c.args.core.now.machine _ c.cycle.ensures.cycled c.requires.sound)

pub returns-clause-counted : goal.returns-clause-counted
returns-clause-counted g c = λ seen e.
    let x = c.args.core.now in
    let with_charge : Charge → Numbers = λ k. numbers_of (seen ++ record { row = c.cycle.new.row; charge = k } ∷ []) in
    c.count.ensures.counted seen e
    ∙ ap with_charge
    (charge_is _ x.desc (word_at x.code) x.machine c.cycle.new.self.machine c.cycle.new.row c.cycle.new.piece c.args.carried.now.known _ c.requires.desc c.cycle.ensures.cycled (many g c))

pub returns-clause-known : goal.returns-clause-known
returns-clause-known g c =
    let x = c.args.core.now in
    c.count.ensures.known
    ∙ known_is _ x.desc (word_at x.code) x.machine c.cycle.new.self.machine c.cycle.new.row c.cycle.new.piece c.args.carried.now.known _ c.requires.desc c.cycle.ensures.cycled (many g c)

pub returns-clause-sound : goal.returns-clause-sound
returns-clause-sound g c =
    subst (λ d. Sound d c.cycle.new.self.machine) (sym c.cycle.ensures.desc)
    (sound_next c.args.core.now.desc (word_at c.args.core.now.code) c.args.core.now.machine _ c.cycle.ensures.cycled c.requires.sound)
