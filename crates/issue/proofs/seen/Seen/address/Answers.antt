use Rattle.std.proofs.Common.{◌∙◌, ap}
use Rattle.rv_types.specs.Isa.{Effect, effect}
use Rattle.issue.proofs.seen.Seen.address.Goals as goal

pub returns : goal.returns
returns c =
    let item = c.args.candidate.now.entry.now.item in
    ap (λ (f : Effect). f.addr) c.effect.ensures ∙ ap (λ a. (effect item.pc item.instr a 0).addr) c.first.ensures
