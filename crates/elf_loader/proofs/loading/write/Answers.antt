use Rattle.std.proofs.Common.{◌≡◌, ◌+◌, ◌-◌, ◌∷◌, [], ◌++◌, take, drop, ℕ, List, ap, ◌∙◌, arith}
use Rattle.elf_loader.proofs.Placing.{written}
use Rattle.elf_loader.proofs.loading.write.Goals as goal

pub returns : goal.returns
returns c =
    let ram = c.args.ram.now in
    let at : c.base.result + c.args.place - ram.base ≡ c.args.place = omega (arith, c.base.ensures.value) in
    c.place.ensures
    ∙ ap (λ (i : ℕ). record ram { bytes = take i ram.bytes ++ (c.args.byte ∷ []) ++ drop (i + 1) ram.bytes }) at
    ∙ ap (λ (b : List ℕ). record ram { bytes = b }) (written ram.bytes c.args.place c.args.byte c.requires)
