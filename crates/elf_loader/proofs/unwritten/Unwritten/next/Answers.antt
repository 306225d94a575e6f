use Rattle.std.proofs.Common.{◌<◌, ◌≤◌, List, Bool, false, get_or, length, sym, ap, ◌∙◌, arith, subst, ℕ}
use Rattle.elf_loader.proofs.Jumping.{taken_at}
use Rattle.elf_loader.proofs.unwritten.Unwritten.next.Goals as goal

pub returns-clause-taken : goal.returns-clause-taken
returns-clause-taken c = λ k a b.
    let js = c.self.inside.jumps.items in
    let within : c.walk-end.result ≤ length js = omega (arith, c.walk-end.ensures.within, c.as_slice.ensures.len, c.self.inside.jumps.ok.0) in
    ap (λ (v : List Bool). get_or v k false) (sym c.self.view_is) ∙ taken_at js k (omega arith) (subst (λ (v : List ℕ). 0 < get_or v k 0) c.as_slice.ensures.value (c.walk-end.ensures.none k a b))
