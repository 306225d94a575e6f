use Rattle.std.proofs.Common.{◌<◌, sym, ap, ◌∙◌, set, false, length, arith, nat_eq}
use Rattle.std.proofs.lemmas.List.{get_or_read, length-map}
use Rattle.elf_loader.proofs.Jumping.{left_set, left_same}
use Rattle.elf_loader.proofs.unwritten.Unwritten.take.Goals as goal

pub returns-then-index-eq0 : goal.returns-then-index-eq0
returns-then-index-eq0 c = left_set c.self.inside.jumps.items c.args.place 1 (omega arith) ∙ ap (λ v. set v c.args.place false) c.self.view_is

pub returns-else-index-eq0 : goal.returns-else-index-eq0
returns-else-index-eq0 c =
    let js = c.self.inside.jumps.items in
    let p = c.args.place in
    let in_row : p < length js = omega (arith, c.requires, ap length c.self.view_is, length-map js (λ j. nat_eq j 0)) in
    let read = get_or_read js p _ in_row c.index.ensures 0 in
    sym (ap (λ v. set v p false) (sym c.self.view_is) ∙ left_same js p in_row (omega arith) ∙ c.self.view_is)
