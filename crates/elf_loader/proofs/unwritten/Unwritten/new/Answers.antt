use Rattle.std.proofs.Common.{ap, ◌∙◌}
use Rattle.elf_loader.specs.inner.Jumps.{left_by}
use Rattle.elf_loader.proofs.Jumping.{left_zeros}
use Rattle.elf_loader.proofs.unwritten.Unwritten.new.Goals as goal

pub returns : goal.returns
returns c = ap left_by (c.in_ok-jumps.ensures.items_if_clones_equal (λ y e. e)) ∙ left_zeros c.args.size
