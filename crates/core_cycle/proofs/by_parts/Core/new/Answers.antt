use Rattle.std.proofs.Common.{sym, subst}
use Rattle.elf_loader.specs.inner.Code.{word_at}
use Rattle.core_parts.specs.Described.{Described, described_opening}
use Rattle.core_cycle.specs.Kept.{KeptUntil}
use Rattle.core_cycle.proofs.Opening.{opening_kept_until}
use Rattle.core_cycle.proofs.by_parts.Core.new.Goals as goal

-- what holds of parts that stand between two cycles
abbrev Between : Described → Type 0
Between p = KeptUntil 0 (word_at p.code) p

-- the parts of a new core meet the core's invariant
pub invariant_of-result : goal.invariant_of-result
invariant_of-result g c =
    let begun : Between (described_opening c.args.desc.now c.args.image.code c.args.image.entry c.args.image.ram) =
    opening_kept_until c.args.desc.now c.args.image.code c.args.image.entry c.args.image.ram in
    subst Between (sym c.in-Ok.ensures.ok) (subst Between (sym c.in_ok-parts.ensures) begun)
