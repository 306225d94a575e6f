use Rattle.std.proofs.Common.{subst}
use Rattle.core_parts.specs.Described.{Described}
use Rattle.core_parts.specs.Lent.{HasRoots}
use Rattle.core_cycle.specs.Programmed.{Programmed}
use Rattle.core_cycle.proofs.by_parts.Core.yrot.Goals as goal

pub returns : goal.returns
returns g c =
    subst (λ (p : Programmed). HasRoots p.machine.next_serial p.machine.window c.args.i c.yrot_at.result) c.self.view_is
    (subst (λ (s : Described). HasRoots s.machine.next_serial s.machine.window c.args.i c.yrot_at.result) c.deref.ensures c.yrot_at.ensures)
