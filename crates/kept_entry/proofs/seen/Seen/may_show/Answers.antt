use Rattle.std.proofs.Common.{subst}
use Rattle.core_parts.specs.Lent.{HasRoots}
use Rattle.kept_entry.proofs.Showing.{transmits}
use Rattle.kept_entry.proofs.seen.Seen.may_show.Goals as goal

pub returns-in-Load : goal.returns-in-Load
returns-in-Load g c =
    let h = c.requires.stands in
    transmits c.args.self.now h.stands c.args.station c.args.found.now.position c.args.found.now.entry.now h.here c.args.core.now.machine.next_serial c.yrot.result (subst (λ window. HasRoots c.args.core.now.machine.next_serial window c.args.found.now.position c.yrot.result) c.requires.core c.yrot.ensures) c.may_transmit.result c.in-Load.is c.may_transmit.ensures
