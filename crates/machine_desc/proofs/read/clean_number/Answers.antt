use Rattle.toml.specs.View.{table_view}
use Rattle.std.proofs.Common.{◌≡◌, subst}
use Rattle.machine_desc.specs.Allowed.{MayBe}
use Rattle.machine_desc.proofs.Passing.{number_at, found, may_be}
use Rattle.machine_desc.proofs.read.clean_number.Goals as goal

pub unreachable-requires : goal.unreachable-requires
unreachable-requires c =
    let f = (found c.args.version (table_view c.args.document.now) c.args.key c.requires.clean c.requires.whole).is in
    cc (f, c.in-Err.ensures)

pub returns-clause-set : goal.returns-clause-set
returns-clause-set c =
    let f = found c.args.version (table_view c.args.document.now) c.args.key c.requires.clean c.requires.whole in
    cc (f.is, f.set, c.in-Ok.ensures)

pub returns-clause-fits : goal.returns-clause-fits
returns-clause-fits c =
    let f = found c.args.version (table_view c.args.document.now) c.args.key c.requires.clean c.requires.whole in
    let same : number_at c.args.version (table_view c.args.document.now) c.args.key ≡ c.in-Ok.number = cc (f.is, c.in-Ok.ensures) in
    subst (MayBe c.args.version c.args.key) same (may_be c.args.version (table_view c.args.document.now) c.args.key c.requires.clean)
