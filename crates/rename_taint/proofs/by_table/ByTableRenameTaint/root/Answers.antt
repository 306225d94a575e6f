use Rattle.rename_taint.proofs.Tables.{root_is}
use Rattle.rename_taint.proofs.by_table.ByTableRenameTaint.root.Goals as goal

pub returns : goal.returns
returns c = root_is c.args.self.now.slots c.args.self.now.undo.items c.args.register.number c.args.self.now.table c.args.register.in_range
