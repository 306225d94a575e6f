use Rattle.std.proofs.Common.{ap}
use Rattle.circular_buffer.specs.Buffer.{Buffer}
use Rattle.rename_taint.specs.declared.slots.Undo.{Undo}
use Rattle.rename_taint.proofs.Tables.{table_append}
use Rattle.rename_taint.proofs.by_table.append.Goals as goal

pub returns-clause-table : goal.returns-clause-table
returns-clause-table c =
    let e = ap (λ (b : Buffer Undo). b.items) c.push_within.ensures in
    rw e (table_append c.args.slots.now c.args.undo.now.items c.args.write c.requires.table c.requires.register c.requires.youngest)
