use Rattle.std.proofs.Common.{ap}
use Rattle.circular_buffer.specs.Buffer.{Buffer}
use Rattle.rename_taint.specs.declared.slots.Undo.{Undo}
use Rattle.rename_taint.proofs.Tables.{pop_back_keeps, pop_none_keeps}
use Rattle.rename_taint.proofs.by_table.pop_youngest.Goals as goal

pub returns-in-Some-clause-table : goal.returns-in-Some-clause-table
returns-in-Some-clause-table c =
    pop_back_keeps c.args.slots.now c.args.undo.now.items c.pop_back.new.self.items c.in-Some.youngest c.restored.result c.requires.table c.in-Some.ensures.value (ap (λ (b : Buffer Undo). b.items) c.in-Some.ensures.items) c.restored.ensures

pub returns-in_default-clause-table : goal.returns-in_default-clause-table
returns-in_default-clause-table c =
    pop_none_keeps c.args.slots.now c.args.undo.now.items c.pop_back.new.self.items c.requires.table c.in_default.ensures.value (ap (λ (b : Buffer Undo). b.items) c.in_default.ensures.items)
