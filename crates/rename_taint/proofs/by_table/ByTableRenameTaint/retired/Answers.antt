use Rattle.std.proofs.Common.{ap, sym, ◌∙◌}
use Rattle.circular_buffer.specs.Buffer.{Buffer}
use Rattle.rename_taint.specs.declared.slots.Undo.{Undo}
use Rattle.rename_taint.proofs.Tables.{front_retires, none_retires}
use Rattle.rename_taint.proofs.by_table.ByTableRenameTaint.retired.Goals as goal

pub returns-then-is_front-clause-left : goal.returns-then-is_front-clause-left
returns-then-is_front-clause-left c =
    front_retires _ c.args.serial c.args.self.now.undo.items c.pop_oldest.new.undo.items c.args.self.now.table (sym c.is_front.ensures ∙ c.if-is_front.true) (ap (λ (b : Buffer Undo). b.items) c.pop_oldest.ensures.left)

pub returns-else-is_front_up_to-clause-left : goal.returns-else-is_front_up_to-clause-left
returns-else-is_front_up_to-clause-left c =
    none_retires _ c.args.serial c.args.self.now.undo.items c.args.self.now.table (sym c.is_front_up_to.ensures ∙ c.if-is_front_up_to.false)
