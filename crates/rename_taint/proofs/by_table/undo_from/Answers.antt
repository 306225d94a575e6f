use Rattle.std.proofs.Common.{◌≡◌, ap, sym, ◌∙◌, true, false, arith}
use Rattle.std.specs.Prelude.{nat_le}
use Rattle.circular_buffer.specs.Buffer.{Buffer}
use Rattle.rename_taint.specs.declared.slots.Undo.{Undo}
use Rattle.rename_taint.specs.Table.{is_last}
use Rattle.rename_taint.proofs.Tables.{cut_end, cut_on, cut_shorter}
use Rattle.rename_taint.proofs.by_table.undo_from.Goals as goal

pub returns-then-not-is_back_from-clause-left : goal.returns-then-not-is_back_from-clause-left
returns-then-not-is_back_from-clause-left c =
    let a = c.is_back_from.ensures in
    let b = c.if-not-is_back_from.true in
    let h : is_last (λ u. nat_le c.args.first u.write.serial) c.loop-turn.undo.items ≡ false = cc in
    sym (cut_end c.loop-turn.slots c.args.first c.loop-turn.undo.items c.loop-turn.invariant.table h) ∙ c.loop-turn.invariant.left

pub loop-turn-preserved : goal.loop-turn-preserved
loop-turn-preserved c =
    let a = c.is_back_from.ensures in
    let b = c.if-not-is_back_from.false in
    let h : is_last (λ u. nat_le c.args.first u.write.serial) c.loop-turn.undo.items ≡ true = cc in
    let e = ap (λ (b : Buffer Undo). b.items) c.pop_youngest.ensures.left in
    let n = cut_shorter (λ u. nat_le c.args.first u.write.serial) c.loop-turn.undo.items c.pop_youngest.new.undo.items h e in
    record {
      table = c.pop_youngest.ensures.table;
      left = cut_on c.args.first c.loop-turn.undo.items c.pop_youngest.new.undo.items h e ∙ c.loop-turn.invariant.left;
      room = ap (λ (b : Buffer Undo). b.capacity) c.pop_youngest.ensures.left ∙ c.loop-turn.invariant.room;
      turns = omega (arith, n, c.loop-turn.invariant.turns);
    }
