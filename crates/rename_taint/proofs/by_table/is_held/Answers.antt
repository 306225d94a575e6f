use Rattle.std.proofs.Common.{◌≡◌, ap, arith, sym, ◌∙◌, slice_get, Some}
use Rattle.std.specs.Option.{option_copied}
use Rattle.rename_taint.proofs.Tables.{held_on, held_at}
use Rattle.rename_taint.proofs.by_table.is_held.Goals as goal

pub returns-then-held-serial : goal.returns-then-held-serial
returns-then-held-serial c =
    let g : slice_get c.args.undo.now.items c.loop-i.i ≡ Some c.unwrap-held.result.now = sym c.get.ensures ∙ ap option_copied c.unwrap-held.ensures in
    held_at c.args.serial c.loop-i.i c.args.undo.now.items c.unwrap-held.result.now c.requires g c.if-held-serial.true c.loop-i.invariant

pub loop-i-preserved : goal.loop-i-preserved
loop-i-preserved c =
    let g : slice_get c.args.undo.now.items c.loop-i.i ≡ Some c.unwrap-held.result.now = sym c.get.ensures ∙ ap option_copied c.unwrap-held.ensures in
    held_on c.args.serial c.loop-i.i c.args.undo.now.items c.unwrap-held.result.now g (omega arith) c.loop-i.invariant
