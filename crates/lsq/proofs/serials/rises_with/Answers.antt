use Rattle.std.proofs.Common.{◌∙◌, sym, ap₂}
use Rattle.std.specs.Prelude.{nat_lt}
use Rattle.lsq.proofs.Rising.{rises_more}
use Rattle.lsq.proofs.serials.rises_with.Goals as goal

pub returns : goal.returns
returns g c above =
    rises_more g.T.Queued.serial c.args.items.now c.args.item.now c.index-items-items.result _ (c.requires c.if-not-rising.false) c.index-items-items.is
    (sym (ap₂ nat_lt c.serial.ensures c.serial-2.ensures) ∙ above)
