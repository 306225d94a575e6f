use Rattle.std.proofs.Common.{◌<◌, length, sym, ◌∙◌, arith}
use Rattle.std.proofs.lemmas.Bool.Decides.{nat_tests}
use Rattle.lsq.proofs.Rising.{found_at}
use Rattle.lsq.proofs.serials.find_near.Goals as goal

pub returns-in-Some : goal.returns-in-Some
returns-in-Some g c =
    let read = c.in-Some.ensures.lookup in
    let test = read.0 in
    let within : c.args.place < length c.args.items.now = grind (arith, nat_tests, test) in
    found_at g.T.Queued.serial c.args.serial c.args.items.now c.args.place c.in-Some.item.now (c.requires c.if-not-rising.false) within read.1 (sym c.serial.ensures ∙ c.if-serial.true)
